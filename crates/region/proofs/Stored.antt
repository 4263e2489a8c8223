-- What the rules of a lent image come to on its bytes, as code reads them: a page of a copy by status byte, signature and version, then a
-- good block, a block readable as bad, and the table of a good block. A page that marks its block as bad has neither signature, so it fails
-- as a page of a copy either way.
-- Assumes nothing.
use mathlib.Core.Bool.{Bool, true, false}
use mathlib.Core.List.{List, ◌++◌}
use mathlib.Core.Path.{◌≡◌, refl, sym, ap, ap₂, ◌∙◌}
use Prim.Native.Nat.{ℕ, zero, suc, ◌+◌, ◌*◌, ◌<◌, ◌≤◌}
use native.Mathlib.Nat.{add-zero}
use native.Mathlib.Numerals.{add-one}
use native.Mathlib.Omega.{arith}
use borrow.Author.Tests.{eqb-true}
use lib.Dec.{eqb}
use lib.ListN.{take, drop, get_or}
use lib.Seq.{take-take}
use Rattle.bbt.specs.Copies.{page_version, page_part, is_page, is_marked, good, reads_bad, parts, table}
use Rattle.bbt.specs.Pages.{all, same_kind, page_status, page_bytes, kind_of_word, kind_of, version_of, part_length, reads, bad_mark, zero_oob, bad_page, page_of, View, seen}
use Rattle.bbt.specs.declared.Kind.{Kind}
use Rattle.bbt.specs.declared.Kind.TheVariants.{Neither}
use Rattle.bbt.proofs.Searches.{all_at, all_not, all_cong}
use Rattle.chip.specs.Large.{pages_of}
use Rattle.chip.specs.declared.LargeChip.{LargeChip}
use Rattle.region.specs.Cases.{page_matches}
use Rattle.region.specs.Stored.{stored_parts, stored_table}

-- the start of a page's bytes, in the image
pub page_take : (image : List ℕ) (i m : ℕ) → m ≤ 2112 → take m (page_bytes image i) ≡ take m (drop (i * 2112) image)
unfolding page_bytes
page_take image i m h = take-take m 2112 (drop (i * 2112) image) h

-- ---- a page of a copy
neither_is : (k : Kind) → same_kind k Neither ≡ true → k ≡ Neither
unfolding same_kind
neither_is k e = grind arith

-- 64 zero OOB bytes spell neither signature
zero_neither : (l : List ℕ) → zero_oob l ≡ true → kind_of l ≡ Neither
unfolding zero_oob kind_of kind_of_word
zero_neither l h =
    let byte : (j : ℕ) → j < 64 → get_or l (2048 + j) 0 ≡ 0
    = λ j b. eqb-true (get_or l (2048 + j) 0) 0 (all_at 64 (λ j. eqb (get_or l (2048 + j) 0) 0) h j b) in
    rw (byte 14 (omega arith), byte 15 (omega arith), byte 16 (omega arith), byte 17 (omega arith))

bad_neither : (p s : ℕ) (l : List ℕ) → bad_page p s l ≡ true → kind_of l ≡ Neither
unfolding bad_page bad_mark
bad_neither p s l h = grind (arith, neither_is, zero_neither)

page_raw : (chip : LargeChip) (k : Kind) (v p s : ℕ) (l : List ℕ) → same_kind k Neither ≡ false → is_page k v (page_of chip p s l) ≡ page_matches k v s l
unfolding page_of is_page page_matches
page_raw chip k v p s l signed = grind (arith, bad_neither)

-- a page that passes reads with what its bytes say
page_reads : (chip : LargeChip) (k : Kind) (v p s : ℕ) (l : List ℕ) → is_page k v (page_of chip p s l) ≡ true
    → page_of chip p s l ≡ reads (kind_of l) (version_of l) (take (part_length chip p) l)
unfolding page_of is_page
page_reads chip k v p s l h = grind arith

-- one that fails by its own version fails by any
raw_any : (k : Kind) (v s : ℕ) (l : List ℕ) → page_matches k (version_of l) s l ≡ false → page_matches k v s l ≡ false
unfolding page_matches
raw_any k v s l h = grind arith

marked_raw : (chip : LargeChip) (s : ℕ) (l : List ℕ) → is_marked (page_of chip 0 s l) ≡ bad_page 0 s l
unfolding page_of is_marked
marked_raw chip s l = grind arith

pub stored_parts_next : (chip : LargeChip) (image : List ℕ) (b n : ℕ)
    → stored_parts chip image b (n + 1) ≡ stored_parts chip image b n ++ take (part_length chip n) (page_bytes image (b * pages_of chip + n))
unfolding stored_parts
stored_parts_next chip image b n = rw add-one

module _ (chip : LargeChip) (image status : List ℕ) (b : ℕ) where
  -- a block's first page
  first_seen : seen chip image status b 0 ≡ page_of chip 0 (page_status status (b * pages_of chip)) (page_bytes image (b * pages_of chip))
  unfolding seen
  first_seen = ap (λ (i : ℕ). page_of chip 0 (page_status status i) (page_bytes image i)) (add-zero (b * pages_of chip))

  pub reads_bad_raw : reads_bad (seen chip image status) b ≡ bad_page 0 (page_status status (b * pages_of chip)) (page_bytes image (b * pages_of chip))
  unfolding reads_bad
  reads_bad_raw = ap is_marked first_seen ∙ marked_raw chip (page_status status (b * pages_of chip)) (page_bytes image (b * pages_of chip))

  -- its version, where it passes
  first_version : (k : Kind) (v : ℕ) → is_page k v (seen chip image status b 0) ≡ true
      → page_version (seen chip image status b 0) ≡ version_of (page_bytes image (b * pages_of chip))
  unfolding page_version
  first_version k v h =
      let s : ℕ = page_status status (b * pages_of chip) in
      let l : List ℕ = page_bytes image (b * pages_of chip) in
      ap page_version (first_seen ∙ page_reads chip k v 0 s l (ap (is_page k v) (sym first_seen) ∙ h))

  module _ (k : Kind) (pos : 0 < pages_of chip) where
    -- a good block: each page reads well, has the signature, and the first page's version
    pub good_raw : same_kind k Neither ≡ false → good (pages_of chip) (seen chip image status) k b
        ≡ all (pages_of chip)
        (λ p. page_matches k (version_of (page_bytes image (b * pages_of chip))) (page_status status (b * pages_of chip + p)) (page_bytes image (b * pages_of chip + p)))
    unfolding good seen
    good_raw signed = go (raw v₀ 0) refl
      where
        R : View
        R = seen chip image status

        v₀ : ℕ
        v₀ = version_of (page_bytes image (b * pages_of chip))

        raw : ℕ → ℕ → Bool
        raw v p = page_matches k v (page_status status (b * pages_of chip + p)) (page_bytes image (b * pages_of chip + p))

        each : (v p : ℕ) → is_page k v (R b p) ≡ raw v p
        each v p = page_raw chip k v p (page_status status (b * pages_of chip + p)) (page_bytes image (b * pages_of chip + p)) signed

        go : (t : Bool) → raw v₀ 0 ≡ t → all (pages_of chip) (λ p. is_page k (page_version (R b 0)) (R b p)) ≡ all (pages_of chip) (λ p. raw v₀ p)
        go true a =
            all_cong (pages_of chip) (λ p. is_page k (page_version (R b 0)) (R b p)) (λ p. raw v₀ p)
            (λ p h. ap (λ (v : ℕ). is_page k v (R b p)) (first_version k v₀ (each v₀ 0 ∙ a)) ∙ each v₀ p)
        go false a =
            all_not (pages_of chip) (λ p. is_page k (page_version (R b 0)) (R b p)) 0 pos (each (page_version (R b 0)) 0 ∙ grind (arith, raw_any))
            ∙ sym (all_not (pages_of chip) (λ p. raw v₀ p) 0 pos a)

    -- the table of a good block
    pub table_raw : good (pages_of chip) (seen chip image status) k b ≡ true → table (pages_of chip) (seen chip image status) b
        ≡ stored_table chip image b
    unfolding table good seen page_part parts stored_parts
    table_raw h =
        let v : page_version (R b 0) ≡ version_of (page_bytes image (b * pages_of chip)) = first_version k (page_version (R b 0)) (each 0 pos) in
        let l : parts (pages_of chip) (R b) ≡ stored_parts chip image b (pages_of chip) = join (pages_of chip) each in
        λ i. record { version = v i; bitmap = l i }
      where
        R : View
        R = seen chip image status

        each : (p : ℕ) → p < pages_of chip → is_page k (page_version (R b 0)) (R b p) ≡ true
        each p = all_at (pages_of chip) (λ p. is_page k (page_version (R b 0)) (R b p)) h p

        part : (v p : ℕ) → is_page k v (R b p) ≡ true → page_part (R b p) ≡ take (part_length chip p) (page_bytes image (b * pages_of chip + p))
        part v p a = ap page_part (page_reads chip k v p (page_status status (b * pages_of chip + p)) (page_bytes image (b * pages_of chip + p)) a)

        join : (n : ℕ) → ((p : ℕ) → p < n → is_page k (page_version (R b 0)) (R b p) ≡ true) → parts n (R b) ≡ stored_parts chip image b n
        join zero f = refl
        join (suc n) f = ap₂ ◌++◌ (join n (λ p l. f p (omega arith))) (part (page_version (R b 0)) n (f n (omega arith)))
