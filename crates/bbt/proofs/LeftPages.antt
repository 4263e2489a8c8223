-- What is seen of a page that was left blank, complete, unreadable, with zeros or as it was; and what is seen of a good copy: its table has N/4 bytes
-- and its version is a byte. Of the laws under demand 3 these alone look at bytes.
-- Assumes nothing.
use Rattle.std.specs.Prelude.{Ok}
use mathlib.Core.Bool.{Bool, true, false, ◌&&◌, cond, false≢true}
use mathlib.Core.List.{List, ◌++◌}
use mathlib.Core.Logic.{◌⊎◌, inl, inr, ◌≢◌}
use mathlib.Core.Path.{◌≡◌, refl, sym, ap, ◌∙◌, subst}
use Prim.Native.Nat.{ℕ, zero, suc, ◌+◌, ◌*◌, ◌-◌, ◌%◌, ◌<◌, ◌≤◌, min}
use native.Mathlib.Omega.{arith}
use borrow.Author.Tests.{eq-eqb, ne_eqb}
use lib.Dec.{eqb, lit<}
use lib.ListN.{length, take, drop, get_or, replicate, length-append, length-take, length-drop, length-replicate}
use lib.Seq.{take-take, take_at, drop-append-add, get_or-drop}
use Rattle.bits.proofs.Both.{or_true}
use Rattle.bits.specs.Bytes.{word}
use Rattle.chip.specs.Large.{chip_of, bitmap_bytes, pages_of}
use Rattle.chip.specs.declared.LargeChip.{LargeChip}
use Rattle.bbt.specs.declared.Kind.{Kind}
use Rattle.bbt.specs.declared.Kind.TheVariants.{Primary, Mirror, Neither}
use Rattle.bbt.specs.Copies.{Table, page_version, page_part, is_page, parts, good, table}
use Rattle.bbt.specs.Images.{chunk, image_data, image_tail, part_image, page_image}
use Rattle.bbt.specs.Pages.{Page, unreadable, marked, reads, same_kind, kind_of_word, kind_of, version_of, part_length, bad_mark, zero_oob, bad_page, page_of, seen}
use Rattle.bbt.specs.Regions.{Region, view, status_at, bytes_at, NotZeroed, Blank, Complete, Zeroed, Unreadable, Lost, Kept}
use Rattle.bbt.proofs.Raw.{Valid, chip_valid, page_byte, page_below, page_length}
use Rattle.bbt.proofs.Searches.{all_intro, all_at, all_not}

-- ---- the chip
pub record Judged (chip : LargeChip) : Type 0 where
  pub is-chip : chip_of chip.blocks chip.region ≡ Ok chip
  pub some_page : 0 < pages_of chip
  pub fours : chip.blocks % 4 ≡ 0
  pub within : chip.region ≤ chip.blocks

pub judge : (n size : ℕ) (chip : LargeChip) → chip_of n size ≡ Ok chip → Judged chip
judge n size chip e =
    let v : Valid n size chip = chip_valid n size chip e in
    record {
      is-chip = ap (λ (m : ℕ). chip_of m chip.region) v.blocks ∙ ap (chip_of n) v.region ∙ e;
      some_page = v.some_page;
      fours = ap (λ (m : ℕ). m % 4) v.blocks ∙ v.right_n.fours;
      within = omega (arith, v.blocks, v.region, v.right_size);
    }

-- ---- the two kinds of a copy
-- k is one of them, j the other
pub data Twin : Kind → Kind → Type 0 where
  primary_kind : Twin Primary Mirror
  mirror_kind : Twin Mirror Primary

pub twin_sym : {k j : Kind} → Twin k j → Twin j k
twin_sym primary_kind = mirror_kind
twin_sym mirror_kind = primary_kind

-- ---- page images
pub length_image_data : (part : List ℕ) → length part ≤ 2048 → length (image_data part) ≡ 2048
unfolding image_data
length_image_data part h = omega (arith, length-append part (replicate (2048 - length part) 255), length-replicate {A = ℕ} (2048 - length part) 255)

pub chunk_length : (p : ℕ) (bitmap : List ℕ) → length (chunk p bitmap) ≤ 2048
unfolding chunk
chunk_length p bitmap = omega (arith, length-take 2048 (drop (2048 * p) bitmap))

image-tail : (k : Kind) (t : Table) (p : ℕ) → drop 2062 (page_image k t p) ≡ image_tail k t.version
unfolding page_image part_image
image-tail k t p =
    let d : List ℕ = image_data (chunk p t.bitmap) in
    let e : length d + 14 ≡ 2062 = omega (arith, length_image_data (chunk p t.bitmap) (chunk_length p t.bitmap)) in
    subst (λ (n : ℕ). drop n (d ++ (replicate 14 255 ++ image_tail k t.version)) ≡ image_tail k t.version) e
    (drop-append-add d (replicate 14 255 ++ image_tail k t.version) 14)

image-data : (k : Kind) (t : Table) (p : ℕ) → take 2048 (page_image k t p) ≡ image_data (chunk p t.bitmap)
unfolding page_image part_image
image-data k t p =
    take_at (image_data (chunk p t.bitmap)) (replicate 14 255 ++ image_tail k t.version) 2048
    (length_image_data (chunk p t.bitmap) (chunk_length p t.bitmap))

image_part : (chip : LargeChip) (t : Table) (p : ℕ) → length t.bitmap ≡ bitmap_bytes chip
    → take (part_length chip p) (image_data (chunk p t.bitmap)) ≡ chunk p t.bitmap
unfolding image_data chunk
image_part chip t p h =
    let c : List ℕ = take 2048 (drop (2048 * p) t.bitmap) in
    take_at c (replicate (2048 - length c) 255) (part_length chip p)
    (omega (arith, length-take 2048 (drop (2048 * p) t.bitmap), length-drop (2048 * p) t.bitmap))

-- signature and version in OOB 14-18
tail_kind : {k j : Kind} (v : ℕ) → Twin k j
    → kind_of_word (word (get_or (image_tail k v) 0 0) (get_or (image_tail k v) 1 0) (get_or (image_tail k v) 2 0) (get_or (image_tail k v) 3 0)) ≡ k
unfolding image_tail kind_of_word
tail_kind v primary_kind = refl
tail_kind v mirror_kind = refl

tail_version : {k j : Kind} (v : ℕ) → Twin k j → get_or (image_tail k v) 4 0 ≡ v
unfolding image_tail
tail_version v primary_kind = refl
tail_version v mirror_kind = refl

tail_first : {k j : Kind} (v : ℕ) → Twin k j → get_or (image_tail k v) 0 0 ≢ 0
unfolding image_tail
tail_first v primary_kind e = omega arith
tail_first v mirror_kind e = omega arith

signed : {k j : Kind} → Twin k j → same_kind k Neither ≡ false
unfolding same_kind
signed primary_kind = refl
signed mirror_kind = refl

-- ---- a page of a region
not_zero : (l : List ℕ) → NotZeroed l → zero_oob l ≡ false
unfolding zero_oob
not_zero l (j, h, n) = all_not 64 (λ j. eqb (get_or l (2048 + j) 0) 0) j h (ne_eqb (get_or l (2048 + j) 0) 0 n)

-- a page with no bad mark, which as a first page shows an OOB byte that isn't 0, does not mark its block as bad
fit_page : (p s : ℕ) (l : List ℕ) → bad_mark s l ≡ false → (p ≡ 0 → NotZeroed l) → bad_page p s l ≡ false
unfolding bad_page
fit_page zero s l e h = rw (e, not_zero l (h refl))
fit_page (suc p) s l e h = rw (ne_eqb (suc p) 0 (λ z. omega arith))

-- such is a page that shows a signature
signed_fit : {k j : Kind} (p s : ℕ) (l : List ℕ) → Twin k j → kind_of l ≡ k → get_or l 2062 0 ≢ 0 → bad_page p s l ≡ false
unfolding bad_mark
signed_fit p s l o e n = fit_page p s l (rw (e, signed o) (go (eqb s 0))) (λ _. (14, lit< tt, n))
  where
    go : (y : Bool) → (y && false) ≡ false
    go true = refl
    go false = refl

module _ {chip : LargeChip} where
  -- page p of a copy of t, of kind k, stands complete in block b
  abbrev pub Stands : Region chip → ℕ → ℕ → Kind → Table → Type 0
  Stands r b p k t = Complete r b p (page_image k t p)

  pub kept_seen : (r s : Region chip) (b p : ℕ) → Kept r s b p → view s b p ≡ view r b p
  unfolding seen
  kept_seen r s b p h =
      let x = h.same_status in
      let y = h.same_bytes in
      cc

  pub lost_seen : (r : Region chip) (b p : ℕ) → Lost r b p → view r b p ≡ unreadable
  unfolding seen page_of bad_mark
  lost_seen r b p h = let e : bad_page p 1 (bytes_at r b p) ≡ false = fit_page p 1 (bytes_at r b p) refl h.shows in rw (h.fails, e)

  -- unreadable with any bytes: a first page can mark its block as bad
  pub unreadable_seen : (r : Region chip) (b : ℕ) → Unreadable r b 0 → (view r b 0 ≡ unreadable) ⊎ (view r b 0 ≡ marked)
  unfolding seen page_of
  unreadable_seen r b h = go (bad_page 0 (status_at r b 0) (bytes_at r b 0)) refl
    where
      go : (x : Bool) → bad_page 0 (status_at r b 0) (bytes_at r b 0) ≡ x → (view r b 0 ≡ unreadable) ⊎ (view r b 0 ≡ marked)
      go true e = inr (rw e)
      go false e = inl (rw (e, h.fails))

  pub zeroed_seen : (r : Region chip) (b : ℕ) → Zeroed r b 0 → view r b 0 ≡ marked
  unfolding seen page_of bad_page zero_oob
  zeroed_seen r b h =
      let l : List ℕ = bytes_at r b 0 in
      let e : zero_oob l ≡ true = all_intro 64 (λ j. eqb (get_or l (2048 + j) 0) 0) (λ j k. eq-eqb (get_or l (2048 + j) 0) 0 (h.zero-oob j k)) in
      rw (e, or_true (bad_mark (status_at r b 0) l))

  pub blank_seen : (r : Region chip) (b p : ℕ) → Blank r b p → (d : List ℕ) × (view r b p ≡ reads Neither 255 d)
  unfolding seen page_of bad_mark kind_of kind_of_word same_kind
  blank_seen r b p h =
      let e : bad_page p 0 (replicate 2112 255) ≡ false = fit_page p 0 (replicate 2112 255) refl (λ _. (0, lit< tt, λ z. omega arith)) in
      (take (part_length chip p) (replicate 2112 255), rw (h.well, h.all_ff, e))

  pub stands_seen : (r : Region chip) (b p : ℕ) (k j : Kind) (t : Table) → Twin k j → length t.bitmap ≡ bitmap_bytes chip
      → Stands r b p k t → view r b p ≡ reads k t.version (chunk p t.bitmap)
  unfolding seen page_of kind_of
  stands_seen r b p k j t o len h =
      let l : List ℕ = bytes_at r b p in
      let as_asked : drop 2062 l ≡ drop 2062 (page_image k t p) = h.oob_as_asked in
      let tail : drop 2062 l ≡ image_tail k t.version = as_asked ∙ image-tail k t p in
      let at : (i : ℕ) → get_or l (2062 + i) 0 ≡ get_or (image_tail k t.version) i 0 =
      λ i. sym (get_or-drop 2062 l i 0) ∙ ap (λ (m : List ℕ). get_or m i 0) tail in
      let e : kind_of l ≡ k = rw (at 0, at 1, at 2, at 3) (tail_kind t.version o) in
      let v : version_of l ≡ t.version = at 4 ∙ tail_version t.version o in
      let d : take (part_length chip p) l ≡ chunk p t.bitmap =
      sym (take-take (part_length chip p) 2048 l (omega arith)) ∙ rw (h.data_as_asked, image-data k t p) (image_part chip t p len) in
      let u : get_or l 2062 0 ≢ 0 = λ z. tail_first t.version o (sym (at 0) ∙ z) in
      let f : bad_page p 0 l ≡ false = signed_fit p 0 l o e u in
      rw (h.well, f, e, v, d)

  -- ---- the table of a good copy
  length_part : (r : Region chip) (b p v : ℕ) (k : Kind) → b < chip.region → p < pages_of chip → is_page k v (view r b p) ≡ true
      → length (page_part (view r b p)) ≡ part_length chip p
  unfolding seen page_of is_page page_part
  length_part r b p v k hb hp = go (bad_page p (status_at r b p) (bytes_at r b p)) (eqb (status_at r b p) 0)
    where
      l : List ℕ
      l = bytes_at r b p

      whole : length l ≡ 2112
      whole = page_length chip r.image (b * pages_of chip + p) r.image_length (page_below chip b p hb hp)

      read : Page
      read = reads (kind_of l) (version_of l) (take (part_length chip p) l)

      go : (y x : Bool) → is_page k v (cond y marked (cond x read unreadable)) ≡ true → length (page_part (cond y marked (cond x read unreadable))) ≡ part_length chip p
      go true x e = absurd (false≢true e)
      go false true e = omega (arith, length-take (part_length chip p) l, whole)
      go false false e = absurd (false≢true e)

  length_parts : (r : Region chip) (b v : ℕ) (k : Kind) → b < chip.region → (n : ℕ) → n ≤ pages_of chip
      → ((p : ℕ) → p < pages_of chip → is_page k v (view r b p) ≡ true) → length (parts n (view r b)) ≡ min (2048 * n) (bitmap_bytes chip)
  unfolding parts
  length_parts r b v k hb zero hn h = omega arith
  length_parts r b v k hb (suc n) hn h =
      omega (
        arith,
        length-append (parts n (view r b)) (page_part (view r b n)),
        length_parts r b v k hb n (omega arith) h,
        length_part r b n v k hb (omega arith) (h n (omega arith)),
      )

  pub length_table : (r : Region chip) (b : ℕ) (k : Kind) → b < chip.region → good (pages_of chip) (view r) k b ≡ true
      → length (table (pages_of chip) (view r) b).bitmap ≡ bitmap_bytes chip
  unfolding good table
  length_table r b k hb e =
      omega (
        arith,
        length_parts r b (page_version (view r b 0)) k hb (pages_of chip) (omega arith)
            (λ p l. all_at (pages_of chip) (λ p. is_page k (page_version (view r b 0)) (view r b p)) e p l),
      )

  pub version_byte : (r : Region chip) (b p : ℕ) → page_version (view r b p) < 256
  unfolding seen page_of page_version
  version_byte r b p = go (bad_page p (status_at r b p) (bytes_at r b p)) (eqb (status_at r b p) 0)
    where
      l : List ℕ
      l = bytes_at r b p

      at : version_of l < 256
      at = rw (page_byte r.image (b * pages_of chip + p) 2066 (lit< tt)) (r.image_bytes ((b * pages_of chip + p) * 2112 + 2066))

      go : (y x : Bool) → page_version (cond y marked (cond x (reads (kind_of l) (version_of l) (take (part_length chip p) l)) unreadable)) < 256
      go true x = lit< tt
      go false true = at
      go false false = lit< tt
