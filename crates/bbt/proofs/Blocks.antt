-- Laws of a block, for any number of pages: which pages are of no copy, what a good copy is not, and that a block whose pages were all
-- written is a good copy of the table.
-- Assumes nothing.
use mathlib.Core.Bool.{true, false, false≢true}
use mathlib.Core.List.{List, ◌++◌}
use mathlib.Core.Path.{◌≡◌, refl, ap, ◌∙◌}
use Prim.Native.Nat.{ℕ, zero, suc, ◌+◌, ◌*◌, ◌<◌, ◌≤◌}
use native.Mathlib.Omega.{arith}
use borrow.Author.Tests.{eqb-true, eq-eqb}
use lib.Dec.{eqb}
use lib.ListN.{length, take, drop}
use lib.Seq.{take-add, take_all}
use Rattle.bits.proofs.Both.{both_left, both_right, both_intro}
use Rattle.bbt.specs.declared.Kind.{Kind}
use Rattle.bbt.specs.declared.Kind.TheVariants.{Primary, Mirror, Neither}
use Rattle.bbt.specs.Copies.{Table, page_version, page_part, is_page, is_marked, good, reads_bad, parts, table}
use Rattle.bbt.specs.Images.{chunk}
use Rattle.bbt.specs.Pages.{Page, unreadable, marked, reads, same_kind, View}
use Rattle.bbt.proofs.LeftPages.{Twin, primary_kind, mirror_kind}
use Rattle.bbt.proofs.Searches.{all_intro, all_at, all_not}

-- ---- a page
same_kind_eq : (k j : Kind) → same_kind k j ≡ true → k ≡ j
unfolding same_kind
same_kind_eq Primary Primary e = refl
same_kind_eq Primary Mirror e = absurd (false≢true e)
same_kind_eq Primary Neither e = absurd (false≢true e)
same_kind_eq Mirror Primary e = absurd (false≢true e)
same_kind_eq Mirror Mirror e = refl
same_kind_eq Mirror Neither e = absurd (false≢true e)
same_kind_eq Neither Primary e = absurd (false≢true e)
same_kind_eq Neither Mirror e = absurd (false≢true e)
same_kind_eq Neither Neither e = refl

own_kind : {k j : Kind} → Twin k j → same_kind k k ≡ true
unfolding same_kind
own_kind primary_kind = refl
own_kind mirror_kind = refl

-- a page that passes
is-page : (k : Kind) (v : ℕ) (g : Page) → is_page k v g ≡ true → (d : List ℕ) × (g ≡ reads k v d)
unfolding is_page
is-page k v unreadable e = absurd (false≢true e)
is-page k v marked e = absurd (false≢true e)
is-page k v (reads j w d) e =
    let x : k ≡ j = same_kind_eq k j (both_left (same_kind k j) (eqb v w) e) in
    let y : v ≡ w = eqb-true v w (both_right (same_kind k j) (eqb v w) e) in
    (d, cc)

-- a page of no copy of kind k
pub data Foreign (k : Kind) : Page → Type 0 where
  unreadable_page : Foreign k unreadable
  marked_page : Foreign k marked
  unsigned_page : {v : ℕ} {d : List ℕ} → Foreign k (reads Neither v d)
  twin_page : {j : Kind} {v : ℕ} {d : List ℕ} → Twin k j → Foreign k (reads j v d)

foreign_page : (k j : Kind) (v : ℕ) → Twin k j → (g : Page) → Foreign k g → is_page k v g ≡ false
unfolding is_page same_kind
foreign_page k j v o unreadable unreadable_page = refl
foreign_page k j v o marked marked_page = refl
foreign_page k j v primary_kind (reads Neither w d) unsigned_page = refl
foreign_page k j v mirror_kind (reads Neither w d) unsigned_page = refl
foreign_page k j v o (reads i w d) (twin_page primary_kind) = refl
foreign_page k j v o (reads i w d) (twin_page mirror_kind) = refl

-- ---- the pages of a table, side by side, are the table
parts_chunks : (n : ℕ) (f : ℕ → Page) (t : List ℕ) → ((i : ℕ) → i < n → page_part (f i) ≡ chunk i t) → parts n f ≡ take (2048 * n) t
unfolding parts chunk
parts_chunks zero f t h = refl
parts_chunks (suc n) f t h =
    let a : parts n f ≡ take (2048 * n) t = parts_chunks n f t (λ i l. h i (omega arith)) in
    let b : page_part (f n) ≡ take 2048 (drop (2048 * n) t) = h n (omega arith) in
    let s : 2048 * suc n ≡ 2048 * n + 2048 = omega arith in
    let c : take (2048 * n + 2048) t ≡ take (2048 * n) t ++ take 2048 (drop (2048 * n) t) = take-add (2048 * n) 2048 t in
    cc

-- ---- a block
module _ (P : ℕ) (some_page : 0 < P) (R : View) (b : ℕ) where
  -- with one such page the block is no good copy
  pub not_good : (k j : Kind) → Twin k j → (p : ℕ) → p < P → Foreign k (R b p) → good P R k b ≡ false
  unfolding good
  not_good k j o p l h = all_not P (λ p. is_page k (page_version (R b 0)) (R b p)) p l (foreign_page k j (page_version (R b 0)) o (R b p) h)

  first_page : (k : Kind) → good P R k b ≡ true → (d : List ℕ) × (R b 0 ≡ reads k (page_version (R b 0)) d)
  unfolding good
  first_page k e = is-page k (page_version (R b 0)) (R b 0) (all_at P (λ p. is_page k (page_version (R b 0)) (R b p)) e 0 some_page)

  -- a good copy is none of the other kind, and not readable as bad
  pub good_not_twin : (k j : Kind) → Twin j k → good P R k b ≡ true → good P R j b ≡ false
  good_not_twin k j o e = not_good j k o 0 some_page (rw (first_page k e).1 (twin_page o))

  pub good_not_bad : (k : Kind) → good P R k b ≡ true → reads_bad R b ≡ false
  unfolding reads_bad is_marked
  good_not_bad k e = ap is_marked (first_page k e).1

  -- all pages of a copy of t
  module _ (k j : Kind) (o : Twin k j) (t : Table) (len : length t.bitmap ≤ 2048 * P)
      (h : (p : ℕ) → p < P → R b p ≡ reads k t.version (chunk p t.bitmap)) where
    first_version : page_version (R b 0) ≡ t.version
    unfolding page_version
    first_version = ap page_version (h 0 some_page)

    pub written_good : good P R k b ≡ true
    unfolding good is_page
    written_good =
        all_intro P (λ p. is_page k (page_version (R b 0)) (R b p))
        (λ p l. rw (h p l, first_version) (both_intro (same_kind k k) (eqb t.version t.version) (own_kind o) (eq-eqb t.version t.version refl)))

    pub written_table : table P R b ≡ t
    unfolding table page_part
    written_table =
        let e : parts P (R b) ≡ t.bitmap =
        parts_chunks P (R b) t.bitmap (λ p l. ap page_part (h p l)) ∙ take_all (2048 * P) t.bitmap len in
        λ i. record { version = first_version i; bitmap = e i }
