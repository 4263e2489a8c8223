-- Answers depend only on the bytes that count: pages alike are seen the same, so the views of two images alike agree in the region.
-- Assumes nothing.
use mathlib.Core.Bool.{Bool, true, false}
use mathlib.Core.List.{List}
use mathlib.Core.Path.{◌≡◌, refl, sym, ap, ◌∙◌}
use Prim.Native.Nat.{ℕ, ◌+◌, ◌*◌, ◌<◌, min}
use native.Mathlib.Omega.{arith}
use borrow.Author.Tests.{eqb-true}
use lib.Dec.{eqb, lit<}
use lib.ListN.{length, take, get_or, length-take, length-drop}
use lib.Seq.{get_or-take, ext_get_or}
use Rattle.chip.specs.Large.{pages_of}
use Rattle.chip.specs.declared.LargeChip.{LargeChip}
use Rattle.bbt.specs.Dependence.{WellRead, Alike, Dependence}
use Rattle.bbt.specs.Images.{plan_image}
use Rattle.bbt.specs.Lent.{region_lent, lent_reading, table_reading, lent_plan, planned, imaged}
use Rattle.bbt.specs.Pages.{page_status, page_bytes, kind_of, version_of, part_length, bad_mark, zero_oob, bad_page, page_of, seen}
use Rattle.bbt.specs.Plans.{Answer, Call, plan_by_rules}
use Rattle.bbt.proofs.Raw.{pages_pos}
use Rattle.bbt.proofs.Searches.{all_cong}
use Rattle.bbt.proofs.Views.{reading_agrees, plan_agrees, failures_agree}

-- lists of one length that agree below m start with the same m
take_agrees : (m : ℕ) (x y : List ℕ) → length x ≡ length y → ((j : ℕ) → j < m → get_or x j 0 ≡ get_or y j 0) → take m x ≡ take m y
take_agrees m x y e h =
    ext_get_or 0 (take m x) (take m y) (simp length-take (ap (min m) e))
    (λ i l.
    let below : i < m = omega (arith, length-take m x) in
    get_or-take m x i 0 below ∙ h i below ∙ sym (get_or-take m y i 0 below))

-- two well-read pages alike, as page p of a block
record AlikePage (chip : LargeChip) (p : ℕ) (l m : List ℕ) : Type 0 where
  kind : kind_of l ≡ kind_of m
  version : version_of l ≡ version_of m
  part : take (part_length chip p) l ≡ take (part_length chip p) m

-- two pages whose OOB bytes are the same
abbrev SameOob : List ℕ → List ℕ → Type 0
SameOob l m = (j : ℕ) → j < 64 → get_or l (2048 + j) 0 ≡ get_or m (2048 + j) 0

zero_agrees : (l m : List ℕ) → SameOob l m → zero_oob l ≡ zero_oob m
unfolding zero_oob
zero_agrees l m h = all_cong 64 (λ j. eqb (get_or l (2048 + j) 0) 0) (λ j. eqb (get_or m (2048 + j) 0) 0) (λ j b. ap (λ (x : ℕ). eqb x 0) (h j b))

page_agrees : (chip : LargeChip) (p s : ℕ) (l m : List ℕ) → (s ≡ 0 → AlikePage chip p l m) → (p ≡ 0 → SameOob l m) → page_of chip p s l ≡ page_of chip p s m
unfolding page_of bad_page bad_mark
page_agrees chip p s l m h o = go (eqb s 0) refl (eqb p 0) refl
  where
    go : (t : Bool) → eqb s 0 ≡ t → (u : Bool) → eqb p 0 ≡ u → page_of chip p s l ≡ page_of chip p s m
    go false e false f = rw (e, f)
    go false e true f = rw (e, f, zero_agrees l m (o (eqb-true p 0 f)))
    go true e false f = let a = h (eqb-true s 0 e) in rw (e, f, a.kind, a.version, a.part)
    go true e true f =
        let a = h (eqb-true s 0 e) in
        let same = o (eqb-true p 0 f) in
        rw (e, f, a.kind, a.version, a.part, same 0 (lit< tt), zero_agrees l m same)

module _ (chip : LargeChip) (status x y : List ℕ) (alike : Alike chip status x y) where
  page_lengths : (i : ℕ) → length (page_bytes x i) ≡ length (page_bytes y i)
  unfolding page_bytes
  page_lengths i = simp (length-take, length-drop) (rw alike.lengths)

  page_alike : (b p : ℕ) → WellRead chip status b p
      → AlikePage chip p (page_bytes x (b * pages_of chip + p)) (page_bytes y (b * pages_of chip + p))
  unfolding kind_of
  page_alike b p well =
      let i : ℕ = b * pages_of chip + p in
      let oob = alike.oob b p in
      record {
        kind = rw (oob 14 well (omega arith) (omega arith), oob 15 well (omega arith) (omega arith), oob 16 well (omega arith) (omega arith), oob 17 well (omega arith) (omega arith));
        version = oob 18 well (omega arith) (omega arith);
        part =
            take_agrees (part_length chip p) (page_bytes x i) (page_bytes y i) (page_lengths i) (λ j l. alike.bitmap b p j well l);
      }

  seen_agrees : (b p : ℕ) → b < chip.region → p < pages_of chip → seen chip x status b p ≡ seen chip y status b p
  unfolding seen
  seen_agrees b p hb hp =
      let i : ℕ = b * pages_of chip + p in
      page_agrees chip p (page_status status i) (page_bytes x i) (page_bytes y i)
      (λ e. page_alike b p (record { block = hb; page = hp; well = e })) (λ z j l. rw z (alike.first_oob b j hb l))

  module _ (some_page : 0 < pages_of chip) where
    lent_reading_agrees : (room : List ℕ) → lent_reading chip x status room ≡ lent_reading chip y status room
    unfolding lent_reading region_lent
    lent_reading_agrees room = rw (alike.lengths, reading_agrees chip some_page (seen chip x status) (seen chip y status) seen_agrees)

    lent_plan_agrees : (call : Call) (failed : List ℕ) → lent_plan chip call x status failed ≡ lent_plan chip call y status failed
    unfolding lent_plan region_lent
    lent_plan_agrees call failed =
        rw (
          alike.lengths,
          plan_agrees chip some_page (seen chip x status) (seen chip y status) seen_agrees call,
          failures_agree chip some_page (seen chip x status) (seen chip y status) seen_agrees (plan_by_rules chip (seen chip y status) call) failed,
        )

pub dependence : Dependence
unfolding table_reading planned imaged
dependence n size chip status x y e alike =
    let some_page = pages_pos n size chip e in
    record {
      reads = λ room. rw e (lent_reading_agrees chip status x y alike some_page room);
      plans = λ call failed. rw e (lent_plan_agrees chip status x y alike some_page call failed);
      images = λ call failed i. rw e (ap (λ (a : Answer). plan_image chip a i) (lent_plan_agrees chip status x y alike some_page call failed));
    }
