-- The extent of N and the region's size tells whether they are refused: P is 1 at least. Bytes that are given lie in the image, so there are
-- 64, and a refusal's number is not 0.
-- Assumes nothing.
use Rattle.std.specs.Prelude.{⊤, Result, Ok, Err}
use mathlib.Core.Bool.{Bool, true, false, cond, ◌&&◌}
use mathlib.Core.List.{List}
use mathlib.Core.Path.{◌≡◌, refl, ap}
use Prim.Native.Nat.{ℕ, suc, ◌+◌, ◌*◌, ◌≤◌}
use native.Mathlib.Nat.{mul-le-mul_right}
use native.Mathlib.Omega.{arith}
use borrow.Author.Tests.{eqb-true, ltb-true, ne_eqb}
use lib.Dec.{eqb, ltb}
use lib.ListN.{length, length-take, length-drop}
use Rattle.bits.proofs.Both.{both_left, both_right}
use Rattle.bbt.proofs.Raw.{pages_pos}
use Rattle.bbt.specs.Lent.{judged}
use Rattle.chip.proofs.Telling.{told_apart}
use Rattle.chip.specs.Large.{is_blocks, is_region, chip_of, pages_of}
use Rattle.chip.specs.Refusals.{refusal_number}
use Rattle.chip.specs.declared.LargeChip.{LargeChip}
use Rattle.chip.specs.declared.Refusal.{Refusal}
use Rattle.chip.specs.declared.Refusal.TheVariants.{Range}
use Rattle.oob.specs.declared.Extent.{Extent}
use Rattle.oob.specs.Oob.{extent_of, oob_answer, JudgesChip, oob_number, oob_bytes, OobByNumber}

pub judges_chip : (n size lent block page : ℕ) → JudgesChip n size lent block page
unfolding chip_of extent_of oob_answer
judges_chip n size lent block page = go (is_blocks n && is_region n size) refl
  where
    chip : LargeChip
    chip = record { blocks = n; region = size }

    go : (t : Bool) → (is_blocks n && is_region n size) ≡ t → JudgesChip n size lent block page
    go false e = rw e
    go true e = let some = pages_pos n size chip (rw e) in rw (e, ne_eqb (pages_of chip) 0 (λ z. omega arith))

-- a page that is given lies in the image
pub given_inside : (e : Extent) (lent block page : ℕ) → oob_answer e lent block page ≡ Ok tt → (block * e.pages + page + 1) * 2112 ≤ lent
unfolding oob_answer
given_inside e lent block page given = go (eqb e.pages 0) (eqb lent (e.region * e.pages * 2112)) refl (ltb block e.region && ltb page e.pages) refl given
  where
    go : (none l : Bool) → eqb lent (e.region * e.pages * 2112) ≡ l → (s : Bool) → (ltb block e.region && ltb page e.pages) ≡ s
        → cond none (Err Range) (judged Err l s (Ok (tt {0}))) ≡ Ok (tt {0}) → (block * e.pages + page + 1) * 2112 ≤ lent
    go true l a s b x = absurd (cc)
    go false false a s b x = absurd (cc)
    go false true a false b x = absurd (cc)
    go false true a true b x =
        let whole = eqb-true lent (e.region * e.pages * 2112) a in
        let hb = ltb-true block e.region (both_left (ltb block e.region) (ltb page e.pages) b) in
        let hp = ltb-true page e.pages (both_right (ltb block e.region) (ltb page e.pages) b) in
        let last : suc block * e.pages ≤ e.region * e.pages = mul-le-mul_right e.pages hb in
        omega (arith, last)

pub oob_by_number : (e : Extent) (image : List ℕ) (block page : ℕ) → OobByNumber e image block page
unfolding oob_bytes
oob_by_number e image block page = go (oob_answer e (length image) block page) refl
  where
    go : (a : Result ⊤ Refusal) → oob_answer e (length image) block page ≡ a → OobByNumber e image block page
    go (Ok given) a =
        let inside = given_inside e (length image) block page a in
        record { given = λ z. rw a (simp (length-take, length-drop) (omega arith)); refused = λ z. absurd (z (rw a)) }
    go (Err r) a =
        let above = told_apart.above r in
        let number : oob_number (oob_answer e (length image) block page) ≡ refusal_number r = ap oob_number a in
        record { given = λ z. absurd (omega (arith, z)); refused = λ z. rw a }
