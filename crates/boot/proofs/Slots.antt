-- A slot gives back the standing that was put into it, where its blocks are below 1,024 and its generation is below 4; so slots that are kept
-- block by block tell at every moment how each number stands.
-- Assumes nothing.
use mathlib.Core.Path.{◌≡◌, refl, ◌∙◌, ap}
use Prim.Native.Nat.{ℕ, ◌<◌}
use native.Mathlib.Omega.{arith}
use lib.ListN.{length, get_or, length-set}
use Rattle.std.proofs.lemmas.Bool.Decides.{nat_tests}
use Rattle.std.proofs.lemmas.Grind.{common_steps}
use Rattle.std.specs.Prelude.{Some, None}
use Rattle.bits.proofs.Filling.{length_build, get_d_build}
use Rattle.chip.specs.declared.ChipBlock.{ChipBlock}
use Rattle.boot.specs.declared.Standing.{Standing}
use Rattle.boot.specs.declared.Standing.TheVariants.{Missing, One, Pair, Wrong}
use Rattle.boot.specs.Counting.{Counted}
use Rattle.boot.specs.Slots.{slot_of, of_slot, noted, slots_of, in_slot}
use Rattle.boot.proofs.Joining.{joined_at}

-- a standing that a slot can hold
abbrev pub Small : Standing → Type 0
Small Missing = Unit {0}
Small (One b g) = (b.0 < 1024) × (g.0 < 4)
Small (Pair older newer) = (older.0 < 1024) × (newer.0 < 1024)
Small Wrong = Unit {0}

slot_back : (s : Standing) → Small s → of_slot (slot_of s) ≡ s
unfolding slot_of of_slot
slot_back Missing h = refl
slot_back (One b g) (hb, hg) = grind (arith, nat_tests)
slot_back (Pair older newer) (ho, hn) = grind (arith, nat_tests)
slot_back Wrong h = refl

pub slot_at : (f : ℕ → Standing) (k : ℕ) → k < 1024 → get_or (slots_of f) k 0 ≡ slot_of (f k)
unfolding slots_of
slot_at f k h = get_d_build (λ i. slot_of (f i)) 1024 k h

-- how number k stands by its slot
pub slot_told : (f : ℕ → Standing) (k : ℕ) → k < 1024 → Small (f k) → in_slot (slots_of f) k ≡ f k
slot_told f k h small = ap of_slot (slot_at f k h) ∙ slot_back (f k) small

pub length_slots : (f : ℕ → Standing) → length (slots_of f) ≡ 1024
unfolding slots_of
length_slots f = length_build (λ k. slot_of (f k)) 1024

-- ---- a block is noted
pub length_noted : (f : ℕ → Standing) (b : ChipBlock) (seen : Counted) → length (noted (slots_of f) b seen) ≡ 1024
length_noted f b None = length_slots f
length_noted f b (Some (m, g)) = grind (arith, nat_tests, length-set {A = ℕ}, length_slots f)

pub noted_at : (f : ℕ → Standing) (b : ChipBlock) (seen : Counted) (i : ℕ) → i < 1024 → Small (f i)
    → get_or (noted (slots_of f) b seen) i 0 ≡ slot_of (joined_at i b seen (f i))
noted_at f b None i h small = slot_at f i h
noted_at f b (Some (m, g)) i h small = grind (arith, nat_tests, common_steps, slot_at f i h, slot_told f i h small, length_slots f)
