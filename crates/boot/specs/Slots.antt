-- How the code keeps the standing of each boot number below 1,024: in a slot of 32 bits, so that 4 KiB hold them all. No answer depends on
-- how a slot is laid out.
use Rattle.std.specs.Prelude.{cond, List, ℕ, ◌+◌, ◌-◌, ◌*◌, ◌/◌, ◌%◌, eqb, leb, ltb, length, get_or, set, Some, None}
use Rattle.bits.specs.Bytes.{build}
use Rattle.chip.specs.declared.ChipBlock.{ChipBlock}
use Rattle.chip.specs.declared.Generation.{Generation}
use Rattle.boot.specs.Counting.{Counted}
use Rattle.boot.specs.declared.Standing.{Standing}
use Rattle.boot.specs.declared.Standing.TheVariants.{Missing, One, Pair, Wrong}
use Rattle.boot.specs.Mapping.{of_two}

-- a standing in a slot, by the low bits of its numbers
unfoldable pub slot_of : Standing → ℕ
slot_of Missing = 0
slot_of (One b g) = 1 + 4 * (b.0 % 1024) + g.0 % 4
slot_of Wrong = 4097
slot_of (Pair older newer) = 4098 + 1024 * (older.0 % 1024) + newer.0 % 1024

-- and back
unfoldable pub of_slot : ℕ → Standing
of_slot s =
    cond (eqb s 0) Missing
    (cond (leb s 4096) (One (record { 0 = (s - 1) / 4 }) (record { 0 = (s - 1) % 4 }))
    (cond (eqb s 4097) Wrong
    (Pair (record { 0 = (s - 4098) / 1024 }) (record { 0 = (s - 4098) % 1024 }))))

-- how number k stands by the slots
abbrev pub in_slot : List ℕ → ℕ → Standing
in_slot slots k = of_slot (get_or slots k 0)

-- a standing after one block more that carries its number
abbrev pub joined : Standing → ChipBlock → Generation → Standing
joined Missing b g = One b g
joined (One a h) b g = of_two (record { block = a; generation = h }) (record { block = b; generation = g })
joined (Pair older newer) b g = Wrong
joined Wrong b g = Wrong

-- the slots after block b was looked at
abbrev pub noted : List ℕ → ChipBlock → Counted → List ℕ
noted slots b None = slots
noted slots b (Some (k, g)) = cond (ltb k.0 (length slots)) (set slots k.0 (slot_of (joined (in_slot slots k.0) b g))) slots

-- the slots of the numbers below 1,024 that stand as f says
unfoldable pub slots_of : (ℕ → Standing) → List ℕ
slots_of f = build (λ k. slot_of (f k)) 1024
