-- Document 01: reading a settled pair gives its version and the chip block of each copy, and writes the bitmap into N/4 lent bytes.
use Rattle.std.specs.Prelude.{List, ℕ, Result, Ok, Err}
use Rattle.bbt.specs.Lent.{table_reading, on_chip}
use Rattle.bbt.specs.Plans.{Reading, refused, holds}
use Rattle.bbt.specs.Told.{chip_block}
use Rattle.chip.specs.Large.{chip_of}
use Rattle.chip.specs.declared.LargeChip.{LargeChip}
use Rattle.chip.specs.declared.Refusal.{Refusal}
use Rattle.table.specs.declared.Pair.{Pair}

-- what is told of a reading
abbrev pub told_reading : LargeChip → Reading → Result Pair Refusal
told_reading chip (refused r) = Err r
told_reading chip (holds p m t) = Ok (record { version = t.version; primary = chip_block chip p; mirror = chip_block chip m })

unfoldable pub table_answer : ℕ → ℕ → List ℕ → List ℕ → List ℕ → Result Pair Refusal
table_answer n size image status room = on_chip Err (chip_of n size) (λ chip. told_reading chip (table_reading n size image status room))

-- the lent room after it
abbrev pub room_by : Reading → List ℕ → List ℕ
room_by (refused r) room = room
room_by (holds p m t) room = t.bitmap

unfoldable pub table_after : ℕ → ℕ → List ℕ → List ℕ → List ℕ → List ℕ
table_after n size image status room = room_by (table_reading n size image status room) room
