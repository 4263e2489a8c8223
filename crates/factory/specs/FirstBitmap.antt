-- What making the first bitmap answers and leaves, at every input.
use Rattle.std.specs.Prelude.{Bool, cond, ◌&&◌, List, ℕ, ◌*◌, eqb, length, ⊤, Result, Ok, Err}
use Rattle.bbt.specs.Entries.{first_bitmap}
use Rattle.bbt.specs.Lent.{on_chip}
use Rattle.chip.specs.Large.{chip_of, bitmap_bytes}
use Rattle.chip.specs.declared.LargeChip.{LargeChip}
use Rattle.chip.specs.declared.Refusal.{Refusal}
use Rattle.chip.specs.declared.Refusal.TheVariants.{Length}

-- 2N marks, and room for N/4 bytes
unfoldable pub marks_lent : LargeChip → List ℕ → List ℕ → Bool
marks_lent chip marks room = eqb (length marks) (2 * chip.blocks) && eqb (length room) (bitmap_bytes chip)

-- N and the region's size, then the lengths
unfoldable pub first_answer : ℕ → ℕ → List ℕ → List ℕ → Result ⊤ Refusal
first_answer n size marks room = on_chip Err (chip_of n size) (λ chip. cond (marks_lent chip marks room) (Ok tt) (Err Length))

-- the lent bytes after it: changed where the bitmap was made only
abbrev pub first_by : Result ⊤ Refusal → List ℕ → List ℕ → List ℕ
first_by (Ok done) new old = new
first_by (Err r) new old = old

unfoldable pub first_after : ℕ → ℕ → List ℕ → List ℕ → List ℕ
first_after n size marks room = first_by (first_answer n size marks room) (first_bitmap n marks) room
