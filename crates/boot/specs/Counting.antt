-- Document 02, T-01: which blocks count. "A block counts when both spares read without refusal, both tags are boot and both paths agree;
-- others are passed over."
use Rattle.std.specs.Prelude.{cond, List, ℕ, ◌+◌, ◌*◌, eqb, take, drop, Option, Some, None, Result, Ok, Err}
use Rattle.chip.specs.Boot.{boot_of}
use Rattle.chip.specs.declared.BootNumber.{BootNumber}
use Rattle.chip.specs.declared.Generation.{Generation}
use Rattle.chip.specs.declared.Refusal.{Refusal}
use Rattle.spare.specs.Reading.{spare_answer}
use Rattle.spare.specs.declared.SpareFields.{SpareFields}

-- what a block tells: its boot number and generation; or it is passed over
abbrev pub Counted : Type 0
Counted = Option (BootNumber × Generation)

-- the path of a page whose spare is read without refusal, with the tag boot; tag and path are as repaired
abbrev pub path_by : Result SpareFields Refusal → Option ℕ
path_by (Err r) = None
path_by (Ok f) = cond (eqb f.tag 0x01) (Some f.path) None

-- the boot number and the generation of a path, which has 26 bits
abbrev pub counted_by : Result (BootNumber × Generation) Refusal → Counted
counted_by (Ok boot) = Some boot
counted_by (Err r) = None

-- the paths of first and last page agree
abbrev pub agreed : Option ℕ → Option ℕ → Counted
agreed None q = None
agreed (Some p) None = None
agreed (Some p) (Some q) = cond (eqb p q) (counted_by (boot_of p)) None

-- 32 bytes a block, first page then last
abbrev pub first_spare : List ℕ → ℕ → List ℕ
first_spare spares b = take 16 (drop (32 * b) spares)

abbrev pub last_spare : List ℕ → ℕ → List ℕ
last_spare spares b = take 16 (drop (32 * b + 16) spares)

-- block b, by its place in the input
unfoldable pub block_at : List ℕ → ℕ → Counted
block_at spares b = agreed (path_by (spare_answer (first_spare spares b))) (path_by (spare_answer (last_spare spares b)))
