-- A target: the highest block that is neither to be avoided nor readable as bad. Which blocks are to be avoided is told by one flag a block.
use Rattle.std.specs.Prelude.{Bool, false, not, ◌&&◌, List, ◌≡◌, ℕ, ◌<◌, get_or, Option, Some, None, Result, Ok, Err}
use Rattle.std.proofs.Math.Option.{Option as Search, none, some}
use Rattle.bbt.specs.Copies.{reads_bad, highest}
use Rattle.bbt.specs.Lent.{on_chip, region_lent, statuses_right, judged}
use Rattle.bbt.specs.Pages.{View, seen}
use Rattle.bbt.specs.Plans.{member}
use Rattle.bbt.specs.Told.{region_block}
use Rattle.chip.specs.Large.{chip_of}
use Rattle.chip.specs.declared.LargeChip.{LargeChip}
use Rattle.chip.specs.declared.Refusal.{Refusal}
use Rattle.chip.specs.declared.RegionBlock.{RegionBlock}

abbrev pub told_target : Search ℕ → Option RegionBlock
told_target none = None
told_target (some b) = Some (region_block b)

abbrev pub is_free_by : View → List Bool → ℕ → Bool
is_free_by R avoid b = not (get_or avoid b false) && not (reads_bad R b)

unfoldable pub target_by : LargeChip → View → List Bool → Search ℕ
target_by chip R avoid = highest chip.region (is_free_by R avoid)

-- of a lent region: lengths (1), then status bytes (2)
unfoldable pub target_on : LargeChip → List ℕ → List ℕ → List Bool → Result (Option RegionBlock) Refusal
target_on chip image status avoid =
    judged Err (region_lent chip image status) (statuses_right status) (Ok (told_target (target_by chip (seen chip image status) avoid)))

-- N and the size before these (2)
unfoldable pub lent_target : ℕ → ℕ → List ℕ → List ℕ → List Bool → Result (Option RegionBlock) Refusal
lent_target n size image status avoid = on_chip Err (chip_of n size) (λ chip. target_on chip image status avoid)

-- the flags of a list of blocks: of every block that an array has a place for, whether it is in the list
abbrev pub Flags : List Bool → List ℕ → Type 0
Flags avoid blocks = (b : ℕ) → b < 7 → get_or avoid b false ≡ member b blocks
