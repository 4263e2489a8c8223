-- The part of a copy's bitmap that a page holds, as a part of the lent image.
use Rattle.std.specs.Prelude.{cond, List, [], ℕ, ◌+◌, ◌*◌, leb, length, take, drop}
use Rattle.bbt.specs.Pages.{part_length}
use Rattle.chip.specs.Large.{pages_of}
use Rattle.chip.specs.declared.LargeChip.{LargeChip}

-- page p of region block b; nothing where the image is too short
unfoldable pub part_of : LargeChip → List ℕ → ℕ → ℕ → List ℕ
part_of chip image b p =
    cond (leb ((b * pages_of chip + p) * 2112 + part_length chip p) (length image))
    (take (part_length chip p) (drop ((b * pages_of chip + p) * 2112) image)) []
