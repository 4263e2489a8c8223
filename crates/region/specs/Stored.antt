-- What a block of a lent image holds as a table, by its bytes alone, whether or not it is a good copy.
use Rattle.std.specs.Prelude.{List, [], ◌++◌, ℕ, zero, suc, ◌+◌, ◌*◌, take}
use Rattle.bbt.specs.Copies.{Table}
use Rattle.bbt.specs.Pages.{page_bytes, part_length, version_of}
use Rattle.chip.specs.Large.{pages_of}
use Rattle.chip.specs.declared.LargeChip.{LargeChip}

-- the bitmap's parts in the first n pages of region block b, one after the other
unfoldable pub stored_parts : LargeChip → List ℕ → ℕ → ℕ → List ℕ
stored_parts chip image b zero = []
stored_parts chip image b (suc n) = stored_parts chip image b n ++ take (part_length chip n) (page_bytes image (b * pages_of chip + n))

-- the first page's version, and all parts
abbrev pub stored_table : LargeChip → List ℕ → ℕ → Table
stored_table chip image b = record { version = version_of (page_bytes image (b * pages_of chip)); bitmap = stored_parts chip image b (pages_of chip) }
