-- Document 02: "a table lying below the stated region isn't found". One chip, stated with d blocks fewer of its region: what is lent are then
-- its last blocks, and of a settled pair there are found the copies that lie in them.
use Rattle.std.specs.Prelude.{cond, List, ◌≡◌, ℕ, ◌+◌, ◌*◌, ◌-◌, ◌≤◌, leb, drop, Ok}
use Rattle.chip.specs.Large.{chip_of, pages_of}
use Rattle.chip.specs.declared.LargeChip.{LargeChip}
use Rattle.chip.specs.declared.Refusal.TheVariants.{NoCopy, NotSettled}
use Rattle.bbt.specs.Copies.{Table}
use Rattle.bbt.specs.Pages.{View, seen}
use Rattle.bbt.specs.Plans.{Reading, refused, holds, reading}
use Rattle.bbt.specs.Regions.{Region, view}

-- the chip, its region stated with d blocks fewer
abbrev pub narrowed : LargeChip → ℕ → LargeChip
narrowed chip d = record { blocks = chip.blocks; region = chip.region - d }

-- the image and the status bytes without those of the d lowest blocks
abbrev pub last_image : LargeChip → ℕ → List ℕ → List ℕ
last_image chip d image = drop (d * pages_of chip * 2112) image

abbrev pub last_status : LargeChip → ℕ → List ℕ → List ℕ
last_status chip d status = drop (d * pages_of chip) status

-- by the blocks p and m of two copies: both are d or above, one of them is, or none
abbrev pub by_place : {A : Type 0} → ℕ → ℕ → ℕ → A → A → A → A
by_place d p m both one none = cond (leb d p) (cond (leb d m) both one) (cond (leb d m) one none)

-- what is read of a pair in blocks p and m where block d is the lowest: with one copy refusal 10, with none 7
unfoldable pub found_above : ℕ → ℕ → ℕ → Table → Reading
found_above d p m t = by_place d p m (holds (p - d) (m - d) t) (refused NotSettled) (refused NoCopy)

module _ {chip : LargeChip} (d : ℕ) (r : Region chip) where
  abbrev pub last_view : View
  last_view = seen (narrowed chip d) (last_image chip d r.image) (last_status chip d r.status)

  pub record Narrows : Type 0 where
    -- what is seen of a block does not depend on the region's size
    pub seen_alike : (b p : ℕ) → last_view b p ≡ view r (d + b) p
    -- and what is found of a pair, on where its copies lie
    pub pairs : (p m : ℕ) (t : Table) → reading chip (view r) ≡ holds p m t → reading (narrowed chip d) last_view ≡ found_above d p m t

abbrev pub BelowNotFound : Type 0
BelowNotFound = (n size : ℕ) (chip : LargeChip) → chip_of n size ≡ Ok chip → (d : ℕ) → d ≤ size → (r : Region chip) → Narrows d r
