-- An array of flags beside a list of blocks: where they agree on the region's blocks, the target by the flags is the target of the rules.
-- Assumes nothing.
use mathlib.Core.Bool.{Bool, true, false, not, ◌&&◌}
use mathlib.Core.List.{List, [], ◌∷◌}
use mathlib.Core.Path.{◌≡◌, ap}
use Prim.Native.Nat.{ℕ, ◌≤◌}
use native.Mathlib.Omega.{arith}
use lib.ListN.{length, set, replicate, get_or-replicate}
use lib.Seq.{get_or-set_same, get_or-set_other}
use Rattle.bbt.specs.Copies.{reads_bad}
use Rattle.bbt.specs.Pages.{View}
use Rattle.bbt.specs.Plans.{member, is_free, target}
use Rattle.bbt.proofs.Searches.{highest_cong}
use Rattle.chip.specs.declared.LargeChip.{LargeChip}
use Rattle.region.specs.Targets.{is_free_by, target_by, Flags}

-- the target beside the blocks of a list, by its flags
pub target_flags : (chip : LargeChip) (R : View) (avoid : List Bool) (blocks : List ℕ) → chip.region ≤ 7 → Flags avoid blocks
    → target_by chip R avoid ≡ target chip R blocks
unfolding target_by target
target_flags chip R avoid blocks few flags =
    highest_cong chip.region (is_free_by R avoid) (is_free R blocks)
    (λ b h. ap (λ (t : Bool). not t && not (reads_bad R b)) (flags b (omega arith)))

-- the flags of no block
pub flags_none : Flags (replicate 7 false) []
unfolding member
flags_none b h = get_or-replicate 7 b false false h

-- one block more; one past the array has no flag
pub flags_more : (avoid : List Bool) (blocks : List ℕ) (b : ℕ) → length avoid ≡ 7 → Flags avoid blocks → Flags (set avoid b true) (b ∷ blocks)
unfolding member
flags_more avoid blocks b e flags i h = grind (arith, get_or-set_same {A = Bool}, get_or-set_other {A = Bool}, flags i h)
