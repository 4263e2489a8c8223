-- A block whose mark is not 0 is not readable as bad: neither its mark nor 64 zeros say so.
-- Assumes nothing.
use mathlib.Core.Bool.{Bool, true, false, cond, ◌&&◌, ◌||◌}
use mathlib.Core.List.{List}
use mathlib.Core.Logic.{◌≢◌}
use mathlib.Core.Path.{◌≡◌, refl}
use Prim.Native.Nat.{ℕ, ◌+◌}
use native.Mathlib.Omega.{arith}
use borrow.Author.Tests.{ne_eqb}
use lib.Dec.{eqb}
use lib.ListN.{get_or, take}
use Rattle.bbt.specs.Copies.{is_marked, reads_bad}
use Rattle.bbt.specs.Pages.{same_kind, kind_of, version_of, part_length, bad_mark, zero_oob, bad_page, reads, unreadable, page_of, seen}
use Rattle.bbt.specs.Regions.{Region, view, status_at, bytes_at}
use Rattle.bbt.specs.declared.Kind.TheVariants.{Neither}
use Rattle.bbt.proofs.Searches.{all_not}
use Rattle.chip.specs.declared.LargeChip.{LargeChip}

not_bad : (s : ℕ) (l : List ℕ) → get_or l 2048 0 ≢ 0 → bad_page 0 s l ≡ false
unfolding bad_page bad_mark zero_oob
not_bad s l ne =
    let mark : eqb (get_or l 2048 0) 0 ≡ false = ne_eqb (get_or l 2048 0) 0 ne in
    rw (mark, all_not 64 (λ j. eqb (get_or l (2048 + j) 0) 0) 0 (omega arith) mark) (go (eqb s 0) (same_kind (kind_of l) Neither))
  where
    go : (x y : Bool) → (x && (y && false)) || false ≡ false
    go true true = refl
    go true false = refl
    go false y = refl

pub unmarked : {chip : LargeChip} (r : Region chip) (b : ℕ) → get_or (bytes_at r b 0) 2048 0 ≢ 0 → reads_bad (view r) b ≡ false
unfolding reads_bad is_marked seen page_of
unmarked {chip} r b ne = rw (not_bad (status_at r b 0) (bytes_at r b 0) ne) (go (eqb (status_at r b 0) 0))
  where
    go : (x : Bool)
        → is_marked (cond x (reads (kind_of (bytes_at r b 0)) (version_of (bytes_at r b 0)) (take (part_length chip 0) (bytes_at r b 0))) unreadable) ≡ false
    go true = refl
    go false = refl
