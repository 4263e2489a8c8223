-- Reading, by what was told of the lent region: a refusal is passed on, a pair that is not settled is refused, and a settled one is the table of
-- its primary.
-- Assumes nothing.
use Rattle.std.specs.Prelude.{Result, Ok, Err, Some}
use mathlib.Core.Bool.{Bool, true, false, ◌&&◌}
use mathlib.Core.List.{List}
use mathlib.Core.Path.{◌≡◌, refl, ap, ◌∙◌}
use Prim.Native.Nat.{ℕ, ◌*◌, ◌<◌}
use borrow.Author.Tests.{eqb-true}
use lib.ListN.{length}
use Rattle.bbt.specs.Lent.{on_chip, judged, region_lent, statuses_right, lent_reading, table_reading}
use Rattle.bbt.specs.Pages.{seen, page_bytes, version_of}
use Rattle.bbt.specs.Pairs.{pair_case}
use Rattle.bbt.specs.Plans.{Reading, refused, read_case, reading}
use Rattle.bbt.specs.declared.PairCase.{PairCase}
use Rattle.bbt.specs.declared.PairCase.TheVariants.{Alone, Settled, Merging, Differing}
use Rattle.bbt.specs.Pages.{View}
use Rattle.chip.specs.Large.{chip_of, bitmap_bytes, pages_of}
use Rattle.chip.specs.declared.LargeChip.{LargeChip}
use Rattle.chip.specs.declared.Refusal.{Refusal}
use Rattle.chip.specs.declared.Refusal.TheVariants.{NotSettled}
use Rattle.chip.specs.declared.RegionBlock.{RegionBlock}
use Rattle.region.specs.Cases.{beside_lent, lent_chip}
use Rattle.bbt.specs.Told.{chip_block, told_case}
use Rattle.region.specs.Stored.{stored_parts}
use Rattle.table.specs.declared.Pair.{Pair}
use Rattle.table.specs.Tables.{told_reading, table_answer, room_by, table_after}
use Rattle.region.proofs.Judged.{untold, untold_refused, Known, case_known, by_lent, lent_answers, known_copies, known_reading, settled_reading}

-- what is told of a settled pair
abbrev pub pair_told : LargeChip → List ℕ → RegionBlock → RegionBlock → Pair
pair_told chip image p m = record { version = version_of (page_bytes image (p.0 * pages_of chip)); primary = chip_block chip p.0; mirror = chip_block chip m.0 }

-- the case of a pair that is not settled
abbrev Unsettled : PairCase → Type 0
Unsettled c = (p m : RegionBlock) → c ≡ Settled p m → ⊥

unsettled_reads : (P : ℕ) (R : View) (c : PairCase) → Unsettled c → read_case P R (untold c) ≡ refused NotSettled
unfolding read_case
unsettled_reads P R (Alone k b) h = refl
unsettled_reads P R (Settled p m) h = absurd (h p m refl)
unsettled_reads P R (Merging p m) h = refl
unsettled_reads P R (Differing d p m) h = refl

module _ (n size : ℕ) (image status room : List ℕ) where
  -- what was lent is judged first, then the pair is read
  record Reads (a : Result LargeChip Refusal) : Type 0 where
    answer : table_answer n size image status room ≡ on_chip Err a (λ chip. told_reading chip (reading chip (seen chip image status)))
    after : table_after n size image status room ≡ room_by (on_chip refused a (λ chip. reading chip (seen chip image status))) room

  reads : Reads (lent_chip n size (Some (length room)) image status)
  unfolding table_answer table_after table_reading lent_reading
  reads = record {
    answer = go (chip_of n size) ∙ by_lent n size (Some (length room)) image status Err (λ chip. told_reading chip (reading chip (seen chip image status)));
    after = ap (λ (x : Reading). room_by x room) (by_lent n size (Some (length room)) image status refused (λ chip. reading chip (seen chip image status)));
  }
    where
      one : (chip : LargeChip) (l s : Bool) → told_reading chip (judged refused l s (reading chip (seen chip image status))) ≡ judged Err l s (told_reading chip (reading chip (seen chip image status)))
      one chip false s = refl
      one chip true false = refl
      one chip true true = refl

      go : (a : Result LargeChip Refusal) → on_chip Err a (λ chip. told_reading chip (on_chip refused a (λ own. judged refused (region_lent own image status && beside_lent own (Some (length room))) (statuses_right status) (reading own (seen own image status)))))
          ≡ on_chip Err a (λ own. judged Err (region_lent own image status && beside_lent own (Some (length room))) (statuses_right status) (told_reading own (reading own (seen own image status))))
      go (Err r) = refl
      go (Ok own) = one own (region_lent own image status && beside_lent own (Some (length room))) (statuses_right status)

  -- ---- what is answered, and the room after it
  pub out_answer : (r : Refusal) → lent_chip n size (Some (length room)) image status ≡ Err r → table_answer n size image status room ≡ Err r
  out_answer r e = reads.answer ∙ rw e refl

  pub out_after : (r : Refusal) → lent_chip n size (Some (length room)) image status ≡ Err r → table_after n size image status room ≡ room
  out_after r e = reads.after ∙ rw e refl

  module _ (chip : LargeChip) (lent : lent_chip n size (Some (length room)) image status ≡ Ok chip) where
    -- by what the pair reads as
    as_read : (x : Reading) → reading chip (seen chip image status) ≡ x
        → (table_answer n size image status room ≡ told_reading chip x) × (table_after n size image status room ≡ room_by x room)
    as_read x e = (reads.answer ∙ rw lent (ap (told_reading chip) e), reads.after ∙ rw lent (ap (λ (y : Reading). room_by y room) e))

    no_pair_reads : (r : Refusal) → told_case (pair_case chip (seen chip image status)) ≡ Err r → reading chip (seen chip image status) ≡ refused r
    unfolding reading read_case
    no_pair_reads r e = rw (untold_refused (pair_case chip (seen chip image status)) r e) refl

    pub no_pair_answer : (r : Refusal) → told_case (pair_case chip (seen chip image status)) ≡ Err r → table_answer n size image status room ≡ Err r
    no_pair_answer r e = (as_read (refused r) (no_pair_reads r e)).0

    pub no_pair_after : (r : Refusal) → told_case (pair_case chip (seen chip image status)) ≡ Err r → table_after n size image status room ≡ room
    no_pair_after r e = (as_read (refused r) (no_pair_reads r e)).1

    known : (c : PairCase) → told_case (pair_case chip (seen chip image status)) ≡ Ok c → Known n size chip (Some (length room)) image status c
    known c e = case_known n size (Some (length room)) image status chip c (lent_answers n size (Some (length room)) image status chip c lent e)

    pub unsettled_answer : (c : PairCase) → told_case (pair_case chip (seen chip image status)) ≡ Ok c → Unsettled c → table_answer n size image status room ≡ Err NotSettled
    unsettled_answer c e h = (as_read (refused NotSettled) (known_reading (known c e) ∙ unsettled_reads (pages_of chip) (seen chip image status) c h)).0

    pub unsettled_after : (c : PairCase) → told_case (pair_case chip (seen chip image status)) ≡ Ok c → Unsettled c → table_after n size image status room ≡ room
    unsettled_after c e h = (as_read (refused NotSettled) (known_reading (known c e) ∙ unsettled_reads (pages_of chip) (seen chip image status) c h)).1

    module _ (p m : RegionBlock) (settled : told_case (pair_case chip (seen chip image status)) ≡ Ok (Settled p m)) where
      pub settled_answer : table_answer n size image status room ≡ Ok (pair_told chip image p m)
      settled_answer = (as_read _ (settled_reading (known (Settled p m) settled))).0

      pub settled_after : table_after n size image status room ≡ stored_parts chip image p.0 (pages_of chip)
      settled_after = (as_read _ (settled_reading (known (Settled p m) settled))).1

      -- the primary's block is one of the region's, and the room is the bitmap's
      pub settled_inside : p.0 < chip.region
      settled_inside = (known_copies (known (Settled p m) settled)).0.inside

      pub settled_room : length room ≡ bitmap_bytes chip
      settled_room = eqb-true _ _ (known (Settled p m) settled).beside_right
