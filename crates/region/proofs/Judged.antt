-- What the answer of `lent_case` says of what was lent: N's refusal and the lengths and status bytes are judged, and the pair's case is that of
-- the image. Reading and planning judge in the same order, so their answers follow it.
-- Assumes nothing.
use Rattle.std.specs.Prelude.{Option, None, Result, Ok, Err}
use mathlib.Core.Bool.{Bool, true, ◌&&◌, and-true}
use mathlib.Core.List.{List}
use mathlib.Core.Path.{◌≡◌, refl, sym, ap, subst, ◌∙◌}
use Prim.Native.Nat.{ℕ}
use native.Mathlib.Omega.{arith}
use Rattle.chip.specs.Large.{chip_of, pages_of}
use Rattle.chip.specs.declared.LargeChip.{LargeChip}
use Rattle.chip.specs.declared.Refusal.{Refusal}
use Rattle.chip.specs.declared.RegionBlock.{RegionBlock}
use Rattle.bbt.specs.Copies.{table}
use Rattle.bbt.specs.Lent.{on_chip, region_lent, statuses_right, judged}
use Rattle.bbt.specs.Pages.{seen}
use Rattle.bbt.specs.Pairs.{Case, no_pair, alone, settled, merging, differing, pair_case}
use Rattle.bbt.specs.Plans.{holds, read_case, reading}
use Rattle.region.specs.Stored.{stored_table}
use Rattle.bbt.specs.Told.{told_case}
use Rattle.bbt.specs.declared.Kind.{Kind}
use Rattle.bbt.specs.declared.PairCase.{PairCase}
use Rattle.bbt.specs.declared.PairCase.TheVariants.{Alone, Settled, Merging, Differing}
use Rattle.bbt.proofs.Raw.{Valid, chip_valid}
use Rattle.region.proofs.Stored.{table_raw}
use Rattle.bbt.proofs.Views.{Copy, Copies, case_copies}
use Rattle.region.specs.Targets.{told_target, target_by, target_on, lent_target}
use Rattle.region.specs.Cases.{beside_lent, lent_chip, case_on, lent_case}

-- ---- a told case, taken back
abbrev pub untold : PairCase → Case
untold (Alone k b) = alone k b.0
untold (Settled p m) = settled p.0 m.0
untold (Merging p m) = merging p.0 m.0
untold (Differing d p m) = differing d p.0 m.0

pub untold_told : (c : Case) (t : PairCase) → told_case c ≡ Ok t → c ≡ untold t
untold_told c t e = grind arith

-- a refusal that was told is that of the case
pub untold_refused : (c : Case) (r : Refusal) → told_case c ≡ Err r → c ≡ no_pair r
untold_refused c r e = grind arith

-- ---- what was lent, judged
-- what is known of the chip of a lent region
pub record Lent (n size : ℕ) (chip : LargeChip) (beside : Option ℕ) (image status : List ℕ) : Type 0 where
  pub the_chip : chip_of n size ≡ Ok chip
  pub region_right : region_lent chip image status ≡ true
  pub beside_right : beside_lent chip beside ≡ true
  pub statuses-right : statuses_right status ≡ true

-- what is known beside a case
pub record Known (n size : ℕ) (chip : LargeChip) (beside : Option ℕ) (image status : List ℕ) (c : PairCase) : Type 0 where
  pub the_chip : chip_of n size ≡ Ok chip
  pub region_right : region_lent chip image status ≡ true
  pub beside_right : beside_lent chip beside ≡ true
  pub statuses-right : statuses_right status ≡ true
  pub the_case : pair_case chip (seen chip image status) ≡ untold c

module _ (n size : ℕ) (beside : Option ℕ) (image status : List ℕ) where
  -- whatever is answered in this order is answered on the chip of what was lent
  pub by_lent : {A : Type 0} (out : Refusal → A) (f : LargeChip → A)
      → on_chip out (chip_of n size) (λ own. judged out (region_lent own image status && beside_lent own beside) (statuses_right status) (f own))
      ≡ on_chip out (lent_chip n size beside image status) f
  unfolding lent_chip
  by_lent out f = grind arith

  case_by_lent : lent_case n size beside image status
      ≡ on_chip Err (lent_chip n size beside image status) (λ own. Ok (own, told_case (pair_case own (seen own image status))))
  unfolding lent_case case_on
  case_by_lent = by_lent Err (λ own. Ok (own, told_case (pair_case own (seen own image status))))

  pub lent_refused : (r : Refusal) → lent_chip n size beside image status ≡ Err r → lent_case n size beside image status ≡ Err r
  lent_refused r e = case_by_lent ∙ rw e refl

  pub lent_told : (chip : LargeChip) → lent_chip n size beside image status ≡ Ok chip
      → lent_case n size beside image status ≡ Ok (chip, told_case (pair_case chip (seen chip image status)))
  lent_told chip e = case_by_lent ∙ rw e refl

  pub lent_answers : (chip : LargeChip) (c : PairCase) → lent_chip n size beside image status ≡ Ok chip
      → told_case (pair_case chip (seen chip image status)) ≡ Ok c → lent_case n size beside image status ≡ Ok (chip, Ok c)
  lent_answers chip c e f = lent_told chip e ∙ ap (λ (t : Result PairCase Refusal). Ok (chip, t)) f

  pub lent_known : (chip : LargeChip) → lent_chip n size beside image status ≡ Ok chip → Lent n size chip beside image status
  unfolding lent_chip
  lent_known chip e = record { the_chip = grind arith; region_right = grind arith; beside_right = grind arith; statuses-right = grind arith }

  -- the chip of a case that was told is that of what was lent, and the case is the image's
  case_told : (chip : LargeChip) (c : PairCase) → lent_case n size beside image status ≡ Ok (chip, Ok c)
      → (lent_chip n size beside image status ≡ Ok chip) × (told_case (pair_case chip (seen chip image status)) ≡ Ok c)
  case_told chip c e = let f = sym case_by_lent ∙ e in (grind arith, grind arith)

  pub case_known : (chip : LargeChip) (c : PairCase) → lent_case n size beside image status ≡ Ok (chip, Ok c) → Known n size chip beside image status c
  case_known chip c e =
      let t = case_told chip c e in
      let k : Lent n size chip beside image status = lent_known chip t.0 in
      record {
        the_chip = k.the_chip;
        region_right = k.region_right;
        beside_right = k.beside_right;
        statuses-right = k.statuses-right;
        the_case = untold_told (pair_case chip (seen chip image status)) c t.1;
      }

-- ---- the target
module _ (n size : ℕ) (image status : List ℕ) (avoid : List Bool) where
  target_by_lent : lent_target n size image status avoid
      ≡ on_chip Err (lent_chip n size None image status) (λ own. Ok (told_target (target_by own (seen own image status) avoid)))
  unfolding lent_target target_on
  target_by_lent =
      let told : LargeChip → Result (Option RegionBlock) Refusal = λ own. Ok (told_target (target_by own (seen own image status) avoid)) in
      simp and-true at (by_lent n size None image status {A = Result (Option RegionBlock) Refusal} Err told)

  pub target_told : (chip : LargeChip) → lent_chip n size None image status ≡ Ok chip
      → lent_target n size image status avoid ≡ Ok (told_target (target_by chip (seen chip image status) avoid))
  target_told chip e = target_by_lent ∙ rw e refl

  pub target_refused : (r : Refusal) → lent_chip n size None image status ≡ Err r → lent_target n size image status avoid ≡ Err r
  target_refused r e = target_by_lent ∙ rw e refl

-- ---- what follows of the chip, the lengths and the blocks of the case
module _ {n size : ℕ} {chip : LargeChip} {beside : Option ℕ} {image status : List ℕ} {c : PairCase} (k : Known n size chip beside image status c) where
  pub known_valid : Valid n size chip
  known_valid = chip_valid n size chip k.the_chip

  -- each block of the case holds a good copy
  pub known_copies : Copies chip (seen chip image status) (untold c)
  known_copies = subst (λ (x : Case). Copies chip (seen chip image status) x) k.the_case (case_copies chip (seen chip image status))

  -- whose table is what its bytes say
  pub known_table : {j : Kind} {b : ℕ} → Copy chip (seen chip image status) j b
      → table (pages_of chip) (seen chip image status) b ≡ stored_table chip image b
  known_table {j} {b} x = table_raw chip image status b j known_valid.some_page x.is_good

  -- what reading makes of the case
  pub known_reading : reading chip (seen chip image status) ≡ read_case (pages_of chip) (seen chip image status) (untold c)
  unfolding reading
  known_reading = ap (read_case (pages_of chip) (seen chip image status)) k.the_case

-- a settled pair reads as the table of its primary
pub settled_reading : {n size : ℕ} {chip : LargeChip} {beside : Option ℕ} {image status : List ℕ} {p m : RegionBlock}
    → Known n size chip beside image status (Settled p m)
    → reading chip (seen chip image status) ≡ holds p.0 m.0 (stored_table chip image p.0)
unfolding read_case
settled_reading {p} {m} k = known_reading k ∙ ap (holds p.0 m.0) (known_table k (known_copies k).0)
