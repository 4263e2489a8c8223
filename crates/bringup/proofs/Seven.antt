-- Refusal 7 is that there is no good copy of either kind (`None`), from the region's case to what a recovery answers and back.
-- Assumes nothing.
use mathlib.Core.Bool.{Bool, true, false, cond}
use mathlib.Core.List.{[], ◌∷◌}
use mathlib.Core.Option.{Option, none, some}
use mathlib.Core.Path.{◌≡◌, refl, sym, ap, ◌∙◌}
use Prim.Native.Nat.{ℕ, zero, suc}
use lib.Dec.{eqb}
use lib.IntN.{ℤ, pos, negsuc}
use Rattle.bbt.specs.Copies.{Table, table, nowhere, only, several, Found as Copies}
use Rattle.bbt.specs.Histories.{snapshot, answer}
use Rattle.bbt.specs.Pairs.{Case, no_pair, alone, settled, merging, differing, both_case, compared, case_of, copies, pair_case}
use Rattle.bbt.specs.Plans.{refuse, recover_to, recover_newer, recover_case, recovery, target, other_kind, for_recovery, reading, read_case, plan_by_rules}
use Rattle.bbt.specs.Regions.{Region, view}
use Rattle.bbt.specs.declared.Kind.{Kind}
use Rattle.bbt.specs.declared.Kind.TheVariants.{Primary, Mirror}
use Rattle.bbt.proofs.LeftPages.{Judged}
use Rattle.bbt.proofs.Planning.{plan_first}
use Rattle.bbt.proofs.Searches.{no_confusion}
use Rattle.chip.specs.Large.{pages_of}
use Rattle.chip.specs.declared.LargeChip.{LargeChip}
use Rattle.chip.specs.declared.Refusal.TheVariants.{NoCopy, Opposite}
use Rattle.bringup.specs.FirstPair.{NoTables}
use Rattle.bringup.proofs.Writing.{None}

module _ {chip : LargeChip} (ok : Judged chip) where
  both_not : (d : ℤ) (t : Bool) (p m : ℕ) → both_case d t p m ≡ no_pair NoCopy → ⊥
  unfolding both_case
  both_not (pos zero) true p m e = no_confusion (cc)
  both_not (pos zero) false p m e = no_confusion (cc)
  both_not (pos (suc n)) t p m e = no_confusion (cc)
  both_not (negsuc n) t p m e = go (eqb n 127) e
    where
      go : (x : Bool) → cond x (no_pair Opposite) (differing (negsuc n) p m) ≡ no_pair NoCopy → ⊥
      go true e = no_confusion (cc)
      go false e = no_confusion (cc)

  case_none : (s : Region chip) → pair_case chip (view s) ≡ no_pair NoCopy → None s
  unfolding pair_case case_of compared
  case_none s e = go (copies chip (view s) Primary) refl (copies chip (view s) Mirror) refl e
    where
      go : (f : Copies) → copies chip (view s) Primary ≡ f → (g : Copies) → copies chip (view s) Mirror ≡ g
          → case_of (pages_of chip) (view s) f g ≡ no_pair NoCopy → None s
      go nowhere ef nowhere eg e = record { no_primary = record { not_found = ef }; no_mirror = record { not_found = eg } }
      go nowhere ef (only m) eg e = absurd (no_confusion (cc))
      go nowhere ef several eg e = absurd (no_confusion (cc))
      go (only p) ef nowhere eg e = absurd (no_confusion (cc))
      go (only p) ef (only m) eg e = absurd (both_not _ _ p m e)
      go (only p) ef several eg e = absurd (no_confusion (cc))
      go several ef g eg e = absurd (no_confusion (cc))

  pub seven_none : (s : Region chip) → answer for_recovery (snapshot s) ≡ refuse NoCopy → None s
  unfolding recovery recover_case recover_to recover_newer plan_by_rules
  seven_none s e = go (pair_case chip (view s)) refl (sym (plan_first ok s for_recovery refl) ∙ e)
    where
      other : (k : Kind) (g : ℕ) (t : Table) (o : Option ℕ) → recover_to k g t o ≡ refuse NoCopy → ⊥
      other k g t none e = no_confusion (cc)
      other k g t (some b) e = no_confusion (cc)

      newer : (d : ℤ) (x y : Table) (p m : ℕ) → recover_newer d x y p m ≡ refuse NoCopy → ⊥
      newer (pos n) x y p m e = no_confusion (cc)
      newer (negsuc n) x y p m e = no_confusion (cc)

      go : (c : Case) → pair_case chip (view s) ≡ c → recover_case chip (view s) c ≡ refuse NoCopy → None s
      go (no_pair r) a e = let q : r ≡ NoCopy = cc in case_none s (a ∙ ap no_pair q)
      go (alone k g) a e = absurd (other (other_kind k) g (table (pages_of chip) (view s) g) (target chip (view s) (g ∷ [])) e)
      go (settled p m) a e = absurd (no_confusion (cc))
      go (merging p m) a e = absurd (no_confusion (cc))
      go (differing d p m) a e = absurd (newer d (table (pages_of chip) (view s) p) (table (pages_of chip) (view s) m) p m e)

  none_case : {s : Region chip} → None s → pair_case chip (view s) ≡ no_pair NoCopy
  unfolding pair_case case_of
  none_case h = rw (h.no_primary.not_found, h.no_mirror.not_found)

  pub none_tables : {s : Region chip} → None s → NoTables s
  unfolding reading read_case recovery recover_case plan_by_rules
  none_tables {s} h = record { no_reading = rw (none_case h); no_recovery = plan_first ok s for_recovery refl ∙ rw (none_case h) }
