-- Views that agree in the region have the same answers: block by block first, then the pair's case, then reading and planning, which go by
-- the case and ask only of blocks that are in it.
-- Assumes nothing.
use mathlib.Core.Bool.{Bool, true, false, cond}
use mathlib.Core.List.{List, [], ◌∷◌}
use mathlib.Core.Option.{Option, none, some}
use mathlib.Core.Path.{◌≡◌, refl, ap, ap₂, ◌∙◌}
use Prim.Native.Nat.{ℕ, zero, suc, ◌<◌}
use lib.Dec.{eqb}
use lib.IntN.{ℤ, pos, negsuc}
use Rattle.chip.specs.Large.{pages_of}
use Rattle.chip.specs.declared.LargeChip.{LargeChip}
use Rattle.chip.specs.declared.Refusal.TheVariants.{Opposite}
use Rattle.bbt.specs.declared.Kind.{Kind}
use Rattle.bbt.specs.declared.Kind.TheVariants.{Primary, Mirror}
use Rattle.bbt.specs.Copies.{Table, page_version, is_page, is_marked, good, reads_bad, parts, table, Found, nowhere, only, several}
use Rattle.bbt.specs.Failures.{other_block, moved_to, block_fails, step_fails, failure, failures}
use Rattle.bbt.specs.Pages.{Page, View}
use Rattle.bbt.specs.Pairs.{Case, no_pair, alone, settled, merging, differing, both_case, compared, case_of, copies, pair_case}
use Rattle.bbt.specs.Plans.{read_case, reading, update_from, update, is_free, target, other_kind, recover_to, anded, recover_newer, recover_case, recovery, holds, Step, erase, write, zeros, idle, double, Plan, fresh, steps_of, step_at, Answer, refuse, plan, Call, for_update, for_recovery, plan_by_rules}
use Rattle.bbt.proofs.Searches.{all_cong, parts_cong, find_cong, only_find, highest_cong}

-- ---- the blocks that a case names
-- a good copy of a kind, in the region
pub record Copy (chip : LargeChip) (R : View) (k : Kind) (b : ℕ) : Type 0 where
  pub inside : b < chip.region
  pub is_good : good (pages_of chip) R k b ≡ true

-- every block of a case holds a good copy of its kind
abbrev pub Copies : LargeChip → View → Case → Type 0
Copies chip R (no_pair r) = Unit {0}
Copies chip R (alone k b) = Copy chip R k b
Copies chip R (settled p m) = Copy chip R Primary p × Copy chip R Mirror m
Copies chip R (merging p m) = Copy chip R Primary p × Copy chip R Mirror m
Copies chip R (differing d p m) = Copy chip R Primary p × Copy chip R Mirror m

module _ (chip : LargeChip) (R : View) where
  both_copies : (d : ℤ) (equal : Bool) (p m : ℕ) → Copy chip R Primary p → Copy chip R Mirror m → Copies chip R (both_case d equal p m)
  unfolding both_case
  both_copies (pos zero) true p m x y = (x, y)
  both_copies (pos zero) false p m x y = (x, y)
  both_copies (pos (suc d)) equal p m x y = (x, y)
  both_copies (negsuc d) equal p m x y = go (eqb d 127)
    where
      go : (t : Bool) → Copies chip R (cond t (no_pair Opposite) (differing (negsuc d) p m))
      go true = tt
      go false = (x, y)

  pub found_copy : (k : Kind) (b : ℕ) → copies chip R k ≡ only b → Copy chip R k b
  found_copy k b e = let u = only_find chip.region (good (pages_of chip) R k) b e in record { inside = u.inside; is_good = u.passes }

  pub case_copies : Copies chip R (pair_case chip R)
  unfolding pair_case case_of compared
  case_copies = go (copies chip R Primary) (copies chip R Mirror) (found_copy Primary) (found_copy Mirror)
    where
      go : (f g : Found) → ((b : ℕ) → f ≡ only b → Copy chip R Primary b) → ((b : ℕ) → g ≡ only b → Copy chip R Mirror b)
          → Copies chip R (case_of (pages_of chip) R f g)
      go several g hf hg = tt
      go nowhere several hf hg = tt
      go (only p) several hf hg = tt
      go nowhere nowhere hf hg = tt
      go (only p) nowhere hf hg = hf p refl
      go nowhere (only m) hf hg = hg m refl
      go (only p) (only m) hf hg = both_copies _ _ p m (hf p refl) (hg m refl)

-- ---- one block
module _ (P : ℕ) (some_page : 0 < P) (R S : View) (b : ℕ) (agree : (p : ℕ) → p < P → R b p ≡ S b p) where
  pub good_agrees : (k : Kind) → good P R k b ≡ good P S k b
  unfolding good
  good_agrees k =
      all_cong P (λ p. is_page k (page_version (R b 0)) (R b p)) (λ p. is_page k (page_version (S b 0)) (S b p))
      (λ p h. ap₂ (λ (x y : Page). is_page k (page_version x) y) (agree 0 some_page) (agree p h))

  pub table_agrees : table P R b ≡ table P S b
  unfolding table
  table_agrees =
      let v : page_version (R b 0) ≡ page_version (S b 0) = ap page_version (agree 0 some_page) in
      let l : parts P (R b) ≡ parts P (S b) = parts_cong P (R b) (S b) agree in
      λ i. record { version = v i; bitmap = l i }

  pub bad_agrees : reads_bad R b ≡ reads_bad S b
  unfolding reads_bad
  bad_agrees = ap is_marked (agree 0 some_page)

-- ---- the region
module _ (chip : LargeChip) (some_page : 0 < pages_of chip) (R S : View)
    (agree : (b p : ℕ) → b < chip.region → p < pages_of chip → R b p ≡ S b p) where
  copies_agree : (k : Kind) → copies chip R k ≡ copies chip S k
  copies_agree k =
      find_cong chip.region (good (pages_of chip) R k) (good (pages_of chip) S k)
      (λ b h. good_agrees (pages_of chip) some_page R S b (λ p. agree b p h) k)

  tables_agree : (b : ℕ) → b < chip.region → table (pages_of chip) R b ≡ table (pages_of chip) S b
  tables_agree b h = table_agrees (pages_of chip) some_page R S b (λ p. agree b p h)

  targets_agree : (avoid : List ℕ) → target chip R avoid ≡ target chip S avoid
  unfolding target
  targets_agree avoid =
      highest_cong chip.region (is_free R avoid) (is_free S avoid)
      (λ b h. let e : reads_bad R b ≡ reads_bad S b = bad_agrees (pages_of chip) some_page R S b (λ p. agree b p h) in cc)

  cases_agree : pair_case chip R ≡ pair_case chip S
  unfolding pair_case case_of
  cases_agree =
      go (copies chip R Primary) (copies chip R Mirror) (λ b e. (found_copy chip R Primary b e).inside) (λ b e. (found_copy chip R Mirror b e).inside)
      ∙ ap₂ (case_of (pages_of chip) S) (copies_agree Primary) (copies_agree Mirror)
    where
      go : (f g : Found) → ((b : ℕ) → f ≡ only b → b < chip.region) → ((b : ℕ) → g ≡ only b → b < chip.region)
          → case_of (pages_of chip) R f g ≡ case_of (pages_of chip) S f g
      go several g hf hg = refl
      go nowhere several hf hg = refl
      go (only p) several hf hg = refl
      go nowhere nowhere hf hg = refl
      go (only p) nowhere hf hg = refl
      go nowhere (only m) hf hg = refl
      go (only p) (only m) hf hg =
          ap₂ (λ (x y : Table). compared x y p m) (tables_agree p (hf p refl)) (tables_agree m (hg m refl))

  -- what is made of a case
  read_agrees : (c : Case) → Copies chip R c → read_case (pages_of chip) R c ≡ read_case (pages_of chip) S c
  unfolding read_case
  read_agrees (no_pair r) h = refl
  read_agrees (alone k b) h = refl
  read_agrees (settled p m) h = ap (holds p m) (tables_agree p h.0.inside)
  read_agrees (merging p m) h = refl
  read_agrees (differing d p m) h = refl

  recover_agrees : (c : Case) → Copies chip R c → recover_case chip R c ≡ recover_case chip S c
  unfolding recover_case
  recover_agrees (no_pair r) h = refl
  recover_agrees (alone k g) h = ap₂ (recover_to (other_kind k) g) (tables_agree g h.inside) (targets_agree (g ∷ []))
  recover_agrees (settled p m) h = ap (λ (t : Table). plan (fresh (idle t.version))) (tables_agree p h.0.inside)
  recover_agrees (merging p m) h = ap₂ (λ (x y : Table). plan (fresh (double p m (anded x y)))) (tables_agree p h.0.inside) (tables_agree m h.1.inside)
  recover_agrees (differing d p m) h = ap₂ (λ (x y : Table). recover_newer d x y p m) (tables_agree p h.0.inside) (tables_agree m h.1.inside)

  pub reading_agrees : reading chip R ≡ reading chip S
  unfolding reading
  reading_agrees = read_agrees (pair_case chip R) (case_copies chip R) ∙ ap (read_case (pages_of chip) S) cases_agree

  pub plan_agrees : (call : Call) → plan_by_rules chip R call ≡ plan_by_rules chip S call
  unfolding plan_by_rules update recovery
  plan_agrees (for_update w) = ap (update_from w) reading_agrees
  plan_agrees for_recovery = recover_agrees (pair_case chip R) (case_copies chip R) ∙ ap (recover_case chip S) cases_agree

  -- after failed steps
  step_fails_agrees : (q : Plan) (e : Option Step) → step_fails chip R q e ≡ step_fails chip S q e
  unfolding step_fails block_fails
  step_fails_agrees q none = refl
  step_fails_agrees q (some (erase b)) = ap (moved_to q b) (targets_agree (other_block q.job b ∷ b ∷ q.failed))
  step_fails_agrees q (some (write b p k t)) = ap (moved_to q b) (targets_agree (other_block q.job b ∷ b ∷ q.failed))
  step_fails_agrees q (some (zeros b)) = refl

  failure_agrees : (a : Answer) (i : ℕ) → failure chip R a i ≡ failure chip S a i
  unfolding failure
  failure_agrees (refuse r) i = refl
  failure_agrees (plan q) i = step_fails_agrees q (step_at (steps_of (pages_of chip) q) i)

  pub failures_agree : (a : Answer) (failed : List ℕ) → failures chip R a failed ≡ failures chip S a failed
  unfolding failures
  failures_agree a [] = refl
  failures_agree a (i ∷ is) = ap (λ (x : Answer). failures chip R x is) (failure_agrees a i) ∙ failures_agree (failure chip S a i) is
