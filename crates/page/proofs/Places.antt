-- The places of a page that is read: each half's verdict is what the half tells, of which the half-page code says where it is right (`locates`).
-- Assumes nothing.
use mathlib.Core.Bool.{Bool, true, false, cond, false≢true}
use mathlib.Core.List.{List, [], ◌∷◌}
use mathlib.Core.Path.{◌≡◌, refl, sym, ap, ◌∙◌, subst}
use Prim.Native.Nat.{ℕ}
use native.Mathlib.Omega.{arith}
use borrow.Author.Tests.{eqb-true, lt-ltb}
use Rattle.std.specs.Prelude.{Result, Ok, Err}
use lib.Dec.{eqb}
use lib.ListN.{length, length-take, length-drop}
use Rattle.chip.specs.declared.Half.{Half}
use Rattle.chip.specs.declared.Half.TheVariants.{First, Second}
use Rattle.chip.specs.declared.Refusal.{Refusal}
use Rattle.chip.specs.declared.Refusal.TheVariants.{Length, Unrepairable}
use Rattle.ecc.specs.Claims.{told}
use Rattle.ecc.specs.Flips.{Place, data_at, Real}
use Rattle.ecc.specs.Places.{places, Located}
use Rattle.ecc.specs.Verdicts.{mended}
use Rattle.ecc.specs.declared.Verdict.{Verdict}
use Rattle.ecc.specs.declared.Verdict.TheVariants.{Clean, CodeBit, DataBit, NotRepairable}
use Rattle.ecc.proofs.Places.{locates}
use Rattle.spare.specs.Reading.{spare_answer}
use Rattle.spare.specs.declared.SpareFields.{SpareFields}
use Rattle.page.specs.declared.PageFields.{PageFields}
use Rattle.page.specs.Claims.{Page}
use Rattle.page.specs.Places.{kept_in, data_flipped, TellsPlaces}
use Rattle.page.specs.Pages.{is_repairable, by_verdicts, by_spare, page_answer, data_after, verdict_in, places_in}

-- what holds of both halves
both : (P : Half → Type 0) → P First → P Second → (h : Half) → P h
both P a b First = a
both P a b Second = b

-- ---- what is known of a page that is read
pub record IsRead (p : Page) (f : PageFields) : Type 0 where
  pub long : length p.bytes ≡ 512
  pub spare : spare_answer p.spare ≡ Ok f.spare
  pub tells : (h : Half) → verdict_in h f ≡ told (kept_in h p)
  pub repairable : (h : Half) → is_repairable (verdict_in h f) ≡ true

-- both halves are repairable, and what was known is kept
verdicts_kept : (s : SpareFields) (v u : Verdict) (f : PageFields) → by_verdicts s v u ≡ Ok f
    → (f ≡ record { spare = s; first = v; second = u }) × (is_repairable v ≡ true) × (is_repairable u ≡ true)
unfolding by_verdicts
verdicts_kept s v u f e = go (is_repairable v) (is_repairable u) refl refl e
  where
    kept : PageFields
    kept = record { spare = s; first = v; second = u }

    go : (a b : Bool) → is_repairable v ≡ a → is_repairable u ≡ b
        → cond a (cond b (Ok kept) (Err (Unrepairable Second))) (Err (Unrepairable First)) ≡ Ok f
        → (f ≡ kept) × (is_repairable v ≡ true) × (is_repairable u ≡ true)
    go true true x y e = (cc, x, y)
    go true false x y e = let none : ◌≡◌ {A = ℕ} 0 1 = cc in absurd (omega arith)
    go false b x y e = let none : ◌≡◌ {A = ℕ} 0 1 = cc in absurd (omega arith)

pub is_read : (p : Page) (f : PageFields) → page_answer p.bytes p.spare ≡ Ok f → IsRead p f
unfolding page_answer
is_read p f e = go (eqb (length p.bytes) 512) refl (spare_answer p.spare) refl e
  where
    go : (t : Bool) → eqb (length p.bytes) 512 ≡ t → (a : Result SpareFields Refusal) → spare_answer p.spare ≡ a
        → cond t (by_spare p.bytes p.spare a) (Err Length) ≡ Ok f → IsRead p f
    go false l a ea e = let none : ◌≡◌ {A = ℕ} 0 1 = cc in absurd (omega arith)
    go true l (Err r) ea e = let none : ◌≡◌ {A = ℕ} 0 1 = cc in absurd (omega arith)
    go true l (Ok s) ea e =
        let g : PageFields = record { spare = s; first = told (kept_in First p); second = told (kept_in Second p) } in
        let kept = verdicts_kept s g.first g.second f e in
        subst (IsRead p) (sym kept.0)
        (record {
          long = eqb-true _ _ l;
          spare = ea;
          tells = both (λ h. verdict_in h g ≡ told (kept_in h p)) refl refl;
          repairable = both (λ h. is_repairable (verdict_in h g) ≡ true) kept.1 kept.2;
        })

-- ---- a verdict and its places
mends_places : (h : Half) (v : Verdict) (bytes : List ℕ) → ((q : Place) → places v ≡ q ∷ [] → Real q) → mended h v bytes ≡ data_flipped h (places v) bytes
mends_places h Clean bytes real = refl
mends_places h (CodeBit j) bytes real = refl
mends_places h (DataBit a b) bytes real = rw (lt-ltb b 8 (real (data_at a b) refl).1) refl
mends_places h NotRepairable bytes real = refl

-- ---- the claim
half_long : (h : Half) (p : Page) → length p.bytes ≡ 512 → length (kept_in h p).half ≡ 256
half_long First p l = simp length-take (omega arith)
half_long Second p l = simp length-drop (omega arith)

module _ (p : Page) (f : PageFields) (r : IsRead p f) where
  located : (h : Half) → Located (kept_in h p) (places_in h f)
  located h =
      rw (r.tells h) (locates (kept_in h p) (half_long h p r.long) (λ n. false≢true (sym (ap is_repairable (r.tells h ∙ n)) ∙ r.repairable h)))

  mends : (h : Half) (bytes : List ℕ) → mended h (verdict_in h f) bytes ≡ data_flipped h (places_in h f) bytes
  mends h bytes = mends_places h (verdict_in h f) bytes (λ q t. (((located h).place q).0 t).0)

pub tells_places : TellsPlaces
unfolding data_after
tells_places p f e =
    let r = is_read p f e in
    record {
      halves = located p f r;
      left = rw e (ap (mended Second f.second) (mends p f r First p.bytes) ∙ mends p f r Second (data_flipped First (places_in First f) p.bytes));
    }
