-- What the table of tags shows, by computed tests: how far its tags are apart, and which byte stands for which.
-- Assumes nothing.
use mathlib.Core.Bool.{Bool, true, false, cond, ◌&&◌, ◌||◌, false≢true}
use mathlib.Core.List.{List, [], ◌∷◌}
use mathlib.Core.Path.{◌≡◌, refl}
use Prim.Native.Nat.{ℕ, ◌<◌, ◌≤◌}
use native.Mathlib.Omega.{arith}
use borrow.Author.Tests.{eq-eqb, eqb-true, le-leb, leb-true}
use lib.Count.{ones, ones_in}
use lib.Dec.{T, eqb, leb}
use Rattle.bits.proofs.Both.{both_left, both_right}
use Rattle.bits.proofs.Computed.{all, below, true_of}
use Rattle.std.specs.Prelude.{Some}
use Rattle.std.specs.Option.{option_eq}
use Rattle.spare.specs.Tags.{tags, distance, nearest, is_in, apart_from, all_apart, is_found, bytes_found, TagTable}
use Rattle.spare.proofs.Tagging.{found_itself, itself}

-- where u is near b, it is what b stands for
abbrev near_is : ℕ → ℕ → Bool
near_is b u = cond (leb (distance u b) 1) (option_eq eqb (nearest tags b) (Some u)) true

-- so for each u of a list
all_near : List ℕ → ℕ → Bool
all_near [] b = true
all_near (u ∷ us) b = near_is b u && all_near us b

-- for each tag and each byte, computed
all_near_lem : T (all (all_near tags) 0 256)
unfolding all_near nearest ones ones_in
all_near_lem = tt

near_in : (t b : ℕ) (us : List ℕ) → is_in us t ≡ true → all_near us b ≡ true → near_is b t ≡ true
unfolding is_in all_near
near_in t b [] e a = absurd (false≢true e)
near_in t b (u ∷ us) e a = go (eqb u t) refl (near_in t b us)
  where
    go : (c : Bool) → eqb u t ≡ c → (is_in us t ≡ true → all_near us b ≡ true → near_is b t ≡ true) → near_is b t ≡ true
    go true q rest = rw (← (eqb-true u t q)) (both_left (near_is b u) (all_near us b) a)
    go false q rest = rest (rw q at e) (both_right (near_is b u) (all_near us b) a)

near : (t b : ℕ) → b < 256 → is_in tags t ≡ true → distance t b ≤ 1 → nearest tags b ≡ Some t
near t b h e d =
    found_itself t (nearest tags b)
    (rw (le-leb (distance t b) 1 d) at (near_in t b tags e (true_of (all_near tags b) (below (all_near tags) 256 all_near_lem b h))))

only_in : (us : List ℕ) (t b : ℕ) → nearest us b ≡ Some t → (is_in us t ≡ true) × (distance t b ≤ 1)
unfolding nearest is_in
only_in [] t b e = let z : ◌≡◌ {A = ℕ} 0 1 = cc in absurd (omega arith)
only_in (u ∷ us) t b e = go (leb (distance u b) 1) refl (only_in us t b)
  where
    or_right : (x y : Bool) → y ≡ true → (x || y) ≡ true
    or_right true y f = refl
    or_right false y f = f

    go : (c : Bool) → leb (distance u b) 1 ≡ c → (nearest us b ≡ Some t → (is_in us t ≡ true) × (distance t b ≤ 1))
        → (is_in (u ∷ us) t ≡ true) × (distance t b ≤ 1)
    go true p rest =
        let e' : Some u ≡ Some t = rw p at e in
        let same : u ≡ t = cc in
        (rw (eq-eqb u t same) refl, rw (← same) (leb-true (distance u b) 1 p))
    go false p rest =
        let r = rest (rw p at e) in
        (or_right (eqb u t) (is_in us t) r.0, r.1)

pub tag_table : TagTable
unfolding all_apart apart_from bytes_found is_found nearest ones ones_in
tag_table = record { apart = refl; counted = refl; refused = refl; itself = itself; near = near; only = only_in tags }
