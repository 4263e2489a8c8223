-- The path of a boot page and its boot number and generation tell each other: 4 × n + g, with g below 4, has the quotient n and the rest g.
-- Assumes nothing.
use mathlib.Core.Bool.{Bool, true, false}
use mathlib.Core.List.{List, [], ◌∷◌}
use mathlib.Core.Logic.{◌⊎◌, inl, inr}
use mathlib.Core.Path.{◌≡◌, refl, ◌∙◌, ap, sym}
use Prim.Native.Nat.{ℕ, ◌+◌, ◌*◌, ◌/◌, ◌%◌, ◌^◌, ◌<◌, ◌≤◌}
use native.Mathlib.Omega.{arith}
use borrow.Author.Tests.{le-leb, le-ltb, leb-false, lt-leb, lt-ltb, ltb-false, leb-true, ltb-true}
use lib.Dec.{leb, ltb}
use lib.ListN.{get_or}
use Rattle.chip.specs.Boot.{path_of, boot_of, path_told, boot_told, boot_of_answer, path_of_answer, BootRoundTrip}

told_both : {a b c d : ℕ} → a ≡ c → b ≡ d → ◌≡◌ {A = ℕ × List ℕ} (0, a ∷ b ∷ []) (0, c ∷ d ∷ [])
told_both p q = rw (p, q) refl

-- the boot number and the generation of the path made of them
boot-of : (boot generation : ℕ) → boot < 2 ^ 24 → generation ≤ 3 → boot_told (boot_of (4 * boot + generation)) ≡ (0, boot ∷ generation ∷ [])
unfolding boot_of
boot-of boot generation h g = rw (lt-ltb (4 * boot + generation) (2 ^ 26) (omega arith)) (told_both (omega arith) (omega arith))

back : (boot generation : ℕ) → boot < 2 ^ 24 → generation ≤ 3 → boot_told (boot_of_answer (path_of boot generation)) ≡ (0, boot ∷ generation ∷ [])
unfolding path_of
back boot generation h g = rw (lt-ltb boot (2 ^ 24) h, le-leb generation 3 g) (boot-of boot generation h g)

every : (path : ℕ) → path < 2 ^ 26 → path_told (path_of_answer (boot_of path)) ≡ (0, path ∷ [])
unfolding boot_of path_of
every path h =
    let made : 4 * (path / 4) + path % 4 ≡ path = omega arith in
    rw (lt-ltb path (2 ^ 26) h, lt-ltb (path / 4) (2 ^ 24) (omega arith), le-leb (path % 4) 3 (omega arith), made) refl

no-path : (boot generation : ℕ) → (2 ^ 24 ≤ boot) ⊎ (3 < generation) → path_told (path_of boot generation) ≡ (2, 0 ∷ [])
unfolding path_of
no-path boot generation (inl h) = rw (le-ltb boot (2 ^ 24) h) refl
no-path boot generation (inr h) = go (ltb boot (2 ^ 24)) refl
  where
    go : (b : Bool) → ltb boot (2 ^ 24) ≡ b → path_told (path_of boot generation) ≡ (2, 0 ∷ [])
    go true e = rw (e, lt-leb generation 3 h) refl
    go false e = rw e refl

no-boot : (path : ℕ) → 2 ^ 26 ≤ path → boot_told (boot_of path) ≡ (2, 0 ∷ [])
unfolding boot_of
no-boot path h = rw (le-ltb path (2 ^ 26) h) refl

only : (boot generation path : ℕ) → path_told (path_of boot generation) ≡ (0, path ∷ []) → boot_told (boot_of path) ≡ (0, boot ∷ generation ∷ [])
unfolding path_of
only boot generation path e = go (ltb boot (2 ^ 24)) (leb generation 3) refl refl
  where
    refused : (2 ^ 24 ≤ boot) ⊎ (3 < generation) → boot_told (boot_of path) ≡ (0, boot ∷ generation ∷ [])
    refused h = let z : ◌≡◌ {A = ℕ} 2 0 = ap (λ (t : ℕ × List ℕ). t.0) (sym (no-path boot generation h) ∙ e) in absurd (omega arith)

    go : (b c : Bool) → ltb boot (2 ^ 24) ≡ b → leb generation 3 ≡ c → boot_told (boot_of path) ≡ (0, boot ∷ generation ∷ [])
    go true true p q =
        let f : ◌≡◌ {A = ℕ × List ℕ} (0, (4 * boot + generation) ∷ []) (0, path ∷ []) = rw (p, q) at e in
        let made : 4 * boot + generation ≡ path = ap (λ (t : ℕ × List ℕ). get_or t.1 0 0) f in
        rw (← made) (boot-of boot generation (ltb-true boot (2 ^ 24) p) (leb-true generation 3 q))
    go true false p q = refused (inr (leb-false generation 3 q))
    go false c p q = refused (inl (ltb-false boot (2 ^ 24) p))

pub boot_round_trip : BootRoundTrip
boot_round_trip = record { back = back; every = every; only = only; no_path = no-path; no_boot = no-boot }
