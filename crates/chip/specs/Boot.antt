-- Document 01, "Path": for boot pages it is 4 × boot number + generation. A path tells both back.
use Rattle.std.specs.Prelude.{Bool, cond, ◌&&◌, List, [], ◌∷◌, ◌⊎◌, ◌≡◌, ℕ, ◌+◌, ◌*◌, ◌/◌, ◌%◌, ◌^◌, ◌<◌, ◌≤◌, eqb, leb, ltb, Result, Ok, Err}
use Rattle.chip.specs.declared.BootNumber.{BootNumber}
use Rattle.chip.specs.declared.Generation.{Generation}
use Rattle.chip.specs.declared.Refusal.{Refusal}
use Rattle.chip.specs.declared.Refusal.TheVariants.{Range}
use Rattle.chip.specs.Refusals.{refusal_number, refusal_detail}

-- the path of a boot number below 2^24 and a generation from 0 to 3, or refusal 2
unfoldable pub path_of : ℕ → ℕ → Result ℕ Refusal
path_of boot generation = cond (ltb boot (2 ^ 24) && leb generation 3) (Ok (4 * boot + generation)) (Err Range)

-- the boot number and the generation of a path below 2^26, or refusal 2
unfoldable pub boot_of : ℕ → Result (BootNumber × Generation) Refusal
boot_of path = cond (ltb path (2 ^ 26)) (Ok (record { 0 = path / 4 }, record { 0 = path % 4 })) (Err Range)

-- source document 000, 3.4: the generation increments modulo 4 every time the boot block is copied
abbrev pub follows : Generation → Generation → Bool
follows newer older = eqb newer.0 ((older.0 + 1) % 4)

-- ---- document 01's number of each answer, 0 where nothing is refused, and its values
-- the path; of a refusal, what comes with it
abbrev pub path_told : Result ℕ Refusal → ℕ × List ℕ
path_told (Ok p) = (0, p ∷ [])
path_told (Err r) = (refusal_number r, refusal_detail r ∷ [])

-- the boot number and the generation; of a refusal, what comes with it
abbrev pub boot_told : Result (BootNumber × Generation) Refusal → ℕ × List ℕ
boot_told (Ok (b, g)) = (0, b.0 ∷ g.0 ∷ [])
boot_told (Err r) = (refusal_number r, refusal_detail r ∷ [])

-- ---- there and back
-- of the path that was answered, its boot number and generation; of the boot number and generation that were, their path
abbrev pub boot_of_answer : Result ℕ Refusal → Result (BootNumber × Generation) Refusal
boot_of_answer (Ok p) = boot_of p
boot_of_answer (Err r) = Err r

abbrev pub path_of_answer : Result (BootNumber × Generation) Refusal → Result ℕ Refusal
path_of_answer (Ok (b, g)) = path_of b.0 g.0
path_of_answer (Err r) = Err r

pub record BootRoundTrip : Type 0 where
  -- the path of a boot number and a generation gives them back
  pub back : (boot generation : ℕ) → boot < 2 ^ 24 → generation ≤ 3 → boot_told (boot_of_answer (path_of boot generation)) ≡ (0, boot ∷ generation ∷ [])
  -- every path below 2^26 is that of its boot number and generation, and of no others
  pub every : (path : ℕ) → path < 2 ^ 26 → path_told (path_of_answer (boot_of path)) ≡ (0, path ∷ [])
  pub only : (boot generation path : ℕ) → path_told (path_of boot generation) ≡ (0, path ∷ []) → boot_told (boot_of path) ≡ (0, boot ∷ generation ∷ [])
  -- anything else is refusal 2
  pub no_path : (boot generation : ℕ) → (2 ^ 24 ≤ boot) ⊎ (3 < generation) → path_told (path_of boot generation) ≡ (2, 0 ∷ [])
  pub no_boot : (path : ℕ) → 2 ^ 26 ≤ path → boot_told (boot_of path) ≡ (2, 0 ∷ [])
