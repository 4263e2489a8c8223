-- The first bitmap block by block: a byte's four entries stand two bits apart, so that of block b is the one that its two marks give.
-- Assumes nothing.
use mathlib.Core.Bool.{Bool, true, false, cond, ◌||◌}
use mathlib.Core.List.{List}
use mathlib.Core.Path.{◌≡◌, sym, ◌∙◌, ap}
use Prim.Native.Nat.{ℕ, zero, suc, ◌+◌, ◌*◌, ◌/◌, ◌%◌, ◌^◌, ◌<◌, ◌≤◌}
use native.Mathlib.Nat.{add-zero, div-one}
use native.Mathlib.Omega.{arith}
use lib.Dec.{eqb}
use lib.ListN.{get_or}
use Rattle.bits.proofs.Filling.{get_d_build}
use Rattle.bbt.specs.Entries.{entry_of, mark_entry, first_entry, first_byte, first_bitmap}

entry_small : (first second : ℕ) → mark_entry first second ≤ 3
entry_small first second = go (eqb first 0 || eqb second 0)
  where
    go : (t : Bool) → cond t 0 3 ≤ 3
    go true = omega arith
    go false = omega arith

-- entry j of byte k
in_byte : (marks : List ℕ) (k j : ℕ) → j < 4 → first_byte marks k / 4 ^ j % 4 ≡ first_entry marks (4 * k + j)
unfolding first_byte
in_byte marks k j h =
    let small : (b : ℕ) → first_entry marks b ≤ 3 = λ b. entry_small (get_or marks (2 * b) 0) (get_or marks (2 * b + 1) 0) in
    go j h (small (4 * k)) (small (4 * k + 1)) (small (4 * k + 2)) (small (4 * k + 3))
  where
    go : (j : ℕ) → j < 4 → first_entry marks (4 * k) ≤ 3 → first_entry marks (4 * k + 1) ≤ 3 → first_entry marks (4 * k + 2) ≤ 3 → first_entry marks (4 * k + 3) ≤ 3
        → first_byte marks k / 4 ^ j % 4 ≡ first_entry marks (4 * k + j)
    go zero h a b c d =
        let lowest : first_byte marks k % 4 ≡ first_entry marks (4 * k) = omega arith in
        ap (λ (n : ℕ). n % 4) (div-one (first_byte marks k)) ∙ lowest ∙ ap (first_entry marks) (sym (add-zero (4 * k)))
    go (suc zero) h a b c d = omega arith
    go (suc (suc zero)) h a b c d = omega arith
    go (suc (suc (suc zero))) h a b c d = omega arith
    go (suc (suc (suc (suc j)))) h a b c d = absurd (omega arith)

pub first_entry_lem : (n : ℕ) (marks : List ℕ) (b : ℕ) → n % 4 ≡ 0 → b < n → entry_of (first_bitmap n marks) b ≡ first_entry marks b
first_entry_lem n marks b fours h =
    let block : 4 * (b / 4) + b % 4 ≡ b = omega arith in
    ap (λ (byte : ℕ). byte / 4 ^ (b % 4) % 4) (get_d_build (first_byte marks) (n / 4) (b / 4) (omega arith))
    ∙ in_byte marks (b / 4) (b % 4) (omega arith) ∙ ap (first_entry marks) block
