-- How each number stands after one block more: as before, or joined by that block. So it can be kept up to date block by block.
-- Assumes nothing.
use mathlib.Core.Bool.{cond}
use mathlib.Core.List.{List, [], ◌∷◌, ◌++◌, append-nil}
use mathlib.Core.Path.{◌≡◌, refl, ap}
use Prim.Native.Nat.{ℕ, suc}
use native.Mathlib.Omega.{arith}
use lib.Dec.{eqb}
use Rattle.std.proofs.lemmas.Bool.Decides.{nat_tests}
use Rattle.std.proofs.lemmas.Grind.{common_steps}
use Rattle.std.specs.Prelude.{Some, None}
use Rattle.chip.specs.declared.ChipBlock.{ChipBlock}
use Rattle.boot.specs.declared.Standing.{Standing}
use Rattle.boot.specs.Counting.{Counted}
use Rattle.boot.specs.Mapping.{Blocks, Copy, copy_of, copies, of_copies, standing}
use Rattle.boot.specs.Slots.{joined}

-- a number's standing after block b
abbrev pub joined_at : ℕ → ChipBlock → Counted → Standing → Standing
joined_at k b None s = s
joined_at k b (Some (m, g)) s = cond (eqb m.0 k) (joined s b g) s

-- one copy more: a third is wrong whatever the two are
joined_copies : (l : List Copy) (x : Copy) → of_copies (l ++ (x ∷ [])) ≡ joined (of_copies l) x.block x.generation
joined_copies [] x = refl
joined_copies (a ∷ []) x = refl
joined_copies (a ∷ b ∷ []) x = grind arith
joined_copies (a ∷ b ∷ c ∷ l) x = refl

joined_if : (l : List Copy) (k b : ℕ) (seen : Counted) → of_copies (l ++ copy_of k b seen) ≡ joined_at k (record { 0 = b }) seen (of_copies l)
joined_if l k b None = ap of_copies (append-nil l)
joined_if l k b (Some (m, g)) = grind (arith, common_steps, nat_tests, joined_copies l (record { block = record { 0 = b }; generation = g }))

pub standing_turn : (blocks : Blocks) (n k : ℕ) → standing blocks (suc n) k ≡ joined_at k (record { 0 = n }) (blocks n) (standing blocks n k)
unfolding standing copies
standing_turn blocks n k = joined_if (copies blocks n k) k n (blocks n)
