-- Of at most 1,024 blocks every standing fits its slot: a block's place is below their number, and a generation is a path modulo 4. So the
-- slots are kept right from block to block.
-- Assumes nothing.
use mathlib.Core.List.{List}
use mathlib.Core.Path.{◌≡◌, refl, sym, ◌∙◌, subst}
use Prim.Native.Nat.{ℕ, zero, suc, ◌+◌, ◌<◌, ◌≤◌}
use native.Mathlib.Numerals.{add-one}
use native.Mathlib.Omega.{arith}
use lib.Seq.{ext_get_or}
use Rattle.std.proofs.lemmas.Bool.Decides.{nat_tests}
use Rattle.std.specs.Prelude.{Option, Some, None}
use Rattle.chip.specs.Boot.{boot_of}
use Rattle.chip.specs.declared.ChipBlock.{ChipBlock}
use Rattle.chip.specs.declared.Generation.{Generation}
use Rattle.spare.specs.Reading.{spare_answer}
use Rattle.boot.specs.declared.Standing.{Standing}
use Rattle.boot.specs.declared.Standing.TheVariants.{Missing, One, Pair, Wrong}
use Rattle.boot.specs.Counting.{path_by, counted_by, agreed, first_spare, last_spare, block_at, Counted}
use Rattle.boot.specs.Mapping.{Blocks, copies, standing, above_with, above}
use Rattle.boot.specs.Slots.{joined, noted, slots_of}
use Rattle.boot.proofs.Joining.{joined_at, standing_turn}
use Rattle.boot.proofs.Slots.{Small, slot_at, length_slots, length_noted, noted_at}

-- a generation below 4
abbrev SmallSeen : Counted → Type 0
SmallSeen None = Unit {0}
SmallSeen (Some (k, g)) = g.0 < 4

small_boot : (p : ℕ) → SmallSeen (counted_by (boot_of p))
unfolding boot_of
small_boot p = grind (arith, nat_tests)

small_agreed : (first last : Option ℕ) → SmallSeen (agreed first last)
small_agreed None last = tt
small_agreed (Some p) None = tt
small_agreed (Some p) (Some q) = grind (arith, nat_tests, small_boot p)

small_block : (spares : List ℕ) (b : ℕ) → SmallSeen (block_at spares b)
unfolding block_at
small_block spares b = small_agreed (path_by (spare_answer (first_spare spares b))) (path_by (spare_answer (last_spare spares b)))

small_joined : (s : Standing) (b : ChipBlock) (g : Generation) → b.0 < 1024 → g.0 < 4 → Small s → Small (joined s b g)
small_joined Missing b g hb hg h = (hb, hg)
small_joined (One a k) b g hb hg h = grind arith
small_joined (Pair older newer) b g hb hg h = tt
small_joined Wrong b g hb hg h = tt

small_turn : (k : ℕ) (b : ChipBlock) (seen : Counted) (s : Standing) → b.0 < 1024 → SmallSeen seen → Small s → Small (joined_at k b seen s)
small_turn k b None s hb hg h = h
small_turn k b (Some (m, g)) s hb hg h = grind (arith, nat_tests, small_joined s b g hb hg h, h)

pub small_standing : (spares : List ℕ) (n k : ℕ) → n ≤ 1024 → Small (standing (block_at spares) n k)
unfolding standing copies
small_standing spares zero k h = tt
small_standing spares (suc n) k h =
    subst Small (sym (standing_turn (block_at spares) n k))
    (small_turn k (record { 0 = n }) (block_at spares n) (standing (block_at spares) n k) (omega arith) (small_block spares n) (small_standing spares n k (omega arith)))

-- ---- one block more
pub slots_turn : (spares : List ℕ) (b : ℕ) → b < 1024
    → slots_of (standing (block_at spares) (b + 1)) ≡ noted (slots_of (standing (block_at spares) b)) (record { 0 = b }) (block_at spares b)
slots_turn spares b h =
    let f : ℕ → Standing = standing (block_at spares) b in
    let g : ℕ → Standing = standing (block_at spares) (b + 1) in
    let at : ChipBlock = record { 0 = b } in
    let seen : Counted = block_at spares b in
    ext_get_or 0 (slots_of g) (noted (slots_of f) at seen) (length_slots g ∙ sym (length_noted f at seen))
    (λ i l. let k : i < 1024 = omega (arith, l, length_slots g) in slot_at g i k ∙ rw (add-one, standing_turn (block_at spares) b i) (sym (noted_at f at seen i k (small_standing spares b i (omega arith)))))

pub above_turn : (blocks : Blocks) (b : ℕ) → above blocks (b + 1) ≡ above_with (above blocks b) (blocks b)
unfolding above
above_turn blocks b = rw add-one refl
