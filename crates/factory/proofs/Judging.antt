-- Which bytes of a number are not 0, all judged at once: no byte carries into the next. So eight marks are told by their number.
-- Assumes nothing.
use mathlib.Core.List.{List, [], ◌∷◌, map}
use mathlib.Core.Path.{◌≡◌, refl, ◌∙◌, ap, ap₂}
use Prim.Native.Nat.{ℕ, ◌+◌, ◌*◌, ◌/◌, ◌≤◌, ◌<◌}
use native.Mathlib.Omega.{arith}
use lib.Bits.{bit_and, bit_or, and_block, or_block, or_lt, and_le_r}
use lib.Dec.{eqb, eqb→eq}
use lib.Lanes.{Each1}
use lib.ListN.{length, get_or}
use Rattle.std.proofs.lemmas.List.FromFn.{fill_by_all}
use Rattle.std.proofs.lemmas.Simd.{Each1-from_get_or}
use Rattle.bits.proofs.Computed.{below}
use Rattle.factory.specs.Marks.{first_at, lowest_first, flag}
use Rattle.factory.proofs.SideBySide.{each, judged, gathered, of_flags}

of_byte : (a : ℕ) → a < 256 → judged a 127 128 ≡ flag a * 128
of_byte a h = eqb→eq _ _ (below (λ a. eqb (judged a 127 128) (flag a * 128)) 256 tt a h)

-- no byte carries into the next, so all are judged at once
of_bytes : (l : List ℕ) → Each1 (λ a. a < 256) l → judged (lowest_first l) (each 127 (length l)) (each 128 (length l)) ≡ lowest_first (map flag l) * 128
of_bytes [] h = refl
of_bytes (a ∷ l) (ha, hl) =
    let x = lowest_first l in
    let m = each 127 (length l) in
    let top = each 128 (length l) in
    let low : bit_and a 127 ≤ 127 = and_le_r a 127 in
    let s : ℕ = bit_and a 127 + 127 in
    let sum : bit_and (x * 256 + a) (m * 256 + 127) + (m * 256 + 127) ≡ (bit_and x m + m) * 256 + s = omega (arith, and_block 8 x m a 127 ha (omega arith)) in
    let small : s < 256 = omega arith in
    ap (λ (n : ℕ). bit_and (bit_or n (x * 256 + a)) (top * 256 + 128)) sum
    ∙ ap (λ (n : ℕ). bit_and n (top * 256 + 128)) (or_block 8 (bit_and x m + m) x s a small ha)
    ∙ and_block 8 (bit_or (bit_and x m + m) x) top (bit_or s a) 128 (or_lt 8 s a small ha) (omega arith)
    ∙ ap₂ (λ (n k : ℕ). n * 256 + k) (of_bytes l hl) (of_byte a ha)
    ∙ omega arith

-- the number of eight bytes
pub of_marks : (l : List ℕ) (n : ℕ) → length l ≡ 8 → ((i : ℕ) → get_or l i 0 < 256) → n ≡ lowest_first l
    → judged n 9187201950435737471 9259542123273814144 / 128 ≡ lowest_first (map flag l)
of_marks l n e h en =
    let all = of_bytes l (Each1-from_get_or (λ a. a < 256) l 0 (λ i b. h i)) in
    rw en (omega (arith, rw e at all))

-- the entries of eight marks from their flags
pub of_eight : (l : List ℕ) (n : ℕ) → length l ≡ 8 → n ≡ lowest_first (map flag l) → gathered n ≡ first_at l 0
of_eight l n e en =
    let at : ℕ → ℕ = λ k. get_or l k 0 in
    ap gathered (en ∙ ap (λ (m : List ℕ). lowest_first (map flag m)) (fill_by_all at l 8 0 e (λ k h. refl)))
    ∙ of_flags (at 0) (at 1) (at 2) (at 3) (at 4) (at 5) (at 6) (at 7)
