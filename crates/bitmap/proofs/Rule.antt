-- Laws of the update rule: its bits, a byte's four entries at once, and which bitmaps it keeps.
-- Assumes nothing.
use mathlib.Core.Bool.{Bool, false, cond, ◌&&◌}
use mathlib.Core.List.{List, [], ◌∷◌}
use mathlib.Core.Path.{◌≡◌, refl, ◌∙◌, ap}
use Prim.Native.Nat.{ℕ, ◌*◌, ◌-◌, ◌/◌, ◌%◌, ◌^◌, ◌<◌}
use native.Mathlib.Nat.{div-one}
use native.Mathlib.Omega.{arith}
use lib.Bits.{bit_and, bit_or, and_shr, or_shr, and_mod, or_mod, and_le_l}
use lib.Dec.{T, eqb, eqb→eq}
use lib.ListN.{length}
use Rattle.bits.proofs.Computed.{all, below, left, right}
use Rattle.bits.proofs.Gathering.{and_false}
use Rattle.bbt.specs.Entries.{entries_byte, updated_entry, updated_byte, updated_bytes}
use Rattle.bbt.specs.Pairs.{same}
use Rattle.bitmap.specs.Made.{new_equals_old}

-- the bits of an entry that the rule leaves: none where it is 11
kept : ℕ → ℕ
kept e = cond (eqb e 3) 0 3

-- one entry
entry : (o w : ℕ) → o < 4 → w < 4 → bit_and o (bit_or w (kept o)) ≡ updated_entry o w
unfolding kept updated_entry
entry o w ho hw =
    eqb→eq (bit_and o (bit_or w (kept o))) (updated_entry o w)
    (below (λ w. eqb (bit_and o (bit_or w (kept o))) (updated_entry o w)) 4
    (below (λ o. all (λ w. eqb (bit_and o (bit_or w (kept o))) (updated_entry o w)) 0 4) 4 tt o ho) w hw)

-- the entry at bit j of a byte, where the rule's mask is right there
entry_at : (j o w m : ℕ) → m / 2 ^ j % 4 ≡ kept (o / 2 ^ j % 4) → bit_and o (bit_or w m) / 2 ^ j % 4 ≡ updated_entry (o / 2 ^ j % 4) (w / 2 ^ j % 4)
entry_at j o w m e =
    ap (λ (n : ℕ). n % 4) (and_shr o (bit_or w m) j ∙ ap (bit_and (o / 2 ^ j)) (or_shr w m j))
    ∙ and_mod (o / 2 ^ j) (bit_or (w / 2 ^ j) (m / 2 ^ j)) 2 ∙ ap (bit_and (o / 2 ^ j % 4)) (or_mod (w / 2 ^ j) (m / 2 ^ j) 2)
    ∙ ap (λ (n : ℕ). bit_and (o / 2 ^ j % 4) (bit_or (w / 2 ^ j % 4) n)) e
    ∙ entry (o / 2 ^ j % 4) (w / 2 ^ j % 4) (omega arith) (omega arith)

-- a byte from its entries
entries : (r : ℕ) → r < 256 → r ≡ entries_byte (r % 4) (r / 4 % 4) (r / 16 % 4) (r / 64 % 4)
entries r h = eqb→eq r _ (below (λ r. eqb r (entries_byte (r % 4) (r / 4 % 4) (r / 16 % 4) (r / 64 % 4))) 256 tt r h)

of_entries : (r a b c d : ℕ) → r < 256 → r % 4 ≡ a → r / 4 % 4 ≡ b → r / 16 % 4 ≡ c → r / 64 % 4 ≡ d → r ≡ entries_byte a b c d
of_entries r a b c d h ea eb ec ed = omega (arith, entries r h)

-- the code's mask of a byte
abbrev both : ℕ → ℕ
both o = bit_and (bit_and o (o / 2)) 85

abbrev mask : ℕ → ℕ
mask o = 255 - bit_or (both o) (both o * 2 % 256)

-- is it right in each entry?
right_at : ℕ → ℕ → Bool
right_at o p = eqb (mask o / p % 4) (kept (o / p % 4))

mask_right : (o : ℕ) → o < 256 → T (right_at o 1 && (right_at o 4 && (right_at o 16 && right_at o 64)))
unfolding right_at kept
mask_right = below (λ o. right_at o 1 && (right_at o 4 && (right_at o 16 && right_at o 64))) 256 tt

-- the rule by bits
pub rule_bits : (o w : ℕ) → o < 256 → bit_and o (bit_or w (mask o)) ≡ updated_byte o w
unfolding updated_byte right_at
rule_bits o w h =
    let t = mask_right o h in
    let t₁ = right (right_at o 1) _ t in
    let t₂ = right (right_at o 4) _ t₁ in
    let at : (p : ℕ) → T (right_at o p) → mask o / p % 4 ≡ kept (o / p % 4) = λ p u. eqb→eq _ _ u in
    of_entries (bit_and o (bit_or w (mask o))) _ _ _ _ (omega (arith, and_le_l o (bit_or w (mask o))))
    (simp div-one at (entry_at 0 o w (mask o) (at 1 (left (right_at o 1) _ t))))
    (entry_at 2 o w (mask o) (at 4 (left (right_at o 4) _ t₁)))
    (entry_at 4 o w (mask o) (at 16 (left (right_at o 16) _ t₂)))
    (entry_at 6 o w (mask o) (at 64 (right (right_at o 16) _ t₂)))

-- a wanted bitmap that is too short newEqualsOld nothing
pub equal_short : (o w : List ℕ) → length w < length o → new_equals_old o w ≡ false
unfolding new_equals_old updated_bytes same
equal_short [] w h = absurd (omega arith)
equal_short (u ∷ o) [] h = refl
equal_short (u ∷ o) (v ∷ w) h = rw (equal_short o w (omega arith)) (and_false (eqb (updated_byte u v) u))
