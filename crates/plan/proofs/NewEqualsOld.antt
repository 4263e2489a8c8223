-- The update rule goes part by part: it keeps a bitmap where it keeps each page's part.
-- Assumes nothing.
use mathlib.Core.Bool.{◌&&◌}
use mathlib.Core.List.{List, [], ◌∷◌, ◌++◌}
use mathlib.Core.Path.{◌≡◌, refl, ◌∙◌, ap, ap₂, sym}
use Prim.Native.Nat.{ℕ, zero, suc, ◌+◌, ◌*◌, ◌<◌, ◌≤◌}
use native.Mathlib.Numerals.{add-one}
use native.Mathlib.Omega.{arith}
use lib.ListN.{length, take, length-take}
use lib.Seq.{take-add}
use Rattle.region.proofs.Stored.{stored_parts_next}
use Rattle.bbt.proofs.Searches.{same_append}
use Rattle.bbt.specs.Entries.{updated_byte, updated_bytes}
use Rattle.bbt.specs.Images.{chunk}
use Rattle.bbt.specs.Pages.{all}
use Rattle.bbt.specs.Pairs.{same}
use Rattle.region.specs.Stored.{stored_parts}
use Rattle.bitmap.specs.Made.{new_equals_old}
use Rattle.chip.specs.Large.{bitmap_bytes, pages_of}
use Rattle.chip.specs.declared.LargeChip.{LargeChip}
use Rattle.region.proofs.Bitmaps.{part_whole, stored_long}
use Rattle.region.specs.Parts.{part_of}

updated_append : (a b u v : List ℕ) → length a ≡ length u → updated_bytes (a ++ b) (u ++ v) ≡ updated_bytes a u ++ updated_bytes b v
unfolding updated_bytes
updated_append [] b [] v e = refl
updated_append [] b (w ∷ u) v e = absurd (omega arith)
updated_append (o ∷ a) b [] v e = absurd (omega arith)
updated_append (o ∷ a) b (w ∷ u) v e = ap (λ (l : List ℕ). updated_byte o w ∷ l) (updated_append a b u v (omega arith))

updated_length : (a u : List ℕ) → length a ≡ length u → length (updated_bytes a u) ≡ length a
unfolding updated_bytes
updated_length [] [] e = refl
updated_length [] (w ∷ u) e = absurd (omega arith)
updated_length (o ∷ a) [] e = absurd (omega arith)
updated_length (o ∷ a) (w ∷ u) e = ap suc (updated_length a u (omega arith))

equal_append : (a b u v : List ℕ) → length a ≡ length u → new_equals_old (a ++ b) (u ++ v) ≡ (new_equals_old a u && new_equals_old b v)
unfolding new_equals_old
equal_append a b u v e =
    ap (λ (l : List ℕ). same l (a ++ b)) (updated_append a b u v e) ∙ same_append (updated_bytes a u) (updated_bytes b v) a b (updated_length a u e)

-- one page more
equal_next : (chip : LargeChip) (image : List ℕ) → chip.region * pages_of chip * 2112 ≤ length image → (b p : ℕ) → b < chip.region → p < pages_of chip
    → (wanted : List ℕ) → length wanted ≡ bitmap_bytes chip
    → new_equals_old (stored_parts chip image b (p + 1)) (take (2048 * (p + 1)) wanted)
    ≡ (new_equals_old (stored_parts chip image b p) (take (2048 * p) wanted) && new_equals_old (part_of chip image b p) (chunk p wanted))
unfolding chunk
equal_next chip image room b p hb hp wanted hw =
    let next : 2048 * (p + 1) ≡ 2048 * p + 2048 = omega arith in
    ap₂ new_equals_old (stored_parts_next chip image b p ∙ ap (λ (x : List ℕ). stored_parts chip image b p ++ x) (sym (part_whole chip image room b p hb hp)))
    (ap (λ (k : ℕ). take k wanted) next ∙ take-add (2048 * p) 2048 wanted)
    ∙ equal_append (stored_parts chip image b p) (part_of chip image b p) (take (2048 * p) wanted) (chunk p wanted)
    (stored_long chip image room b p hb (omega arith) ∙ simp length-take (omega arith))

-- a whole bitmap is kept where each page's part is
pub kept_by_parts : (chip : LargeChip) (image : List ℕ) → chip.region * pages_of chip * 2112 ≤ length image → (b n : ℕ) → b < chip.region → n ≤ pages_of chip
    → (wanted : List ℕ) → length wanted ≡ bitmap_bytes chip
    → new_equals_old (stored_parts chip image b n) (take (2048 * n) wanted) ≡ all n (λ p. new_equals_old (part_of chip image b p) (chunk p wanted))
unfolding stored_parts new_equals_old updated_bytes same all
kept_by_parts chip image room b zero hb h wanted hw = refl
kept_by_parts chip image room b (suc n) hb h wanted hw =
    ap (λ (k : ℕ). new_equals_old (stored_parts chip image b k) (take (2048 * k) wanted)) (sym (add-one n))
    ∙ equal_next chip image room b n hb (omega arith) wanted hw
    ∙ ap (λ t. t && new_equals_old (part_of chip image b n) (chunk n wanted)) (kept_by_parts chip image room b n hb (omega arith) wanted hw)
