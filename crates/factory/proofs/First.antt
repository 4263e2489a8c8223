-- Laws of the first bitmap's answer and bytes: where a byte's marks stand, the refusal of N or the region's size, and what is made on their chip.
-- Assumes nothing.
use Rattle.std.specs.Prelude.{Ok, Err}
use mathlib.Core.Bool.{true, false, and-false}
use mathlib.Core.List.{List, [], ◌∷◌}
use mathlib.Core.Path.{◌≡◌, refl, ◌∙◌, ap, ap₂}
use Prim.Native.Nat.{ℕ, zero, suc, ◌+◌, ◌*◌, ◌/◌, ◌<◌}
use native.Mathlib.Omega.{arith}
use borrow.Author.Tests.{eq-eqb, ne_eqb}
use lib.ListN.{length, get_or, set, drop}
use lib.Seq.{get_or-take, get_or-drop}
use Rattle.std.proofs.lemmas.Grind.{common_steps}
use Rattle.std.specs.Simd.{first_chunks}
use Rattle.bits.specs.Bytes.{build}
use Rattle.chip.specs.Large.{chip_of, bitmap_bytes}
use Rattle.chip.specs.declared.LargeChip.{LargeChip}
use Rattle.chip.specs.declared.Refusal.{Refusal}
use Rattle.chip.specs.declared.Refusal.TheVariants.{Length}
use Rattle.bbt.proofs.Raw.{chip_valid}
use Rattle.bbt.specs.Entries.{mark_entry, first_entry, first_byte}
use Rattle.factory.specs.Marks.{first_at}
use Rattle.factory.specs.FirstBitmap.{marks_lent, first_answer, first_after}

-- element k of the i-th part of n
part_at : (n c : ℕ) (l : List ℕ) (i k p : ℕ) → i < c → k < n → p ≡ i * n + k → get_or (get_or (first_chunks n c l) i []) k 0 ≡ get_or l p 0
part_at n zero l i k p h hk e = absurd (omega arith)
part_at n (suc c) l zero k p h hk e = get_or-take n l k 0 hk ∙ ap (λ (q : ℕ). get_or l q 0) (omega arith)
part_at n (suc c) l (suc i) k p h hk e =
    part_at n c (drop n l) i k (i * n + k) (omega arith) hk refl ∙ get_or-drop n l (i * n + k) 0 ∙ ap (λ (q : ℕ). get_or l q 0) (omega arith)

-- marks 8i to 8i + 7 are those of blocks 4i to 4i + 3
module _ (marks : List ℕ) (i : ℕ) (h : i < length marks / 8) where
  eight : List ℕ
  eight = get_or (first_chunks 8 (length marks / 8) marks) i []

  -- a mark by its place
  mark : (p q : ℕ) → p ≡ q → get_or marks p 0 ≡ get_or marks q 0
  mark p q e = ap (λ (n : ℕ). get_or marks n 0) e

  -- eight marks that are these give the byte of those blocks
  pub byte_of_eight : (l : List ℕ) (r : ℕ) → get_or l 0 0 ≡ get_or marks (8 * i) 0 → get_or l 1 0 ≡ get_or marks (8 * i + 1) 0
      → get_or l 2 0 ≡ get_or marks (8 * i + 2) 0 → get_or l 3 0 ≡ get_or marks (8 * i + 3) 0 → get_or l 4 0 ≡ get_or marks (8 * i + 4) 0
      → get_or l 5 0 ≡ get_or marks (8 * i + 5) 0 → get_or l 6 0 ≡ get_or marks (8 * i + 6) 0 → get_or l 7 0 ≡ get_or marks (8 * i + 7) 0
      → r ≡ first_at l 0 → r ≡ first_byte marks i
  unfolding first_byte
  byte_of_eight l r m₀ m₁ m₂ m₃ m₄ m₅ m₆ m₇ er =
      let e₀ : mark_entry (get_or l 0 0) (get_or l 1 0) ≡ first_entry marks (4 * i) = ap₂ mark_entry (m₀ ∙ mark _ _ (omega arith)) (m₁ ∙ mark _ _ (omega arith)) in
      let e₁ : mark_entry (get_or l 2 0) (get_or l 3 0) ≡ first_entry marks (4 * i + 1) = ap₂ mark_entry (m₂ ∙ mark _ _ (omega arith)) (m₃ ∙ mark _ _ (omega arith)) in
      let e₂ : mark_entry (get_or l 4 0) (get_or l 5 0) ≡ first_entry marks (4 * i + 2) = ap₂ mark_entry (m₄ ∙ mark _ _ (omega arith)) (m₅ ∙ mark _ _ (omega arith)) in
      let e₃ : mark_entry (get_or l 6 0) (get_or l 7 0) ≡ first_entry marks (4 * i + 3) = ap₂ mark_entry (m₆ ∙ mark _ _ (omega arith)) (m₇ ∙ mark _ _ (omega arith)) in
      er ∙ omega (arith, e₀, e₁, e₂, e₃)

  -- eight marks asked one by one, at these places: what edits of the loop go by
  pub byte_at_places : (p₀ p₁ p₂ p₃ p₄ p₅ p₆ p₇ r : ℕ) → r ≡ first_at (get_or marks p₀ 0 ∷ get_or marks p₁ 0 ∷ get_or marks p₂ 0 ∷ get_or marks p₃ 0 ∷ get_or marks p₄ 0 ∷ get_or marks p₅ 0 ∷ get_or marks p₆ 0 ∷ get_or marks p₇ 0 ∷ []) 0
      → p₀ ≡ 8 * i → p₁ ≡ 8 * i + 1 → p₂ ≡ 8 * i + 2 → p₃ ≡ 8 * i + 3 → p₄ ≡ 8 * i + 4 → p₅ ≡ 8 * i + 5 → p₆ ≡ 8 * i + 6 → p₇ ≡ 8 * i + 7 → r ≡ first_byte marks i
  byte_at_places p₀ p₁ p₂ p₃ p₄ p₅ p₆ p₇ r er e₀ e₁ e₂ e₃ e₄ e₅ e₆ e₇ =
      byte_of_eight (get_or marks p₀ 0 ∷ get_or marks p₁ 0 ∷ get_or marks p₂ 0 ∷ get_or marks p₃ 0 ∷ get_or marks p₄ 0 ∷ get_or marks p₅ 0 ∷ get_or marks p₆ 0 ∷ get_or marks p₇ 0 ∷ []) r (mark _ _ e₀) (mark _ _ e₁) (mark _ _ e₂) (mark _ _ e₃) (mark _ _ e₄) (mark _ _ e₅) (mark _ _ e₆) (mark _ _ e₇) er

  -- what is stored for them
  pub stored_byte : (eights : List (List ℕ)) (r : ℕ) → eights ≡ first_chunks 8 (length marks / 8) marks → r ≡ first_at (get_or eights i []) 0 → r ≡ first_byte marks i
  unfolding eight
  stored_byte eights r e er =
      let part : (k p : ℕ) → k < 8 → p ≡ 8 * i + k → get_or eight k 0 ≡ get_or marks p 0 = λ k p hk q. part_at 8 (length marks / 8) marks i k p h hk (omega (arith, q)) in
      byte_of_eight eight r (part 0 _ (omega arith) (omega arith)) (part 1 _ (omega arith) refl) (part 2 _ (omega arith) refl) (part 3 _ (omega arith) refl)
      (part 4 _ (omega arith) refl) (part 5 _ (omega arith) refl) (part 6 _ (omega arith) refl) (part 7 _ (omega arith) refl)
      (er ∙ ap (λ (l : List (List ℕ)). first_at (get_or l i []) 0) e)

-- a turn of the loop: the byte at i is stored beside those before it
pub filled_turn : (f : ℕ → ℕ) (l : List ℕ) (n i r : ℕ) → (length l ≡ n) × ((k : ℕ) → k < i → get_or l k 0 ≡ f k) → i < n → r ≡ f i
    → (length (set l i r) ≡ n) × ((k : ℕ) → k < i + 1 → get_or (set l i r) k 0 ≡ f k)
filled_turn f l n i r h b e = grind (arith, common_steps)

-- ---- what is answered, and the room after it
module _ (n size : ℕ) (marks room : List ℕ) where
  pub refused_answer : (r : Refusal) → chip_of n size ≡ Err r → first_answer n size marks room ≡ Err r
  unfolding first_answer
  refused_answer r e = rw e refl

  pub refused_after : (r : Refusal) → chip_of n size ≡ Err r → first_after n size marks room ≡ room
  unfolding first_after first_answer
  refused_after r e = rw e refl

  module _ (chip : LargeChip) (is : chip_of n size ≡ Ok chip) where
    short_marks : (length marks ≡ 2 * chip.blocks → ⊥) → marks_lent chip marks room ≡ false
    unfolding marks_lent
    short_marks h = rw (ne_eqb _ _ h) refl

    short_room : (length room ≡ bitmap_bytes chip → ⊥) → marks_lent chip marks room ≡ false
    unfolding marks_lent
    short_room h = simp (ne_eqb (length room) (bitmap_bytes chip) h, and-false)

    long : length marks ≡ 2 * chip.blocks → length room ≡ bitmap_bytes chip → marks_lent chip marks room ≡ true
    unfolding marks_lent
    long a b = rw (eq-eqb _ _ a, eq-eqb _ _ b) refl

    pub short_marks_answer : (length marks ≡ 2 * chip.blocks → ⊥) → first_answer n size marks room ≡ Err Length
    unfolding first_answer
    short_marks_answer h = rw (is, short_marks h) refl

    pub short_marks_after : (length marks ≡ 2 * chip.blocks → ⊥) → first_after n size marks room ≡ room
    unfolding first_after first_answer
    short_marks_after h = rw (is, short_marks h) refl

    pub short_room_answer : (length room ≡ bitmap_bytes chip → ⊥) → first_answer n size marks room ≡ Err Length
    unfolding first_answer
    short_room_answer h = rw (is, short_room h) refl

    pub short_room_after : (length room ≡ bitmap_bytes chip → ⊥) → first_after n size marks room ≡ room
    unfolding first_after first_answer
    short_room_after h = rw (is, short_room h) refl

    pub made_answer : length marks ≡ 2 * chip.blocks → length room ≡ bitmap_bytes chip → first_answer n size marks room ≡ Ok tt
    unfolding first_answer
    made_answer a b = rw (is, long a b) refl

    pub made_after : length marks ≡ 2 * chip.blocks → length room ≡ bitmap_bytes chip → first_after n size marks room ≡ build (first_byte marks) (length room)
    unfolding first_after first_answer
    made_after a b = rw (is, long a b) (ap (build (first_byte marks)) (omega (arith, b, (chip_valid n size chip is).blocks)))
