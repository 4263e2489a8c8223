-- Laws of `⊕`, the odd-or-even sum of two bits.
-- Assumes nothing.
use mathlib.Core.Path.{◌≡◌, refl, ◌∙◌, ap, sym}
use mathlib.Core.Bool.{Bool, true, false, not, ◌&&◌}
use Rattle.bits.specs.Bits.{◌⊕◌}

pub ⊕_false : (a : Bool) → (a ⊕ false) ≡ a
⊕_false true = refl
⊕_false false = refl

pub ⊕_self : (a : Bool) → (a ⊕ a) ≡ false
⊕_self true = refl
⊕_self false = refl

pub not_⊕ : (a b : Bool) → not (a ⊕ b) ≡ (not a ⊕ b)
not_⊕ true true = refl
not_⊕ true false = refl
not_⊕ false true = refl
not_⊕ false false = refl

pub ⊕_comm : (a b : Bool) → (a ⊕ b) ≡ (b ⊕ a)
⊕_comm true true = refl
⊕_comm true false = refl
⊕_comm false true = refl
⊕_comm false false = refl

pub ⊕_assoc : (a b c : Bool) → (a ⊕ b ⊕ c) ≡ (a ⊕ (b ⊕ c))
⊕_assoc true true true = refl
⊕_assoc true true false = refl
⊕_assoc true false c = refl
⊕_assoc false b c = refl

pub ⊕_swap : (a b c d : Bool) → (a ⊕ b ⊕ (c ⊕ d)) ≡ (a ⊕ c ⊕ (b ⊕ d))
⊕_swap a b c d = ⊕_assoc a b (c ⊕ d) ∙ ap (λ (t : Bool). a ⊕ t) (sym (⊕_assoc b c d) ∙ ap (λ (t : Bool). t ⊕ d) (⊕_comm b c) ∙ ⊕_assoc c b d) ∙ sym (⊕_assoc a c (b ⊕ d))

pub ⊕_last : (a b c : Bool) → (a ⊕ b ⊕ c) ≡ (a ⊕ c ⊕ b)
⊕_last a b c = ⊕_assoc a b c ∙ ap (λ (t : Bool). a ⊕ t) (⊕_comm b c) ∙ sym (⊕_assoc a c b)

pub and_⊕_left : (a b c : Bool) → ((a ⊕ b) && c) ≡ ((a && c) ⊕ (b && c))
and_⊕_left true true true = refl
and_⊕_left true true false = refl
and_⊕_left true false c = sym (⊕_false c)
and_⊕_left false b c = refl

pub and_⊕_right : (a b c : Bool) → (a && (b ⊕ c)) ≡ ((a && b) ⊕ (a && c))
and_⊕_right true b c = refl
and_⊕_right false b c = refl
