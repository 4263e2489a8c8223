-- What is put into a third bitmap is the update rule, or the AND, of the two.
-- Assumes nothing.
use mathlib.Core.Bool.{Bool, true, false, cond, ◌&&◌}
use mathlib.Core.List.{List}
use mathlib.Core.Logic.{inl, inr}
use mathlib.Core.Path.{◌≡◌, refl, sym, ◌∙◌}
use Prim.Native.Nat.{ℕ}
use native.Mathlib.Omega.{arith}
use borrow.Author.Tests.{eqb-true, eqb-false}
use lib.Bits.{bit_and}
use lib.Dec.{eqb}
use lib.ListN.{length}
use Rattle.std.proofs.lemmas.Grind.{same_number_lists}
use Rattle.bits.proofs.Zipped.{zipped, length_zipped, get_d_zipped}
use Rattle.bbt.specs.Entries.{updated_byte}
use Rattle.bbt.proofs.Bitmaps.{updated_zipped, and_zipped}
use Rattle.bitmap.specs.Made.{PutInto, one_length, updated_into, anded_into}

module _ (a b out after : List ℕ) where
  put : (f : ℕ → ℕ → ℕ) → PutInto f a b out after → after ≡ cond (one_length a b out) (zipped f a b) out
  put f p = go (eqb (length a) (length out)) refl (eqb (length b) (length out)) refl
    where
      go : (s : Bool) → eqb (length a) (length out) ≡ s → (t : Bool) → eqb (length b) (length out) ≡ t → after ≡ cond (s && t) (zipped f a b) out
      go true ea true eb =
          let la = eqb-true _ _ ea in
          let lb = eqb-true _ _ eb in
          same_number_lists after (zipped f a b) (p.long ∙ sym (length_zipped f a b (la ∙ sym lb) ∙ la)) (λ k h. p.each la lb k (omega (arith, p.long)) ∙ sym (get_d_zipped f a b k (la ∙ sym lb) (omega (arith, p.long))))
      go true ea false eb = p.nothing (inr (eqb-false _ _ eb))
      go false ea t eb = p.nothing (inl (eqb-false _ _ ea))

  pub updated_put : PutInto updated_byte a b out after → after ≡ updated_into a b out
  unfolding updated_into
  updated_put p = rw updated_zipped (put updated_byte p)

  pub anded_put : PutInto bit_and a b out after → after ≡ anded_into a b out
  unfolding anded_into
  anded_put p = rw and_zipped (put bit_and p)
