-- Demand 2 for a half: one flipped bit among its 256 bytes or their 22 code bits still gives the data as written, and two are refused.
-- Beside it the linearity of the code.
use Rattle.std.specs.Prelude.{List, ◌≡◌, ℕ, ◌-◌, length}
use Rattle.std.specs.Int.Bits.{bit_xor}
use Rattle.bits.specs.Bytes.{xor_bytes}
use Rattle.chip.specs.declared.Half.TheVariants.{First}
use Rattle.ecc.specs.declared.Code.{Code}
use Rattle.ecc.specs.declared.Verdict.{Verdict}
use Rattle.ecc.specs.declared.Verdict.TheVariants.{Clean, NotRepairable}
use Rattle.ecc.specs.Half.{code_of}
use Rattle.ecc.specs.Flips.{Place, Real, named, Kept, written, flip}
use Rattle.ecc.specs.Verdicts.{found, mended}

-- what a kept half's bytes and code tell
abbrev pub told : Kept → Verdict
told k = found k.half k.code

-- the XOR of two codes with all 24 bits inverted
abbrev pub xor_inverted : Code → Code → Code
xor_inverted c d =
    record {
      one = 255 - bit_xor c.one d.one;
      two = 255 - bit_xor c.two d.two;
      three = 255 - bit_xor c.three d.three;
    }

pub record Protects (half : List ℕ) : Type 0 where
  -- as written, the half is clean
  pub clean : told (written half) ≡ Clean
  -- one flipped bit is named by its place
  pub one : (p : Place) → Real p → told (flip p (written half)) ≡ named p
  -- and put right by it
  pub right : (p : Place) → Real p → mended First (named p) (flip p (written half)).half ≡ half
  -- any two are not repairable
  pub two : (p q : Place) → Real p → Real q → (p ≡ q → ⊥) → told (flip p (flip q (written half))) ≡ NotRepairable

pub record Linear : Type 0 where
  -- the stored code of the XOR of two halves is the XOR of their stored codes, all 24 bits then inverted
  pub xor : (x y : List ℕ) → length x ≡ length y → code_of (xor_bytes x y) ≡ xor_inverted (code_of x) (code_of y)
