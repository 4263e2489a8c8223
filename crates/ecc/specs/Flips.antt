-- Bits that flip in a half and in its stored code.
use Rattle.std.specs.Prelude.{cond, List, ℕ, ◌-◌, ◌^◌, ◌<◌, ltb}
use Rattle.std.specs.Int.Bits.{bit_xor}
use Rattle.bits.specs.Bytes.{flip_at}
use Rattle.ecc.specs.declared.Code.{Code}
use Rattle.ecc.specs.declared.Verdict.{Verdict}
use Rattle.ecc.specs.declared.Verdict.TheVariants.{CodeBit, DataBit}
use Rattle.ecc.specs.Half.{code_of}

-- where a bit of a half can flip: bit b of data byte a, or code bit j
pub data Place : Type 0 where
  data_at : ℕ → ℕ → Place
  code_at : ℕ → Place

-- among its 256 bytes or their 22 code bits
abbrev pub Real : Place → Type 0
Real (data_at a b) = (a < 256) × (b < 8)
Real (code_at j) = j < 22

-- the verdict that names a place
abbrev pub named : Place → Verdict
named (data_at a b) = DataBit a b
named (code_at j) = CodeBit j

-- three stored bytes with code bit j flipped
unfoldable pub flip_code : ℕ → Code → Code
flip_code j c =
    cond (ltb j 8) (record { one = bit_xor c.one (2 ^ j); two = c.two; three = c.three })
    (cond (ltb j 16) (record { one = c.one; two = bit_xor c.two (2 ^ (j - 8)); three = c.three })
    (record { one = c.one; two = c.two; three = bit_xor c.three (2 ^ (j - 14)) }))

-- a half with the code that is stored with it
pub record Kept : Type 0 where
  pub half : List ℕ
  pub code : Code

abbrev pub written : List ℕ → Kept
written half = record { half = half; code = code_of half }

-- with the bit at a place flipped
abbrev pub flip : Place → Kept → Kept
flip (data_at a b) k = record { half = flip_at k.half a b; code = k.code }
flip (code_at j) k = record { half = k.half; code = flip_code j k.code }
