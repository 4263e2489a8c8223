-- Document 01, "Half-page code": what a difference of 22 bits tells, and the data put right by it.
use Rattle.std.specs.Prelude.{Bool, true, cond, ◌&&◌, List, ℕ, zero, suc, ◌+◌, ◌*◌, eqb, ltb}
use Rattle.bits.specs.Bits.{◌⊕◌, number}
use Rattle.bits.specs.Bytes.{flip_at}
use Rattle.chip.specs.declared.Half.{Half}
use Rattle.chip.specs.declared.Half.TheVariants.{First, Second}
use Rattle.ecc.specs.declared.Code.{Code}
use Rattle.ecc.specs.declared.Verdict.{Verdict}
use Rattle.ecc.specs.declared.Verdict.TheVariants.{Clean, CodeBit, DataBit, NotRepairable}
use Rattle.ecc.specs.Half.{code_of, difference}

-- of n bits: how many are set, and the last that is
unfoldable pub count_set : ℕ → (ℕ → Bool) → ℕ
count_set zero d = 0
count_set (suc n) d = count_set n d + cond (d n) 1 0

unfoldable pub last_set : ℕ → (ℕ → Bool) → ℕ
last_set zero d = 0
last_set (suc n) d = cond (d n) n (last_set n d)

-- exactly one in each of the first n pairs
unfoldable pub one_in_each : ℕ → (ℕ → Bool) → Bool
one_in_each zero d = true
one_in_each (suc n) d = (d (2 * n) ⊕ d (2 * n + 1)) && one_in_each n d

-- none set, clean; exactly one set, a code bit; exactly one in each of the 11 pairs, the odd members spell the address and the bit number
-- of the data bit to flip; anything else is not repairable
unfoldable pub verdict : (ℕ → Bool) → Verdict
verdict d =
    cond (eqb (count_set 22 d) 0) Clean
    (cond (eqb (count_set 22 d) 1) (CodeBit (last_set 22 d))
    (cond (one_in_each 11 d) (DataBit (number 8 (λ k. d (2 * k + 1))) (number 3 (λ k. d (2 * k + 17))))
    NotRepairable))

-- what a half and its stored code tell
abbrev pub found : List ℕ → Code → Verdict
found half stored = verdict (difference stored (code_of half))

-- where a half starts in a page's data
abbrev pub half_start : Half → ℕ
half_start First = 0
half_start Second = 256

-- the data put right by a verdict of one of its halves; a bit number of 8 or more, which no verdict has, changes nothing
abbrev pub mended : Half → Verdict → List ℕ → List ℕ
mended h Clean bytes = bytes
mended h (CodeBit j) bytes = bytes
mended h (DataBit a b) bytes = cond (ltb b 8) (flip_at bytes (half_start h + a) b) bytes
mended h NotRepairable bytes = bytes

-- how many bits a verdict puts right
abbrev pub repairs : Verdict → ℕ
repairs Clean = 0
repairs (CodeBit j) = 1
repairs (DataBit a b) = 1
repairs NotRepairable = 0
