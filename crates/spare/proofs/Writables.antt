-- What may be written fits its bytes: a tag is a byte, a path has 26 bits, a count 18.
-- Assumes nothing.
use mathlib.Core.Bool.{Bool, true, false, ◌&&◌, false≢true}
use mathlib.Core.Path.{◌≡◌, refl, ◌∙◌, sym}
use Prim.Native.Nat.{ℕ, ◌<◌, ◌≤◌, ◌^◌}
use borrow.Author.Tests.{leb-true, ltb-false, ltb-true}
use lib.Dec.{leb, ltb}
use Rattle.bits.proofs.Both.{both_left, both_right}
use Rattle.spare.specs.Tags.{tags, is_in}
use Rattle.spare.specs.Writing.{is_writable}
use Rattle.spare.proofs.Tagging.{in_byte}

pub tag_byte : (t : ℕ) → is_in tags t ≡ true → t < 256
tag_byte t e = go (ltb t 256) refl
  where
    go : (b : Bool) → ltb t 256 ≡ b → t < 256
    go true p = ltb-true t 256 p
    go false p = absurd (false≢true (sym (in_byte t (ltb-false t 256 p)) ∙ e))

pub record Fits (tag path count : ℕ) : Type 0 where
  pub byte : tag < 256
  pub short : path < 2 ^ 26
  pub few : count ≤ 262142

pub writable_fits : (t p c : ℕ) → is_writable t p c ≡ true → Fits t p c
unfolding is_writable
writable_fits t p c e =
    let numbers = both_right (is_in tags t) (ltb p (2 ^ 26) && leb c 262142) e in
    record {
      byte = tag_byte t (both_left (is_in tags t) (ltb p (2 ^ 26) && leb c 262142) e);
      short = ltb-true p (2 ^ 26) (both_left (ltb p (2 ^ 26)) (leb c 262142) numbers);
      few = leb-true c 262142 (both_right (ltb p (2 ^ 26)) (leb c 262142) numbers);
    }
