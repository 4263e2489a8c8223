-- Laws of words: the word of its own four bytes.
-- Assumes nothing.
use mathlib.Core.Path.{◌≡◌}
use Prim.Native.Nat.{ℕ, ◌/◌, ◌%◌, ◌<◌, ◌^◌}
use native.Mathlib.Nat.{div-add-mod'}
use native.Mathlib.Omega.{arith}
use Rattle.bits.specs.Bytes.{word, byte_of}

pub word_bytes : (w : ℕ) → w < 2 ^ 32 → word (byte_of 3 w) (byte_of 2 w) (byte_of 1 w) (byte_of 0 w) ≡ w
word_bytes w h =
    let p : w / 65536 ≡ w / 256 / 256 = omega arith in
    let q : w / 16777216 ≡ w / 65536 / 256 = omega arith in
    let top : w / 16777216 % 256 ≡ w / 16777216 = omega arith in
    omega (arith, div-add-mod' w 256, div-add-mod' (w / 256) 256, div-add-mod' (w / 65536) 256)
