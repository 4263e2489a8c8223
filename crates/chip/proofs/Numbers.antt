-- What the tests of a large chip's numbers tell where they pass: N, and the region's size. Both fit their fields.
-- Assumes nothing.
use mathlib.Core.Bool.{true, ◌&&◌}
use mathlib.Core.Path.{◌≡◌, refl}
use Prim.Native.Nat.{ℕ, ◌*◌, ◌%◌, ◌≤◌}
use native.Mathlib.Omega.{arith}
use borrow.Author.Tests.{eqb-true, leb-true}
use lib.Dec.{eqb, leb}
use Rattle.std.specs.Prelude.{Ok}
use Rattle.bits.proofs.Both.{both_left, both_right}
use Rattle.chip.specs.Large.{is_blocks, is_region, is_chip, chip_of}
use Rattle.chip.specs.declared.LargeChip.{LargeChip}

pub record Blocks (n : ℕ) : Type 0 where
  pub fours : n % 4 ≡ 0
  pub least : 8 ≤ n
  pub most : n ≤ 32768

pub blocks_told : (n : ℕ) → is_blocks n ≡ true → Blocks n
unfolding is_blocks
blocks_told n e =
    let low = both_left (eqb (n % 4) 0 && leb 8 n) (leb n 32768) e in
    record {
      fours = eqb-true (n % 4) 0 (both_left (eqb (n % 4) 0) (leb 8 n) low);
      least = leb-true 8 n (both_right (eqb (n % 4) 0) (leb 8 n) low);
      most = leb-true n 32768 (both_right (eqb (n % 4) 0 && leb 8 n) (leb n 32768) e);
    }

pub record Sized (n size : ℕ) : Type 0 where
  pub smallest : 4 ≤ size
  pub largest : size ≤ 7
  pub half : 2 * size ≤ n

pub region_told : (n size : ℕ) → is_region n size ≡ true → Sized n size
unfolding is_region
region_told n size e =
    let range = both_left (leb 4 size && leb size 7) (leb (2 * size) n) e in
    record {
      smallest = leb-true 4 size (both_left (leb 4 size) (leb size 7) range);
      largest = leb-true size 7 (both_right (leb 4 size) (leb size 7) range);
      half = leb-true (2 * size) n (both_right (leb 4 size && leb size 7) (leb (2 * size) n) e);
    }

-- numbers that pass are their own low bits
pub made_chip : (n size : ℕ) (chip : LargeChip) → is_chip n size ≡ true → chip ≡ record { blocks = n % 65536; region = size % 256 } → chip_of n size ≡ Ok chip
unfolding chip_of
made_chip n size chip e made =
    let blocks : Blocks n = blocks_told n (both_left (is_blocks n) (is_region n size) e) in
    let sized : Sized n size = region_told n size (both_right (is_blocks n) (is_region n size) e) in
    let same_n : n % 65536 ≡ n = omega arith in
    let same_size : size % 256 ≡ size = omega arith in
    rw (e, made, same_n, same_size) refl
