-- The update rule keeps every entry that is not 11, and every length; AND keeps every length.
-- Assumes nothing.
use mathlib.Core.Bool.{Bool, true, false, cond}
use mathlib.Core.List.{List}
use mathlib.Core.Logic.{◌≢◌}
use mathlib.Core.Path.{◌≡◌, sym, ap, ◌∙◌}
use Prim.Native.Nat.{ℕ, zero, suc, ◌/◌, ◌%◌, ◌^◌, ◌<◌}
use native.Mathlib.Omega.{arith}
use borrow.Author.Tests.{ne_eqb}
use lib.Bits.{bit_and}
use lib.Dec.{eqb}
use lib.ListN.{length, get_or}
use Rattle.bits.proofs.Zipped.{length_zipped, get_d_zipped}
use Rattle.chip.specs.Large.{bitmap_bytes}
use Rattle.chip.specs.declared.LargeChip.{LargeChip}
use Rattle.bbt.specs.Copies.{Table}
use Rattle.bbt.specs.Entries.{updated_entry, updated_byte, updated_bytes, and_bytes}
use Rattle.bbt.specs.PowerCuts.{NotGoodKept}
use Rattle.bbt.proofs.Bitmaps.{updated_zipped, and_zipped}

-- ---- lengths
pub length_updated : (o w : List ℕ) → length o ≡ length w → length (updated_bytes o w) ≡ length o
length_updated o w e = ap length (updated_zipped o w) ∙ length_zipped updated_byte o w e

pub length_anded : (x y : List ℕ) → length x ≡ length y → length (and_bytes x y) ≡ length x
length_anded x y e = ap length (and_zipped x y) ∙ length_zipped bit_and x y e

-- ---- an entry, a byte, a table
entry_kept : (a b : ℕ) → a ≢ 3 → updated_entry a b ≡ a
unfolding updated_entry
entry_kept a b h = rw (ne_eqb a 3 h)

entry_below : (a b : ℕ) → a < 4 → b < 4 → updated_entry a b < 4
unfolding updated_entry
entry_below a b ha hb = go (eqb a 3)
  where
    go : (x : Bool) → cond x b a < 4
    go true = hb
    go false = ha

-- a byte is a byte
pub updated_below : (o w : ℕ) → updated_byte o w < 256
unfolding updated_byte
updated_below o w =
    omega (
      arith,
      entry_below (o % 4) (w % 4) (omega arith) (omega arith),
      entry_below (o / 4 % 4) (w / 4 % 4) (omega arith) (omega arith),
      entry_below (o / 16 % 4) (w / 16 % 4) (omega arith) (omega arith),
      entry_below (o / 64 % 4) (w / 64 % 4) (omega arith) (omega arith),
    )

-- entry j of a byte
byte_kept : (j o w : ℕ) → j < 4 → o / 4 ^ j % 4 ≢ 3 → updated_byte o w / 4 ^ j % 4 ≡ o / 4 ^ j % 4
unfolding updated_byte
byte_kept j o w = at j
  where
    k0 : updated_entry (o % 4) (w % 4) < 4
    k0 = entry_below (o % 4) (w % 4) (omega arith) (omega arith)

    k1 : updated_entry (o / 4 % 4) (w / 4 % 4) < 4
    k1 = entry_below (o / 4 % 4) (w / 4 % 4) (omega arith) (omega arith)

    k2 : updated_entry (o / 16 % 4) (w / 16 % 4) < 4
    k2 = entry_below (o / 16 % 4) (w / 16 % 4) (omega arith) (omega arith)

    k3 : updated_entry (o / 64 % 4) (w / 64 % 4) < 4
    k3 = entry_below (o / 64 % 4) (w / 64 % 4) (omega arith) (omega arith)

    at : (j : ℕ) → j < 4 → o / 4 ^ j % 4 ≢ 3 → updated_byte o w / 4 ^ j % 4 ≡ o / 4 ^ j % 4
    at zero l h = omega (arith, k0, k1, k2, k3, entry_kept (o % 4) (w % 4) (λ e. h (omega arith)))
    at (suc zero) l h = omega (arith, k0, k1, k2, k3, entry_kept (o / 4 % 4) (w / 4 % 4) h)
    at (suc (suc zero)) l h = omega (arith, k0, k1, k2, k3, entry_kept (o / 16 % 4) (w / 16 % 4) h)
    at (suc (suc (suc zero))) l h = omega (arith, k0, k1, k2, k3, entry_kept (o / 64 % 4) (w / 64 % 4) h)
    at (suc (suc (suc (suc j)))) l h = absurd (omega arith)

pub update_keeps : (chip : LargeChip) (o n : Table) (w : List ℕ) → chip.blocks % 4 ≡ 0 → length o.bitmap ≡ bitmap_bytes chip
    → length w ≡ bitmap_bytes chip → n.bitmap ≡ updated_bytes o.bitmap w → NotGoodKept chip o n
update_keeps chip o n w fours lo lw e b hb h =
    let at : get_or (updated_bytes o.bitmap w) (b / 4) 0 ≡ updated_byte (get_or o.bitmap (b / 4) 0) (get_or w (b / 4) 0) =
    ap (λ (l : List ℕ). get_or l (b / 4) 0) (updated_zipped o.bitmap w)
    ∙ get_d_zipped updated_byte o.bitmap w (b / 4) (lo ∙ sym lw) (omega arith) in
    rw (e, at) (byte_kept (b % 4) (get_or o.bitmap (b / 4) 0) (get_or w (b / 4) 0) (omega arith) h)
