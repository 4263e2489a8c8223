-- Read with d blocks fewer, a pair is found by where its copies lie: block p of the region is p − d there, which is the same chip block.
-- Assumes nothing.
use Rattle.std.specs.Prelude.{Ok}
use mathlib.Core.Bool.{Bool, true, false}
use mathlib.Core.List.{List}
use mathlib.Core.Path.{◌≡◌, refl, ap₂, sym, ◌∙◌}
use Prim.Native.Nat.{ℕ, ◌+◌, ◌*◌, ◌-◌, ◌%◌, ◌≤◌}
use native.Mathlib.Omega.{arith}
use borrow.Author.Tests.{leb-true, leb-false, le-leb, lt-leb}
use lib.Dec.{leb}
use lib.ListN.{length}
use Rattle.bbt.proofs.LeftPages.{Judged, judge}
use Rattle.bbt.proofs.Raw.{chip_valid}
use Rattle.bbt.proofs.Sizes.{last, below_not_found}
use Rattle.bbt.specs.Copies.{Table}
use Rattle.bbt.specs.Plans.{holds, reading}
use Rattle.bbt.specs.Regions.{Region, view}
use Rattle.bbt.specs.Sizes.{narrowed, by_place, found_above}
use Rattle.bbt.specs.Told.{chip_block}
use Rattle.chip.specs.Large.{chip_of, bitmap_bytes}
use Rattle.chip.specs.declared.LargeChip.{LargeChip}
use Rattle.chip.specs.declared.Refusal.TheVariants.{NoCopy, NotSettled}
use Rattle.claims.specs.Driver.{read_told, bitmap_told, table_told}
use Rattle.claims.specs.Found.{FindsTables, TableFound}
use Rattle.claims.specs.Sizes.{read_fewer, bitmap_fewer, by_blocks, NarrowedInC, BelowNotFoundInC}
use Rattle.claims.proofs.BridgeToC.{bridge_to_c}
use Rattle.claims.proofs.Found.{code_read, read_settled}

module _ (n size d : ℕ) (chip : LargeChip) (is : chip_of n size ≡ Ok chip) (fewer : chip_of n (size - d) ≡ Ok (narrowed chip d)) (r : Region chip)
    (room : List ℕ) (long : length room ≡ bitmap_bytes chip) where
  ok : Judged chip
  ok = judge n size chip is

  fewer_ok : Judged (narrowed chip d)
  fewer_ok = judge n (size - d) (narrowed chip d) fewer

  few : d ≤ chip.region
  few = let v = chip_valid n size chip is in let w = chip_valid n (size - d) (narrowed chip d) fewer in omega arith

  abbrev lower : Region (narrowed chip d)
  lower = last ok d few r

  found : FindsTables r
  found = (bridge_to_c n size chip is).1 r

  found_fewer : FindsTables lower
  found_fewer = (bridge_to_c n (size - d) (narrowed chip d) fewer).1 lower

  module _ (p m : ℕ) (t : Table) (e : reading chip (view r) ≡ holds p m t) where
    reads : reading (narrowed chip d) (view lower) ≡ found_above d p m t
    reads = (below_not_found n size chip is d (let v = chip_valid n size chip is in omega (arith, few)) r).pairs p m t e

    told : TableFound r p m t room
    told = found.tables p m t room long e

    -- the chip block of a copy that is found with both sizes
    same : (b : ℕ) → d ≤ b → (chip_block (narrowed chip d) (b - d)).0 ≡ (chip_block chip b).0
    same b h = omega (arith, few, ok.within)

    -- which chip blocks lie in the smaller region
    place : (b c : ℕ) → c ≡ (chip_block chip b).0 → leb (chip.blocks - (chip.region - d)) c ≡ leb d b
    place b c e = go (leb d b) refl
      where
        go : (t : Bool) → leb d b ≡ t → leb (chip.blocks - (chip.region - d)) c ≡ t
        go true x = le-leb (chip.blocks - (chip.region - d)) c (let h = leb-true d b x in omega (arith, few, ok.within))
        go false x = lt-leb (chip.blocks - (chip.region - d)) c (let h = leb-false d b x in omega (arith, few, ok.within))

    both : d ≤ p → d ≤ m → reading (narrowed chip d) (view lower) ≡ holds (p - d) (m - d) t → (read_fewer d r room ≡ read_told r room) × (bitmap_fewer d r room ≡ bitmap_told r room)
    both hp hm f = (
      code_read fewer_ok lower room long (p - d) (m - d) t f
          ∙ ap₂ (λ (x y : ℕ). 256 * t.version + 65536 * (x % 65536) + 4294967296 * (y % 65536)) (same p hp) (same m hm)
          ∙ sym (code_read ok r room long p m t e),
      (found_fewer.tables (p - d) (m - d) t room long f).bitmap ∙ sym told.bitmap,
    )

    by_place_lem : (read_fewer d r room ≡ by_place d p m (read_told r room) 10 7) × (bitmap_fewer d r room ≡ by_place d p m (bitmap_told r room) room room)
    unfolding found_above
    by_place_lem = go (leb d p) refl (leb d m) refl
      where
        go : (a : Bool) → leb d p ≡ a → (b : Bool) → leb d m ≡ b
            → (read_fewer d r room ≡ by_place d p m (read_told r room) 10 7) × (bitmap_fewer d r room ≡ by_place d p m (bitmap_told r room) room room)
        go true x true y = rw (x, y) (both (leb-true d p x) (leb-true d m y) (reads ∙ rw (x, y)))
        go true x false y = rw (x, y) (found_fewer.no_table NotSettled room long (reads ∙ rw (x, y)))
        go false x true y = rw (x, y) (found_fewer.no_table NotSettled room long (reads ∙ rw (x, y)))
        go false x false y = rw (x, y) (found_fewer.no_table NoCopy room long (reads ∙ rw (x, y)))

    by_blocks_lem : {A : Type 0} (x y z : A) → by_place d p m x y z ≡ by_blocks d r room x y z
    by_blocks_lem x y z = rw (place p _ told.primary, place m _ told.mirror)

    narrowed_in_c : NarrowedInC d r room
    narrowed_in_c = record { answer = by_place_lem.0 ∙ by_blocks_lem (read_told r room) 10 7; bitmap = by_place_lem.1 ∙ by_blocks_lem (bitmap_told r room) room room }

pub below_not_found_in_c : BelowNotFoundInC
below_not_found_in_c n size d chip is fewer r room long z =
    let s = read_settled (ok n size d chip is fewer r room long) r room long z in
    narrowed_in_c n size d chip is fewer r room long s.0 s.1 (table_told r room) s.2
