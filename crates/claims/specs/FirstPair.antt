-- A chip's first pair of tables through the C entries: the answers and bytes that a driver goes by in the header's recipe are those that `FirstPair`
-- (crate `bringup`) speaks of.
use Rattle.std.specs.Prelude.{List, ◌≡◌, ℕ, ◌<◌, length, Ok}
use Rattle.bbt.specs.Copies.{Table}
use Rattle.bbt.specs.Histories.{snapshot, answer}
use Rattle.bbt.specs.Images.{page_image}
use Rattle.bbt.specs.Plans.{refuse, for_recovery}
use Rattle.bbt.specs.Regions.{Region}
use Rattle.bbt.specs.Starts.{AnyTable}
use Rattle.bbt.specs.declared.Kind.{Kind}
use Rattle.bbt.specs.declared.Kind.TheVariants.{Primary}
use Rattle.bringup.specs.FirstPair.{NoTables, OneCopy}
use Rattle.bringup.specs.TablePages.{table_page_after}
use Rattle.chip.specs.Large.{chip_of, bitmap_bytes, pages_of}
use Rattle.chip.specs.declared.LargeChip.{LargeChip}
use Rattle.chip.specs.declared.Refusal.TheVariants.{NoCopy}
use Rattle.reamsickle.specs.LargeBoundary.{table_page_code}
use Rattle.claims.specs.Driver.{refusal_in, plan_told, read_told}

pub record FirstTablesInC (chip : LargeChip) : Type 0 where
  -- ream_table_page gives every page of the first primary, in any 2,112 bytes
  pub pages : (t : Table) → AnyTable chip t → (p : ℕ) → p < pages_of chip → (page : List ℕ) → length page ≡ 2112
      → (table_page_code chip.blocks chip.region t.bitmap 1 t.version p page ≡ 0)
      × (table_page_after chip.blocks chip.region t.bitmap 1 t.version p page ≡ page_image Primary t p)
  -- the recipe begins exactly where ream_recovery_plan refuses with 7
  pub begins : (r : Region chip) (steps : List ℕ) → length steps ≡ 64 → refusal_in (plan_told for_recovery (snapshot r) steps) ≡ 7
      → answer for_recovery (snapshot r) ≡ refuse NoCopy
  pub seven : (r : Region chip) (steps : List ℕ) → length steps ≡ 64 → answer for_recovery (snapshot r) ≡ refuse NoCopy
      → refusal_in (plan_told for_recovery (snapshot r) steps) ≡ 7
  -- ream_table_read refuses with 7 while no copy is found, and with 10 once one is alone
  pub no_table : (r : Region chip) (room : List ℕ) → length room ≡ bitmap_bytes chip → NoTables r → read_told r room ≡ 7
  pub one_copy : (r : Region chip) (k : Kind) (b : ℕ) (t : Table) (room : List ℕ) → length room ≡ bitmap_bytes chip → OneCopy r k b t → read_told r room ≡ 10

abbrev pub FirstPairInC : Type 0
FirstPairInC = (n size : ℕ) (chip : LargeChip) → chip_of n size ≡ Ok chip → FirstTablesInC chip
