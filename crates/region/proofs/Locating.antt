-- What code tells of the blocks below b is what `find` finds among them: one more makes of none that block, and of one several, and these stay.
-- Assumes nothing.
use mathlib.Core.Bool.{Bool}
use mathlib.Core.Logic.{inl, inr}
use mathlib.Core.List.{List}
use mathlib.Core.Path.{◌≡◌, ap, ap₂, ◌∙◌}
use Prim.Native.Nat.{ℕ, zero, suc, ◌+◌, ◌<◌}
use native.Mathlib.Omega.{arith}
use Rattle.std.specs.Prelude.{Option, Some, Ok, Err}
use Rattle.bbt.specs.Copies.{Found, only, also, find, good, Table}
use Rattle.bbt.specs.Pages.{View, seen}
use Rattle.bbt.specs.Pairs.{compared, case_of, copies, pair_case}
use Rattle.bbt.specs.Told.{region_block}
use Rattle.bbt.specs.declared.Kind.TheVariants.{Primary, Mirror}
use Rattle.bbt.proofs.Searches.{find_next, below_suc, Unique, only_find}
use Rattle.chip.specs.Large.{pages_of}
use Rattle.chip.specs.declared.LargeChip.{LargeChip}
use Rattle.chip.specs.declared.Refusal.{Refusal}
use Rattle.chip.specs.declared.RegionBlock.{RegionBlock}
use Rattle.region.specs.Cases.{located_by, also_located, both_located, copies_in}
use Rattle.region.specs.Stored.{stored_table}
use Rattle.region.proofs.Stored.{table_raw}

also_next : (t : Bool) (b : ℕ) (f : Found) (x : Option RegionBlock) → located_by f ≡ Ok x → located_by (also t b f) ≡ also_located t (region_block b) x
unfolding also
also_next t b f x e = grind arith

pub located_next : (b : ℕ) (f : ℕ → Bool) (x : Option RegionBlock) → located_by (find b f) ≡ Ok x
    → located_by (find (b + 1) f) ≡ also_located (f b) (region_block b) x
located_next b f x e = ap located_by (find_next b f) ∙ also_next (f b) b (find b f) x e

also_err : (t : Bool) (b : ℕ) (x : Found) (r : Refusal) → located_by x ≡ Err r → located_by (also t b x) ≡ Err r
unfolding also
also_err t b x r e = grind arith

-- a refusal stays
pub located_err : (n : ℕ) (f : ℕ → Bool) (b : ℕ) (r : Refusal) → b < n → located_by (find (b + 1) f) ≡ Err r → located_by (find n f) ≡ Err r
unfolding find
located_err zero f b r h e = absurd (omega arith)
located_err (suc n) f b r h e =
    elim (below_suc h) [
      | inl q ↦ let last : suc n ≡ b + 1 = omega arith in ap (λ (k : ℕ). located_by (find k f)) last ∙ e
      | inr q ↦ also_err (f n) n (find n f) r (located_err n f b r q e)
    ]

-- the mirror's is the answer, since the primary's is the same
mirror_err : (x y : Found) (r : Refusal) → located_by y ≡ Err r → both_located (located_by x) (located_by y) ≡ Err r
mirror_err x y r e = grind arith

pub mirror_refused : (chip : LargeChip) (R : View) (b : ℕ) (x : Option RegionBlock) (r : Refusal) → b < chip.region
    → located_by (find b (good (pages_of chip) R Mirror)) ≡ Ok x → also_located (good (pages_of chip) R Mirror b) (region_block b) x ≡ Err r
    → copies_in chip R ≡ Err r
mirror_refused chip R b x r h e f =
    mirror_err (copies chip R Primary) (copies chip R Mirror) r (located_err chip.region _ b r h (located_next b _ x e ∙ f))

-- the block that was located is the only one that passes
located_only : (n : ℕ) (f : ℕ → Bool) (b : RegionBlock) → located_by (find n f) ≡ Ok (Some b) → find n f ≡ only b.0
located_only n f b e = grind arith

pub located_unique : (n : ℕ) (f : ℕ → Bool) (b : RegionBlock) → located_by (find n f) ≡ Ok (Some b) → Unique n f b.0
located_unique n f b e = only_find n f b.0 (located_only n f b e)

-- both were located: the case compares what their bytes say
pub both_compared : (chip : LargeChip) (image status : List ℕ) (p m : RegionBlock) → 0 < pages_of chip
    → located_by (copies chip (seen chip image status) Primary) ≡ Ok (Some p) → located_by (copies chip (seen chip image status) Mirror) ≡ Ok (Some m)
    → pair_case chip (seen chip image status) ≡ compared (stored_table chip image p.0) (stored_table chip image m.0) p.0 m.0
unfolding pair_case case_of
both_compared chip image status p m pos e f =
    let R : View = seen chip image status in
    let P : ℕ = pages_of chip in
    ap₂ (case_of P R) (located_only chip.region (good P R Primary) p e) (located_only chip.region (good P R Mirror) m f)
    ∙ ap₂ (λ (x y : Table). compared x y p.0 m.0)
    (table_raw chip image status p.0 Primary pos (located_unique chip.region (good P R Primary) p e).passes)
    (table_raw chip image status m.0 Mirror pos (located_unique chip.region (good P R Mirror) m f).passes)
