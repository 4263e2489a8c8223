-- A block counts as what was written to its first and last page: both spares read back as they were written, and a path as its boot number and
-- generation.
-- Assumes nothing.
use mathlib.Core.List.{List, ◌++◌, append_assoc}
use mathlib.Core.Path.{◌≡◌, refl, ap}
use Prim.Native.Nat.{ℕ, ◌+◌, ◌*◌, ◌<◌, ◌≤◌, ◌^◌}
use native.Mathlib.Omega.{arith}
use lib.ListN.{length, length-append}
use lib.Seq.{take_at, drop_at}
use Rattle.std.proofs.lemmas.Bool.Decides.{nat_tests}
use Rattle.std.specs.Prelude.{Some}
use Rattle.chip.specs.Boot.{boot_of}
use Rattle.spare.proofs.ReadBack.{spare_reads_back}
use Rattle.spare.specs.Claims.{Writable}
use Rattle.spare.specs.Reading.{spare_answer}
use Rattle.spare.specs.Writing.{spare_of}
use Rattle.boot.specs.Counting.{path_by, agreed, first_spare, last_spare, block_at}

-- a spare as written tells its path
spare_path : (bytes : List ℕ) (p c : ℕ) → Writable bytes 0x01 p c → path_by (spare_answer (spare_of bytes 0x01 p c)) ≡ Some p
spare_path bytes p c w = ap path_by (spare_reads_back bytes 0x01 p c w).alone

-- both paths agree
path_boot : (k g : ℕ) → k < 2 ^ 24 → g ≤ 3 → agreed (Some (4 * k + g)) (Some (4 * k + g)) ≡ Some (record { 0 = k }, record { 0 = g })
unfolding boot_of
path_boot k g hk hg = grind (arith, nat_tests)

spare_long : (bytes : List ℕ) (t p c : ℕ) → length (spare_of bytes t p c) ≡ 16
unfolding spare_of
spare_long bytes t p c = refl

-- where both spares stand
module _ (before x y after : List ℕ) (b : ℕ) (at : length before ≡ 32 * b) (hx : length x ≡ 16) (hy : length y ≡ 16) where
  first_there : first_spare (before ++ (x ++ (y ++ after))) b ≡ x
  first_there = rw (drop_at before (x ++ (y ++ after)) (32 * b) at) (take_at x (y ++ after) 16 hx)

  last_there : last_spare (before ++ (x ++ (y ++ after))) b ≡ y
  last_there =
      rw (← append_assoc before x (y ++ after), drop_at (before ++ x) (y ++ after) (32 * b + 16) (omega (arith, length-append before x))) (take_at y after 16 hy)

pub written_counts : (first last : List ℕ) (k g c d : ℕ) → k < 2 ^ 24 → g ≤ 3 → Writable first 0x01 (4 * k + g) c → Writable last 0x01 (4 * k + g) d
    → (before after : List ℕ) (b : ℕ) → length before ≡ 32 * b
    → block_at (before ++ (spare_of first 0x01 (4 * k + g) c ++ (spare_of last 0x01 (4 * k + g) d ++ after))) b ≡ Some (record { 0 = k }, record { 0 = g })
unfolding block_at
written_counts first last k g c d hk hg v w before after b at =
    let p : ℕ = 4 * k + g in
    let x : List ℕ = spare_of first 0x01 p c in
    let y : List ℕ = spare_of last 0x01 p d in
    let hx : length x ≡ 16 = spare_long first 0x01 p c in
    let hy : length y ≡ 16 = spare_long last 0x01 p d in
    rw (first_there before x y after b at hx hy, last_there before x y after b at hx hy, spare_path first p c v, spare_path last p d w) (path_boot k g hk hg)
