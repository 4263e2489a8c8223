-- A list that is written entry by entry starts with the bytes of the entries written so far, and then holds what it held.
-- Assumes nothing.
use mathlib.Core.List.{List, [], ◌∷◌, ◌++◌, append_assoc}
use mathlib.Core.Path.{◌≡◌, refl, ap}
use Prim.Native.Nat.{ℕ, ◌+◌, ◌-◌, ◌*◌, ◌/◌, ◌%◌, ◌≤◌}
use native.Mathlib.Numerals.{add-one}
use native.Mathlib.Omega.{arith}
use borrow.Rule.Slice.PartMut.{put_mid}
use lib.ListN.{length, drop, length-append}
use lib.Seq.{take_at, drop_at}
use Rattle.std.proofs.lemmas.List.{drop-drop}
use Rattle.chip.specs.declared.ChipBlock.{ChipBlock}
use Rattle.boot.specs.declared.Listing.{Listing}
use Rattle.boot.specs.declared.Listing.TheVariants.{ToMap, ToErase}
use Rattle.boot.specs.declared.Standing.{Standing}
use Rattle.boot.specs.declared.Standing.TheVariants.{Missing, One, Pair, Wrong}
use Rattle.boot.specs.Answers.{block_bytes, starting_with}
use Rattle.boot.specs.Mapping.{entry_of, listed}

-- a number brings at most one block
pub entry_of_one : (l : Listing) (s : Standing) → length (entry_of l s) ≤ 1
entry_of_one ToMap Missing = omega arith
entry_of_one ToMap (One b g) = omega arith
entry_of_one ToMap (Pair older newer) = omega arith
entry_of_one ToMap Wrong = omega arith
entry_of_one ToErase Missing = omega arith
entry_of_one ToErase (One b g) = omega arith
entry_of_one ToErase (Pair older newer) = omega arith
entry_of_one ToErase Wrong = omega arith

-- a number more
pub listed_next : (l : Listing) (f : ℕ → Standing) (m : ℕ) → listed l f (m + 1) ≡ listed l f m ++ entry_of l (f m)
unfolding listed
listed_next l f m = rw add-one refl

-- two bytes a block
pub length_bytes : (bs : List ChipBlock) → length (block_bytes bs) ≡ 2 * length bs
unfolding block_bytes
length_bytes [] = refl
length_bytes (b ∷ bs) = omega (arith, length_bytes bs)

bytes_append : (bs cs : List ChipBlock) → block_bytes (bs ++ cs) ≡ block_bytes bs ++ block_bytes cs
unfolding block_bytes
bytes_append [] cs = refl
bytes_append (b ∷ bs) cs = ap (λ (l : List ℕ). b.0 / 256 % 256 ∷ b.0 % 256 ∷ l) (bytes_append bs cs)

-- and an entry more
pub starting_next : (bs : List ChipBlock) (b : ChipBlock) (l : List ℕ)
    → starting_with (block_bytes (bs ++ (b ∷ []))) l
    ≡ put_mid (2 * length bs) (2 * length bs + 2 - 2 * length bs) (starting_with (block_bytes bs) l) (b.0 % 65536 / 256 % 256 ∷ b.0 % 65536 % 256 ∷ [])
unfolding block_bytes
starting_next bs b l =
    let n : ℕ = 2 * length bs in
    let p : List ℕ = block_bytes bs in
    let long : length p ≡ n = length_bytes bs in
    let width : n + 2 - n ≡ 2 = omega arith in
    let high : b.0 % 65536 / 256 % 256 ≡ b.0 / 256 % 256 = omega arith in
    let low : b.0 % 65536 % 256 ≡ b.0 % 256 = omega arith in
    let two : List ℕ = b.0 / 256 % 256 ∷ b.0 % 256 ∷ [] in
    rw (bytes_append bs (b ∷ []), length-append p two, long, width, high, low, take_at p (drop n l) n long, drop_at p (drop n l) n long, drop-drop 2 n l) (append_assoc p two (drop (n + 2) l))
