-- A list that is filled part by part: behind what was filled before comes the next part, and then the rest as it was.
-- Assumes nothing.
use mathlib.Core.List.{List, ◌++◌, append_assoc}
use mathlib.Core.Path.{◌≡◌, sym, ap, ap₂, ◌∙◌}
use Prim.Native.Nat.{ℕ, ◌≤◌}
use borrow.Rule.Slice.PartMut.{put_mid, mid_of}
use lib.ListN.{length, take, drop}
use lib.Seq.{length-take-le, take_at, drop_at}
use Rattle.bits.specs.Bytes.{copied}
use Rattle.bits.proofs.Filling.{copied_same}

pub fill_part : (x y rest : List ℕ) (a n : ℕ) → length x ≡ a → length y ≡ n → n ≤ length rest
    → put_mid a n (x ++ rest) (copied y (mid_of a n (x ++ rest))) ≡ (x ++ y) ++ drop n rest
fill_part x y rest a n lx ly h =
    let behind : drop a (x ++ rest) ≡ rest = drop_at x rest a lx in
    let whole : copied y (mid_of a n (x ++ rest)) ≡ y = copied_same y (mid_of a n (x ++ rest)) (ap (λ (l : List ℕ). length (take n l)) behind ∙ length-take-le n rest h ∙ sym ly) in
    ap (put_mid a n (x ++ rest)) whole
    ∙ ap₂ (λ (p q : List ℕ). p ++ (y ++ drop n q)) (take_at x rest a lx) behind
    ∙ sym (append_assoc x y (drop n rest))
