-- `put_into` meets its contract: after i turns the first i bytes of `out` are what f makes.
-- Assumes nothing.
use mathlib.Core.Path.{◌≡◌}
use Prim.Native.Nat.{ℕ, ◌<◌}
use lib.ListN.{length, get_or}
use Rattle.bitmap.proofs.put_into.Given as goal

abbrev pub invariant-loop-i : goal.invariant-loop-i
invariant-loop-i g l =
    (length l.out ≡ length l.initial.out) × ((k : ℕ) → k < l.i → get_or l.out k 0 ≡ g.f (get_or l.a k 0) (get_or l.b k 0))
