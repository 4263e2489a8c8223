-- Two copies of a number make a pair, with either as the older, or are wrong: what holds of all three holds of how the number stands.
-- Assumes nothing.
use mathlib.Core.Bool.{Bool, true, false, cond}
use Rattle.chip.specs.Boot.{follows}
use Rattle.boot.specs.declared.Standing.{Standing}
use Rattle.boot.specs.declared.Standing.TheVariants.{Pair, Wrong}
use Rattle.boot.specs.Mapping.{Copy, of_two}

pub of_two_any : (P : Standing → Type 0) (a b : Copy) → P (Pair a.block b.block) → P (Pair b.block a.block) → P Wrong → P (of_two a b)
of_two_any P a b first second wrong = go (follows b.generation a.generation) (follows a.generation b.generation)
  where
    go : (p q : Bool) → P (cond p (Pair a.block b.block) (cond q (Pair b.block a.block) Wrong))
    go true q = first
    go false true = second
    go false false = wrong
