-- Laws of `&&` and `||` as equations: a test of two passes where both pass, and one of either where the second does.
-- Assumes nothing.
use mathlib.Core.Bool.{Bool, true, false, ◌&&◌, ◌||◌, false≢true}
use mathlib.Core.Path.{◌≡◌, refl}

pub both_left : (a b : Bool) → (a && b) ≡ true → a ≡ true
both_left true b e = refl
both_left false b e = absurd (false≢true e)

pub both_right : (a b : Bool) → (a && b) ≡ true → b ≡ true
both_right true b e = e
both_right false b e = absurd (false≢true e)

pub both_intro : (a b : Bool) → a ≡ true → b ≡ true → (a && b) ≡ true
both_intro true b e f = f
both_intro false b e f = e

pub or_true : (a : Bool) → (a || true) ≡ true
or_true true = refl
or_true false = refl
