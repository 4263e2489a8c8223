-- Laws of a plan's steps in lent bytes: each is put behind those before it, the zero step first.
-- Assumes nothing.
use Rattle.std.specs.Prelude.{Option, Some, None, IsSome}
use mathlib.Core.List.{List, [], ◌∷◌, ◌++◌, append_assoc, append-nil}
use mathlib.Core.Path.{◌≡◌, refl, sym, ap, ap₂, ◌∙◌, subst}
use Prim.Native.Nat.{ℕ, zero, suc, ◌+◌, ◌*◌, ◌-◌, ◌<◌, ◌≤◌}
use native.Mathlib.Numerals.{add-one}
use native.Mathlib.Omega.{arith}
use borrow.Author.Rules.{rules}
use borrow.Author.Tests.{le-leb}
use borrow.Rule.Slice.PartMut.{put_mid, mid_of, mid_len}
use lib.ListN.{length, take, drop, length-append, length-drop}
use lib.Seq.{length-take-le, take_all, take_at, drop_at, drop-drop, drop-length}
use Rattle.bbt.specs.Told.{chip_block, steps_by, retired_first, told_steps, nth_step}
use Rattle.bbt.specs.declared.Plan.{Plan}
use Rattle.bbt.specs.declared.Step.{Step}
use Rattle.bbt.specs.declared.Step.TheVariants.{Erase, Write, Zero}
use Rattle.bits.proofs.Filling.{copied_same}
use Rattle.bits.specs.Bytes.{copied}
use Rattle.chip.specs.declared.LargeChip.{LargeChip}
use Rattle.chip.specs.declared.RegionBlock.{RegionBlock}
use Rattle.packing.specs.Packing.{step_bytes, plan_bytes, steps_put, steps_into}

four_long : (s : Step) → length (step_bytes s) ≡ 4
four_long (Erase b) = refl
four_long (Write b p k) = refl
four_long (Zero b) = refl

plan_long : (es : List Step) → length (plan_bytes es) ≡ 4 * length es
unfolding plan_bytes
plan_long [] = refl
plan_long (e ∷ es) = length-append (step_bytes e) (plan_bytes es) ∙ omega (arith, four_long e, plan_long es)

-- the steps up to and with step k
plan_next : (es : List Step) (k : ℕ) (s : Step) → nth_step es k ≡ Some s → plan_bytes (take (suc k) es) ≡ plan_bytes (take k es) ++ step_bytes s
unfolding plan_bytes nth_step
plan_next [] k s h = absurd (cc)
plan_next (e ∷ es) zero s h = let same : e ≡ s = cc in append-nil (step_bytes e) ∙ ap step_bytes same
plan_next (e ∷ es) (suc k) s h = ap (λ (r : List ℕ). step_bytes e ++ r) (plan_next es k s h) ∙ sym (append_assoc (step_bytes e) (plan_bytes (take k es)) (step_bytes s))

-- each number below their count has a step
pub nth_some : (es : List Step) (k : ℕ) → k < length es → IsSome (nth_step es k)
unfolding nth_step
nth_some [] k h = absurd (omega arith)
nth_some (e ∷ es) zero h = search rules
nth_some (e ∷ es) (suc k) h = nth_some es k (omega arith)

module _ (es : List Step) (room : List ℕ) where
  pub put_none : steps_put (take 0 es) room ≡ room
  unfolding steps_put plan_bytes
  put_none = refl

  -- step k put behind those before it
  pub put_next : (k : ℕ) (s : Step) (l : List ℕ) → nth_step es k ≡ Some s → k < length es → 4 * k + 4 ≤ length l → l ≡ steps_put (take k es) room
      → put_mid (4 * k) (4 * k + 4 - 4 * k) l (copied (step_bytes s) (mid_of (4 * k) (4 * k + 4 - 4 * k) l)) ≡ steps_put (take (k + 1) es) room
  unfolding steps_put
  put_next k s l is h inside e =
      let x = step_bytes s in
      let before = plan_bytes (take k es) in
      let after = drop (4 * length (take k es)) room in
      let n = 4 * k + 4 - 4 * k in
      let long : length (take k es) ≡ k = length-take-le k es (omega arith) in
      let next : length (take (suc k) es) ≡ suc k = length-take-le (suc k) es (omega arith) in
      let size : length before ≡ 4 * k = omega (arith, plan_long (take k es), long) in
      let whole : copied x (mid_of (4 * k) n l) ≡ x = copied_same x (mid_of (4 * k) n l) (mid_len (4 * k) (4 * k + 4) l inside ∙ omega (arith, four_long s)) in
      let first : take (4 * k) l ≡ before = ap (take (4 * k)) e ∙ take_at before after (4 * k) size in
      let further : 4 * length (take k es) + n ≡ 4 * length (take (suc k) es) = omega (arith, long, next) in
      let rest : drop n (drop (4 * k) l) ≡ drop (4 * length (take (suc k) es)) room =
      ap (λ (r : List ℕ). drop n (drop (4 * k) r)) e
      ∙ ap (drop n) (drop_at before after (4 * k) size)
      ∙ drop-drop n (4 * length (take k es)) room
      ∙ ap (λ (m : ℕ). drop m room) further
      in
      ap (put_mid (4 * k) n l) whole
      ∙ ap₂ (λ (a b : List ℕ). a ++ (x ++ b)) first rest
      ∙ sym (append_assoc before x (drop (4 * length (take (suc k) es)) room))
      ∙ ap (λ (a : List ℕ). a ++ drop (4 * length (take (suc k) es)) room) (sym (plan_next es k s is))
      ∙ ap (λ (m : ℕ). plan_bytes (take m es) ++ drop (4 * length (take m es)) room) (sym (add-one k))

-- ---- the zero step, and the others behind it
first_apart : (chip : LargeChip) (r : Option RegionBlock) (es : List Step) → retired_first chip r es ≡ retired_first chip r [] ++ es
unfolding retired_first
first_apart chip None es = refl
first_apart chip (Some b) es = refl

count_apart : (q : Plan) → length (told_steps q) ≡ length (retired_first q.chip q.retired []) + length (steps_by q.chip q.shape)
count_apart q = ap length (first_apart q.chip q.retired (steps_by q.chip q.shape)) ∙ length-append (retired_first q.chip q.retired []) _

plan_append : (xs ys : List Step) → plan_bytes (xs ++ ys) ≡ plan_bytes xs ++ plan_bytes ys
unfolding plan_bytes
plan_append [] ys = refl
plan_append (x ∷ xs) ys = ap (λ (l : List ℕ). step_bytes x ++ l) (plan_append xs ys) ∙ sym (append_assoc (step_bytes x) (plan_bytes xs) (plan_bytes ys))

pub no_zero : (chip : LargeChip) {r : Option RegionBlock} (room : List ℕ) → r ≡ None
    → (0 ≡ 4 * length (retired_first chip r [])) × (room ≡ steps_put (retired_first chip r []) room)
unfolding steps_put plan_bytes retired_first
no_zero chip room e = rw e (refl, refl)

pub zero_put : (chip : LargeChip) {r : Option RegionBlock} (b : RegionBlock) (room x : List ℕ) → 4 ≤ length room → r ≡ Some b
    → x ≡ copied (step_bytes (Zero (chip_block chip b.0))) (mid_of 0 4 room)
    → (4 ≡ 4 * length (retired_first chip r [])) × (put_mid 0 4 room x ≡ steps_put (retired_first chip r []) room)
unfolding retired_first nth_step
zero_put chip b room x h e ex =
    let es : List Step = Zero (chip_block chip b.0) ∷ [] in
    rw e (refl, ap (put_mid 0 4 room) ex ∙ put_next es room 0 (Zero (chip_block chip b.0)) room refl (omega arith) h (sym (put_none es room)))

-- there is room for it, and behind it
pub zero_room : (chip : LargeChip) {r : Option RegionBlock} (b : RegionBlock) (n : ℕ) → r ≡ Some b → 4 * length (retired_first chip r []) ≤ n → 4 ≤ n
unfolding retired_first
zero_room chip b n e h = subst (λ (r : Option RegionBlock). 4 * length (retired_first chip r []) ≤ n) e h

pub room_first : (q : Plan) (n : ℕ) → 4 * length (told_steps q) ≤ n → 4 * length (retired_first q.chip q.retired []) ≤ n
room_first q n h = omega (arith, count_apart q)

pub room_behind : (q : Plan) (room l : List ℕ) (at : ℕ) → 4 * length (told_steps q) ≤ length room → length l ≡ length room
    → at ≡ 4 * length (retired_first q.chip q.retired [])
    → (at ≤ length l) × (4 * length (steps_by q.chip q.shape) ≤ length (mid_of at (length l - at) l))
room_behind q room l at h e a =
    let count = count_apart q in
    let inside : at ≤ length l = omega arith in
    (inside, omega (arith, mid_len at (length l) l (omega arith)))

-- where the others are put, up to the end
pub put_behind : (q : Plan) (room l x : List ℕ) (at : ℕ) → at ≤ length l → at ≡ 4 * length (retired_first q.chip q.retired [])
    → l ≡ steps_put (retired_first q.chip q.retired []) room
    → x ≡ steps_put (steps_by q.chip q.shape) (mid_of at (length l - at) l)
    → put_mid at (length l - at) l x ≡ steps_put (told_steps q) room
unfolding steps_put
put_behind q room l x at h e el ex =
    let xs = retired_first q.chip q.retired [] in
    let es = steps_by q.chip q.shape in
    let rest = drop (4 * length xs) room in
    let size : length (plan_bytes xs) ≡ at = omega (arith, plan_long xs) in
    let first : take at l ≡ plan_bytes xs = ap (take at) el ∙ take_at (plan_bytes xs) rest at size in
    let back : drop at l ≡ rest = ap (drop at) el ∙ drop_at (plan_bytes xs) rest at size in
    let all : mid_of at (length l - at) l ≡ rest = take_all (length l - at) (drop at l) (omega (arith, length-drop at l)) ∙ back in
    let end : drop (length l - at) (drop at l) ≡ [] = ap (λ (n : ℕ). drop n (drop at l)) (sym (length-drop at l)) ∙ drop-length (drop at l) in
    let count : 4 * length xs + 4 * length es ≡ 4 * length (xs ++ es) = omega (arith, length-append xs es) in
    let further : drop (4 * length es) rest ≡ drop (4 * length (xs ++ es)) room
    = drop-drop (4 * length es) (4 * length xs) room ∙ ap (λ (n : ℕ). drop n room) count in
    ap (put_mid at (length l - at) l) ex
    ∙ ap₂ (λ (a b : List ℕ). a ++ b) first (ap₂ (λ (m z : List ℕ). (plan_bytes es ++ drop (4 * length es) m) ++ z) all end)
    ∙ ap (λ (b : List ℕ). plan_bytes xs ++ b) (append-nil (plan_bytes es ++ drop (4 * length es) rest) ∙ ap (λ (b : List ℕ). plan_bytes es ++ b) further)
    ∙ sym (append_assoc (plan_bytes xs) (plan_bytes es) (drop (4 * length (xs ++ es)) room))
    ∙ ap (λ (b : List ℕ). b ++ drop (4 * length (xs ++ es)) room) (sym (plan_append xs es))
    ∙ ap (λ (s : List Step). plan_bytes s ++ drop (4 * length s) room) (sym (first_apart q.chip q.retired es))

-- where there is room they are put
pub into_room : (q : Plan) (room : List ℕ) → 4 * length (told_steps q) ≤ length room → steps_into q room ≡ steps_put (told_steps q) room
unfolding steps_into
into_room q room h = simp (le-leb (4 * length (told_steps q)) (length room) h)
