-- Bytes stay bytes: the table of a plan and the page image of a step hold numbers below 256, where the region does.
-- Assumes nothing.
use mathlib.Core.Bool.{Bool, true, false, cond}
use mathlib.Core.List.{List, [], ◌∷◌, ◌++◌}
use mathlib.Core.Option.{Option, none, some}
use mathlib.Core.Path.{◌≡◌, subst}
use Prim.Native.Nat.{ℕ, zero, suc, ◌+◌, ◌*◌, ◌-◌, ◌%◌, ◌<◌}
use native.Mathlib.Omega.{arith}
use lib.Bits.{bit_and, and_le_l}
use lib.Dec.{eqb, lit<}
use lib.IntN.{pos, negsuc}
use lib.ListN.{length, take, drop, get_or, replicate, length-append}
use lib.Seq.{get_or-drop}
use Rattle.bits.specs.Bytes.{word_bytes}
use Rattle.chip.specs.Large.{pages_of}
use Rattle.chip.specs.declared.LargeChip.{LargeChip}
use Rattle.chip.specs.declared.Refusal.TheVariants.{Length}
use Rattle.bbt.specs.declared.Kind.{Kind}
use Rattle.bbt.specs.declared.Kind.TheVariants.{Mirror}
use Rattle.bbt.specs.Copies.{Table, page_part, parts, table}
use Rattle.bbt.specs.Entries.{updated_byte, updated_bytes, and_bytes}
use Rattle.bbt.specs.Failures.{other_block, moved, moved_to, block_fails, step_fails, failure, failures}
use Rattle.bbt.specs.Histories.{Snapshot, answer}
use Rattle.bbt.specs.Images.{chunk, image_data, image_tail, part_image, page_image}
use Rattle.bbt.specs.Lent.{call_lent}
use Rattle.bbt.specs.Pages.{View, marked, unreadable, reads, page_bytes, kind_of, version_of, kind_word, part_length, bad_page, page_of, seen}
use Rattle.bbt.specs.Pairs.{same, Case, no_pair, alone, settled, merging, differing, pair_case}
use Rattle.bbt.specs.Plans.{Step, erase, write, zeros, Job, idle, single, double, Plan, writes, copy_steps, job_steps, zero_first, steps_of, step_at, Answer, refuse, plan, read_case, reading, next_version, updated, update_from, update, target, other_kind, recover_to, anded, recover_newer, recover_case, recovery, Call, for_update, for_recovery, plan_by_rules}
use Rattle.bbt.specs.Possible.{Bytes}
use Rattle.bbt.specs.Regions.{Region, view, status_at, bytes_at}
use Rattle.bbt.proofs.LeftPages.{Judged, version_byte, length_image_data, chunk_length}
use Rattle.bbt.proofs.Numbering.{steps_from, Tracked}
use Rattle.bbt.proofs.Planning.{in_force, plan_is}
use Rattle.bbt.proofs.Searches.{no_confusion}
use Rattle.bbt.proofs.Updating.{updated_below}

-- ---- lists
abbrev pub AllBytes : List ℕ → Type 0
AllBytes l = (i : ℕ) → get_or l i 0 < 256

bytes_cons : (x : ℕ) (l : List ℕ) → x < 256 → AllBytes l → AllBytes (x ∷ l)
bytes_cons x l h f zero = h
bytes_cons x l h f (suc i) = f i

pub bytes_append : (l m : List ℕ) → AllBytes l → AllBytes m → AllBytes (l ++ m)
bytes_append [] m f g = g
bytes_append (x ∷ xs) m f g = bytes_cons x (xs ++ m) (f 0) (bytes_append xs m (λ i. f (suc i)) g)

pub below_replicate : (n v d : ℕ) → v < d → (i : ℕ) → get_or (replicate n v) i 0 < d
below_replicate zero v d h i = omega arith
below_replicate (suc n) v d h zero = h
below_replicate (suc n) v d h (suc i) = below_replicate n v d h i

pub bytes_replicate : (n : ℕ) → AllBytes (replicate n 255)
bytes_replicate n = below_replicate n 255 256 (lit< tt)

pub bytes_take : (n : ℕ) (l : List ℕ) → AllBytes l → AllBytes (take n l)
bytes_take zero l f i = lit< tt
bytes_take (suc n) [] f i = f i
bytes_take (suc n) (x ∷ xs) f i = bytes_cons x (take n xs) (f 0) (bytes_take n xs (λ i. f (suc i))) i

pub bytes_drop : (n : ℕ) (l : List ℕ) → AllBytes l → AllBytes (drop n l)
bytes_drop n l f i = rw (get_or-drop n l i 0) (f (n + i))

bytes_updated : (o w : List ℕ) → AllBytes (updated_bytes o w)
unfolding updated_bytes
bytes_updated [] w i = lit< tt
bytes_updated (o ∷ os) [] i = lit< tt
bytes_updated (o ∷ os) (w ∷ ws) i = bytes_cons (updated_byte o w) (updated_bytes os ws) (updated_below o w) (bytes_updated os ws) i

bytes_anded : (x y : List ℕ) → AllBytes x → AllBytes (and_bytes x y)
unfolding and_bytes
bytes_anded [] y f i = lit< tt
bytes_anded (x ∷ xs) [] f i = lit< tt
bytes_anded (x ∷ xs) (y ∷ ys) f i =
    bytes_cons (bit_and x y) (and_bytes xs ys) (let h : x < 256 = f 0 in omega (arith, and_le_l x y)) (bytes_anded xs ys (λ i. f (suc i))) i

-- ---- page images
pub record TableOfBytes (t : Table) : Type 0 where
  pub version_below : t.version < 256
  pub bitmap-bytes : AllBytes t.bitmap

pub image_bytes : (k : Kind) (t : Table) (p : ℕ) → TableOfBytes t → Bytes 2112 (page_image k t p)
unfolding page_image part_image image_data image_tail chunk
image_bytes k t p h = record { as_many = many; below_256 = all }
  where
    c : List ℕ
    c = take 2048 (drop (2048 * p) t.bitmap)

    d : List ℕ
    d = c ++ replicate (2048 - length c) 255

    tail : List ℕ
    tail = word_bytes (kind_word k) ++ (t.version ∷ replicate 45 255)

    many : length (d ++ (replicate 14 255 ++ tail)) ≡ 2112
    many = omega (arith, length-append d (replicate 14 255 ++ tail), length_image_data c (chunk_length p t.bitmap))

    signature : (k : Kind) → AllBytes (word_bytes (kind_word k))
    signature k zero = omega arith
    signature k (suc zero) = omega arith
    signature k (suc (suc zero)) = omega arith
    signature k (suc (suc (suc zero))) = omega arith
    signature k (suc (suc (suc (suc i)))) = lit< tt

    all : AllBytes (d ++ (replicate 14 255 ++ tail))
    all =
        bytes_append d (replicate 14 255 ++ tail)
        (bytes_append c (replicate (2048 - length c) 255) (bytes_take 2048 (drop (2048 * p) t.bitmap) (bytes_drop (2048 * p) t.bitmap h.bitmap-bytes))
        (bytes_replicate (2048 - length c)))
        (bytes_append (replicate 14 255) tail (bytes_replicate 14)
        (bytes_append (word_bytes (kind_word k)) (t.version ∷ replicate 45 255) (signature k)
        (bytes_cons t.version (replicate 45 255) h.version_below (bytes_replicate 45))))

-- ---- tables of a region
module _ {chip : LargeChip} (r : Region chip) where
  bytes_page : (b p : ℕ) → AllBytes (bytes_at r b p)
  unfolding page_bytes
  bytes_page b p = bytes_take 2112 (drop ((b * pages_of chip + p) * 2112) r.image) (bytes_drop ((b * pages_of chip + p) * 2112) r.image r.image_bytes)

  bytes_part : (b p : ℕ) → AllBytes (page_part (view r b p))
  unfolding seen page_of page_part
  bytes_part b p = go (bad_page p (status_at r b p) (bytes_at r b p)) (eqb (status_at r b p) 0)
    where
      l : List ℕ
      l = bytes_at r b p

      go : (x y : Bool) → AllBytes (page_part (cond x marked (cond y (reads (kind_of l) (version_of l) (take (part_length chip p) l)) unreadable)))
      go true y i = lit< tt
      go false true i = bytes_take (part_length chip p) l (bytes_page b p) i
      go false false i = lit< tt

  bytes_parts : (b n : ℕ) → AllBytes (parts n (view r b))
  unfolding parts
  bytes_parts b zero i = lit< tt
  bytes_parts b (suc n) i = bytes_append (parts n (view r b)) (page_part (view r b n)) (bytes_parts b n) (bytes_part b n) i

  bytes_table : (b : ℕ) → TableOfBytes (table (pages_of chip) (view r) b)
  unfolding table
  bytes_table b = record { version_below = version_byte r b 0; bitmap-bytes = bytes_parts b (pages_of chip) }

-- ---- tables of a plan
bytes_anded_table : (x y : Table) → TableOfBytes x → TableOfBytes (anded x y)
unfolding anded next_version
bytes_anded_table x y h = record { version_below = omega arith; bitmap-bytes = bytes_anded x.bitmap y.bitmap h.bitmap-bytes }

bytes_updated_table : (o : Table) (w : List ℕ) → TableOfBytes o → TableOfBytes (updated o w)
unfolding updated next_version
bytes_updated_table o w h = go (same (updated_bytes o.bitmap w) o.bitmap)
  where
    go : (t : Bool) → TableOfBytes (cond t o (record { version = (o.version + 1) % 256; bitmap = updated_bytes o.bitmap w }))
    go true = h
    go false = record { version_below = omega arith; bitmap-bytes = bytes_updated o.bitmap w }

abbrev JobOfBytes : Job → Type 0
JobOfBytes (idle v) = Unit {0}
JobOfBytes (single k b g t) = TableOfBytes t
JobOfBytes (double p m t) = TableOfBytes t

abbrev AnswerOfBytes : Answer → Type 0
AnswerOfBytes (refuse x) = Unit {0}
AnswerOfBytes (plan q) = JobOfBytes q.job

module _ {chip : LargeChip} (r : Region chip) where
  bytes_recovery : (c : Case) → AnswerOfBytes (recover_case chip (view r) c)
  unfolding recover_case recover_to recover_newer
  bytes_recovery (no_pair x) = tt
  bytes_recovery (alone k g) = go (target chip (view r) (g ∷ []))
    where
      go : (o : Option ℕ) → AnswerOfBytes (recover_to (other_kind k) g (table (pages_of chip) (view r) g) o)
      go none = tt
      go (some b) = bytes_table r g
  bytes_recovery (settled p m) = tt
  bytes_recovery (merging p m) = bytes_anded_table (table (pages_of chip) (view r) p) (table (pages_of chip) (view r) m) (bytes_table r p)
  bytes_recovery (differing (pos n) p m) = bytes_table r p
  bytes_recovery (differing (negsuc n) p m) = bytes_table r m

  bytes_update : (w : List ℕ) (c : Case) → AnswerOfBytes (update_from w (read_case (pages_of chip) (view r) c))
  unfolding update_from read_case
  bytes_update w (no_pair x) = tt
  bytes_update w (alone k g) = tt
  bytes_update w (settled p m) = go (same (updated_bytes o.bitmap w) o.bitmap)
    where
      o : Table
      o = table (pages_of chip) (view r) p

      go : (t : Bool) → JobOfBytes (cond t (idle o.version) (double p m (updated o w)))
      go true = tt
      go false = bytes_updated_table o w (bytes_table r p)
  bytes_update w (merging p m) = tt
  bytes_update w (differing d p m) = tt

  bytes_first : (call : Call) → AnswerOfBytes (plan_by_rules chip (view r) call)
  unfolding plan_by_rules update reading recovery
  bytes_first (for_update w) = bytes_update w (pair_case chip (view r))
  bytes_first for_recovery = bytes_recovery (pair_case chip (view r))

-- ---- the same table, where steps have failed
bytes_moved : (j : Job) (b x : ℕ) → JobOfBytes j → JobOfBytes (moved j b x)
unfolding moved
bytes_moved (idle v) b x h = tt
bytes_moved (single k c g t) b x h = h
bytes_moved (double p m t) b x h = go (eqb b p)
  where
    go : (y : Bool) → JobOfBytes (cond y (double x m t) (single Mirror x p t))
    go true = h
    go false = h

module _ (chip : LargeChip) (R : View) where
  bytes_block : (q : Plan) (b : ℕ) → JobOfBytes q.job → AnswerOfBytes (block_fails chip R q b)
  unfolding block_fails moved_to
  bytes_block q b h = go (target chip R (other_block q.job b ∷ b ∷ q.failed))
    where
      go : (o : Option ℕ) → AnswerOfBytes (moved_to q b o)
      go none = tt
      go (some x) = bytes_moved q.job b x h

  bytes_step : (q : Plan) (o : Option Step) → JobOfBytes q.job → AnswerOfBytes (step_fails chip R q o)
  unfolding step_fails
  bytes_step q none h = tt
  bytes_step q (some (erase b)) h = bytes_block q b h
  bytes_step q (some (write b p k t)) h = bytes_block q b h
  bytes_step q (some (zeros b)) h = tt

  bytes_failures : (failed : List ℕ) (a : Answer) → AnswerOfBytes a → AnswerOfBytes (failures chip R a failed)
  unfolding failures failure
  bytes_failures [] a h = h
  bytes_failures (i ∷ is) (refuse x) h = bytes_failures is (refuse x) h
  bytes_failures (i ∷ is) (plan q) h =
      bytes_failures is (step_fails chip R q (step_at (steps_of (pages_of chip) q) i)) (bytes_step q (step_at (steps_of (pages_of chip) q) i) h)

bytes_answer : {chip : LargeChip} → Judged chip → (call : Call) (a : Snapshot chip) → AnswerOfBytes (answer call a)
bytes_answer {chip} ok call a = rw (plan_is ok a call) (go (call_lent chip call))
  where
    go : (t : Bool) → AnswerOfBytes (cond t (in_force call a) (refuse Length))
    go true = bytes_failures chip (view a.from) a.failed (plan_by_rules chip (view a.from) call) (bytes_first a.from call)
    go false = tt

-- ---- steps
abbrev pub StepOfBytes : Step → Type 0
StepOfBytes (erase b) = Unit {0}
StepOfBytes (write b p k t) = TableOfBytes t
StepOfBytes (zeros b) = Unit {0}

abbrev StepsOfBytes : List Step → Type 0
StepsOfBytes [] = Unit {0}
StepsOfBytes (e ∷ es) = StepOfBytes e × StepsOfBytes es

bytes_writes : (n p b : ℕ) (k : Kind) (t : Table) (rest : List Step) → TableOfBytes t → StepsOfBytes rest → StepsOfBytes (writes n p b k t rest)
unfolding writes
bytes_writes zero p b k t rest h f = f
bytes_writes (suc n) p b k t rest h f = (h, bytes_writes n (suc p) b k t rest h f)

bytes_job : (P : ℕ) (j : Job) → JobOfBytes j → StepsOfBytes (job_steps P j)
unfolding job_steps copy_steps
bytes_job P (idle v) h = tt
bytes_job P (single k b g t) h = (tt, bytes_writes P 0 b k t [] h tt)
bytes_job P (double p m t) h = (tt, bytes_writes P 0 _ _ t _ h (tt, bytes_writes P 0 _ _ t [] h tt))

bytes_steps : (failed : List ℕ) (es : List Step) → StepsOfBytes es → StepsOfBytes (zero_first failed es)
bytes_steps [] es h = h
bytes_steps (b ∷ bs) es h = (tt, h)

bytes_from : (l : List Step) (i : ℕ) (e : Step) {es : List Step} → steps_from l i ≡ e ∷ es → StepsOfBytes l → StepOfBytes e
unfolding steps_from
bytes_from [] zero e h f = absurd (no_confusion (cc))
bytes_from [] (suc i) e h f = absurd (no_confusion (cc))
bytes_from (x ∷ xs) zero e h f = let q : x ≡ e = cc in subst (λ (z : Step). StepOfBytes z) q f.0
bytes_from (x ∷ xs) (suc i) e h f = bytes_from xs i e h f.1

pub bytes_next : {chip : LargeChip} (ok : Judged chip) {call : Call} {a : Snapshot chip} {i : ℕ} (e : Step) {es : List Step} → Tracked call a i (e ∷ es) → StepOfBytes e
bytes_next {chip} ok {call} {a} {i} e t =
    let h : JobOfBytes t.made.job = subst (λ (x : Answer). AnswerOfBytes x) t.by_plan (bytes_answer ok call a) in
    bytes_from (steps_of (pages_of chip) t.made) i e t.left
    (bytes_steps t.made.failed (job_steps (pages_of chip) t.made.job) (bytes_job (pages_of chip) t.made.job h))
