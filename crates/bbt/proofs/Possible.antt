-- Nothing is left out of the histories: each page can be left as a step allows (`Putting`), its page image is of bytes (`AllBytes`), whether
-- a new primary stands can be decided, and planning anew answers a plan or a refusal.
-- Assumes nothing.
use mathlib.Core.Bool.{Bool, true, false, true≢false}
use mathlib.Core.List.{List, [], ◌∷◌, ◌++◌}
use mathlib.Core.Logic.{◌⊎◌, inl, inr}
use mathlib.Core.Path.{◌≡◌, refl, sym, ap, ◌∙◌, subst}
use Prim.Native.Nat.{ℕ, zero, suc, ◌+◌, ◌<◌, ◌≤◌}
use native.Mathlib.Decide.{ℕ_discrete}
use native.Mathlib.Omega.{arith}
use lib.Dec.{lit<}
use lib.ListN.{length, take, drop, get_or, replicate, length-append, length-take, length-drop, length-replicate}
use lib.Seq.{take_at, drop-append-add, get_or-append-add}
use Rattle.chip.specs.Large.{pages_of}
use Rattle.chip.specs.declared.LargeChip.{LargeChip}
use Rattle.chip.specs.declared.Refusal.{Refusal}
use Rattle.bbt.specs.declared.Kind.TheVariants.{Primary}
use Rattle.bbt.specs.Copies.{Table}
use Rattle.bbt.specs.Histories.{Written, Done, Cut, OthersKept, Last, one_table, pending, closed, Closes, as_one, as_closed, was_complete, was_not, AfterStep, Snapshot, asked, step_done, step_cut, step_failed, step_given_up, as_planned, Hand, snapshot, with_failed, answer, holding, empty, World, world, Event, plan_refused, update_planned, recovery_planned, cut_between, no_step_left, no_plan}
use Rattle.bbt.specs.Images.{Imaged, page-image, page_image}
use Rattle.bbt.specs.Pairs.{same}
use Rattle.bbt.specs.Plans.{Step, erase, write, zeros, Call, for_update, Plan, steps_of, Answer, refuse, plan, updated, for_recovery}
use Rattle.bbt.specs.Possible.{Bytes, Left, as_it_was, left_blank, left_complete, left_unreadable, left_zeroed, AnyLost, AnyZeroed, CutAllows, DoneAllows, IsLeft, AreLeft, CanFail, CanHappen, planning, stepping, Can, NoStep}
use Rattle.bbt.specs.PowerCuts.{ImageOf, Harmless, region_of}
use Rattle.bbt.specs.Regions.{Region, status_at, bytes_at, NotZeroed, Blank, Complete, Zeroed, Unreadable, Lost, Kept}
use Rattle.bbt.proofs.LeftPages.{Judged}
use Rattle.bbt.proofs.Outcomes.{kept_refl, kept_trans, complete_kept, blank_kept}
use Rattle.bbt.proofs.Planning.{plan_asked, update_reads}
use Rattle.bbt.proofs.Putting.{put_page}
use Rattle.bbt.proofs.Searches.{no_confusion, below_suc, all_or_some, same_refl, same_eq}
use Rattle.bbt.proofs.AllBytes.{below_replicate, bytes_append, bytes_replicate, bytes_take, bytes_drop, StepOfBytes, image_bytes}

dec_list : (l m : List ℕ) → Dec (l ≡ m)
dec_list l m = go (same l m) refl
  where
    go : (x : Bool) → same l m ≡ x → Dec (l ≡ m)
    go true e = yes (same_eq l m e)
    go false e = no (λ q. true≢false (sym (same_refl l) ∙ (ap (same l) q ∙ e)))

-- ---- a complete page with any OOB 0-13
module _ (l oob : List ℕ) (page : Bytes 2112 l) (free : Bytes 14 oob) where
  abbrev filled : List ℕ
  filled = take 2048 l ++ (oob ++ drop 2062 l)

  front : length (take 2048 l) ≡ 2048
  front = omega (arith, length-take 2048 l, page.as_many)

  filled_bytes : Bytes 2112 filled
  filled_bytes = record {
    as_many = omega (
      arith,
      length-append (take 2048 l) (oob ++ drop 2062 l),
      length-append oob (drop 2062 l),
      front,
      free.as_many,
      length-drop 2062 l,
      page.as_many,
    );
    below_256 = bytes_append (take 2048 l) (oob ++ drop 2062 l) (bytes_take 2048 l page.below_256)
        (bytes_append oob (drop 2062 l) free.below_256 (bytes_drop 2062 l page.below_256));
  }

  filled_data : take 2048 filled ≡ take 2048 l
  filled_data = take_at (take 2048 l) (oob ++ drop 2062 l) 2048 front

  -- from place 2048 + n on
  filled_from : (n : ℕ) → drop (2048 + n) filled ≡ drop n (oob ++ drop 2062 l)
  filled_from n =
      subst (λ (m : ℕ). drop (m + n) filled ≡ drop n (oob ++ drop 2062 l)) front (drop-append-add (take 2048 l) (oob ++ drop 2062 l) n)

  filled_free : take 14 (drop 2048 filled) ≡ oob
  filled_free = rw (filled_from 0) (take_at oob (drop 2062 l) 14 free.as_many)

  filled_tail : drop 2062 filled ≡ drop 2062 l
  filled_tail =
      filled_from 14 ∙ subst (λ (m : ℕ). drop (m + 0) (oob ++ drop 2062 l) ≡ drop 2062 l) free.as_many (drop-append-add oob (drop 2062 l) 0)

-- ---- a page with zeros: any data bytes before them
module _ (d : List ℕ) (free : Bytes 2048 d) where
  abbrev zeroed : List ℕ
  zeroed = d ++ replicate 64 0

  zeroed_bytes : Bytes 2112 zeroed
  zeroed_bytes = record {
    as_many = omega (arith, length-append d (replicate 64 0), length-replicate {A = ℕ} 64 0, free.as_many);
    below_256 = bytes_append d (replicate 64 0) free.below_256 (below_replicate 64 0 256 (lit< tt));
  }

  zeroed_data : take 2048 zeroed ≡ d
  zeroed_data = take_at d (replicate 64 0) 2048 free.as_many

  zeroed_oob : (j : ℕ) → get_or zeroed (2048 + j) 0 ≡ 0
  zeroed_oob j =
      let zero : get_or (replicate 64 0) j 0 < 1 = below_replicate 64 0 1 (lit< tt) j in
      subst (λ (n : ℕ). ◌≡◌ {A = ℕ} (get_or zeroed (n + j) 0) 0) free.as_many (get_or-append-add d (replicate 64 0) j 0 ∙ omega arith)

-- ---- a page left as a step allows
-- what it takes: bytes to put there
abbrev pub Takes : Imaged → Left → Type 0
Takes x as_it_was = Unit {0}
Takes x left_blank = Unit {0}
Takes x (left_complete oob) = Bytes 14 oob × (l : List ℕ) × Bytes 2112 l × (x ≡ page-image l)
Takes x (left_unreadable l) = Bytes 2112 l
Takes x (left_zeroed s d) = AnyZeroed s d

-- a step has what it takes for all that it allows
pub done_takes : (x : Imaged) (e : Step) (f : Left) → ImageOf e x → StepOfBytes e → DoneAllows e f → Takes x f
done_takes x (erase b) f im by e = rw e tt
done_takes x (write b p k t) f im by (oob, free, e) = rw e (free, page_image k t p, image_bytes k t p by, im)
done_takes x (zeros b) f im by (s, d, free, e) = rw e free

pub cut_takes : (x : Imaged) (e : Step) (p : ℕ) (f : Left) → ImageOf e x → StepOfBytes e → CutAllows e p f → Takes x f
cut_takes x (erase b) p as_it_was im by h = tt
cut_takes x (erase b) p left_blank im by h = tt
cut_takes x (erase b) p (left_complete oob) im by h = absurd h
cut_takes x (erase b) p (left_unreadable l) im by h = h.0
cut_takes x (erase b) p (left_zeroed s d) im by h = absurd h
cut_takes x (write b q k t) p as_it_was im by h = absurd h
cut_takes x (write b q k t) p left_blank im by h = tt
cut_takes x (write b q k t) p (left_complete oob) im by h = (h, page_image k t q, image_bytes k t q by, im)
cut_takes x (write b q k t) p (left_unreadable l) im by h = h.0
cut_takes x (write b q k t) p (left_zeroed s d) im by h = absurd h
cut_takes x (zeros b) p as_it_was im by h = tt
cut_takes x (zeros b) p left_blank im by h = absurd h
cut_takes x (zeros b) p (left_complete oob) im by h = absurd h
cut_takes x (zeros b) p (left_unreadable l) im by h = h
cut_takes x (zeros b) p (left_zeroed s d) im by h = h

module _ {chip : LargeChip} where
  -- one page, all others kept
  record PageLeft (x : Imaged) (f : Left) (r : Region chip) (b p : ℕ) : Type 0 where
    s : Region chip
    is_left : IsLeft x f r s b p
    others : (c q : ℕ) → c < chip.region → q < pages_of chip → ¬ ((c ≡ b) × (q ≡ p)) → Kept r s c q

  leave : (x : Imaged) (f : Left) (r : Region chip) (b p : ℕ) → b < chip.region → p < pages_of chip → Takes x f → PageLeft x f r b p
  leave x as_it_was r b p hb hp h = record { s = r; is_left = kept_refl r b p; others = λ c q hc hq n. kept_refl r c q }
  leave x left_blank r b p hb hp h =
      let w = put_page r b p (replicate 2112 255) 0 hb hp (record { as_many = length-replicate {A = ℕ} 2112 255; below_256 = bytes_replicate 2112 }) (lit< tt) in
      record { s = w.s; is_left = record { well = w.here_status; all_ff = w.here_bytes }; others = w.others }
  leave x (left_complete oob) r b p hb hp (free, l, page, e) =
      let w = put_page r b p (take 2048 l ++ (oob ++ drop 2062 l)) 0 hb hp (filled_bytes l oob page free) (lit< tt) in
      record {
        s = w.s;
        is_left = (
          record {
            page = l;
            given = e;
            complete = record {
              well = w.here_status;
              data_as_asked = ap (take 2048) w.here_bytes ∙ filled_data l oob page free;
              oob_as_asked = ap (drop 2062) w.here_bytes ∙ filled_tail l oob page free;
            };
          },
          ap (λ (m : List ℕ). take 14 (drop 2048 m)) w.here_bytes ∙ filled_free l oob page free,
        );
        others = w.others;
      }
  leave x (left_unreadable l) r b p hb hp h =
      let w = put_page r b p l 1 hb hp h (lit< tt) in
      record { s = w.s; is_left = (record { fails = w.here_status }, w.here_bytes); others = w.others }
  leave x (left_zeroed v d) r b p hb hp (hv, free) =
      let w = put_page r b p (d ++ replicate 64 0) v hb hp (zeroed_bytes d free) hv in
      record {
        s = w.s;
        is_left = (
          record { zero-oob = λ j l. ap (λ (m : List ℕ). get_or m (2048 + j) 0) w.here_bytes ∙ zeroed_oob d free j },
          w.here_status,
          ap (take 2048) w.here_bytes ∙ zeroed_data d free,
        );
        others = w.others;
      }

  -- ---- the first n pages of a block
  left_kept : (x : Imaged) (f : Left) (r : Region chip) {s u : Region chip} {b p : ℕ} → Kept s u b p → IsLeft x f r s b p → IsLeft x f r u b p
  left_kept x as_it_was r k h = kept_trans h k
  left_kept x left_blank r k h = blank_kept k h
  left_kept x (left_complete oob) r k (w, e) =
      (record { page = w.page; given = w.given; complete = complete_kept k w.complete }, ap (λ (m : List ℕ). take 14 (drop 2048 m)) k.same_bytes ∙ e)
  left_kept x (left_unreadable l) r k (w, e) = (record { fails = k.same_status ∙ w.fails }, k.same_bytes ∙ e)
  left_kept x (left_zeroed v d) r k (w, e, f) = (
    record { zero-oob = λ j l. ap (λ (m : List ℕ). get_or m (2048 + j) 0) k.same_bytes ∙ w.zero-oob j l },
    k.same_status ∙ e,
    ap (take 2048) k.same_bytes ∙ f,
  )

  left_since : (x : Imaged) (f : Left) {r s : Region chip} (u : Region chip) {b p : ℕ} → Kept r s b p → IsLeft x f s u b p → IsLeft x f r u b p
  left_since x as_it_was u k h = kept_trans k h
  left_since x left_blank u k h = h
  left_since x (left_complete oob) u k h = h
  left_since x (left_unreadable l) u k h = h
  left_since x (left_zeroed v d) u k h = h

  record PagesLeft (x : Imaged) (left : ℕ → Left) (r : Region chip) (b n : ℕ) : Type 0 where
    s : Region chip
    is_left : (p : ℕ) → p < n → IsLeft x (left p) r s b p
    rest : (p : ℕ) → n ≤ p → p < pages_of chip → Kept r s b p
    others : (c q : ℕ) → c < chip.region → q < pages_of chip → ¬ (c ≡ b) → Kept r s c q

  leave_pages : (x : Imaged) (left : ℕ → Left) → ((p : ℕ) → Takes x (left p)) → (r : Region chip) (b : ℕ) → b < chip.region → (n : ℕ) → n ≤ pages_of chip
      → PagesLeft x left r b n
  leave_pages x left can r b hb zero hn =
      record { s = r; is_left = λ p l. absurd (omega arith); rest = λ p l h. kept_refl r b p; others = λ c q hc hq n. kept_refl r c q }
  leave_pages x left can r b hb (suc n) hn =
      let a = leave_pages x left can r b hb n (omega arith) in
      let w = leave x (left n) a.s b n hb (omega arith) (can n) in
      record {
        s = w.s;
        is_left = λ p l. elim (below_suc l) [
          | inl e ↦ rw e (left_since x (left n) w.s (a.rest n (omega arith) (omega arith)) w.is_left)
          | inr m ↦ left_kept x (left p) r (w.others b p hb (omega arith) (λ t. omega (arith, t.1))) (a.is_left p m)
        ];
        rest = λ p l h. kept_trans (a.rest p (omega arith) h) (w.others b p hb h (λ t. omega (arith, t.1)));
        others = λ c q hc hq ne. kept_trans (a.others c q hc hq ne) (w.others c q hc hq (λ t. ne t.0));
      }

  -- ---- a new primary stands or not
  dec_complete : (r : Region chip) (b p : ℕ) (l : List ℕ) → Complete r b p l ⊎ (¬ Complete r b p l)
  dec_complete r b p l =
      go (ℕ_discrete (status_at r b p) 0) (dec_list (take 2048 (bytes_at r b p)) (take 2048 l)) (dec_list (drop 2062 (bytes_at r b p)) (drop 2062 l))
    where
      go : Dec (status_at r b p ≡ 0) → Dec (take 2048 (bytes_at r b p) ≡ take 2048 l) → Dec (drop 2062 (bytes_at r b p) ≡ drop 2062 l)
          → Complete r b p l ⊎ (¬ Complete r b p l)
      go (no n) y z = inr (λ h. n h.well)
      go (yes x) (no n) z = inr (λ h. n h.data_as_asked)
      go (yes x) (yes y) (no n) = inr (λ h. n h.oob_as_asked)
      go (yes x) (yes y) (yes z) = inl (record { well = x; data_as_asked = y; oob_as_asked = z })

  -- in block b
  abbrev PrimaryAt : Region chip → Table → ℕ → Type 0
  PrimaryAt r n b = (p : ℕ) → p < pages_of chip → Complete r b p (page_image Primary n p)

  dec_primary : (r : Region chip) (n : Table) (b : ℕ) → (¬ PrimaryAt r n b) ⊎ PrimaryAt r n b
  dec_primary r n b =
      elim (all_or_some (pages_of chip) (λ p. Complete r b p (page_image Primary n p)) (λ p. ¬ Complete r b p (page_image Primary n p))
      (λ p l. dec_complete r b p (page_image Primary n p))) [
        | inl h ↦ inr h
        | inr h ↦ inl (λ w. h.2 (w h.0 h.1))
      ]

  pub can_close : (r : Region chip) (l : Last) → (l' : Last) × Closes r l l'
  can_close r (one_table t) = (one_table t, as_one)
  can_close r (closed o n w) = (closed o n w, as_closed)
  can_close r (pending o n) =
      elim (all_or_some chip.region (λ b. ¬ PrimaryAt r n b) (PrimaryAt r n) (λ b l. dec_primary r n b)) [
        | inl h ↦ (closed o n false, was_not (λ w. h w.block w.in_region w.whole))
        | inr h ↦ (closed o n true, was_complete (record { block = h.0; in_region = h.1; whole = h.2 }))
      ]

  after_step : (s : Region chip) (es : List Step) (l : Last) → (l' : Last) × AfterStep s es l l'
  after_step s [] l = can_close s l
  after_step s (e ∷ es) l = (l, refl)

  -- ---- the next step
  -- its pages can be left as it allows
  pub record Stepped (x : Imaged) (left : ℕ → Left) (e : Step) (r : Region chip) : Type 0 where
    pub s : Region chip
    pub is_left : AreLeft x left e r s
    pub others : OthersKept e r s

  pub leave_step : (x : Imaged) (left : ℕ → Left) (e : Step) (r : Region chip) → Judged chip → Harmless r e → ((p : ℕ) → Takes x (left p)) → Stepped x left e r
  leave_step x left (erase b) r ok h can =
      let a = leave_pages x left can r b (omega (arith, h.0.1, ok.within)) (pages_of chip) (omega arith) in
      record { s = a.s; is_left = a.is_left; others = a.others }
  leave_step x left (write b p k t) r ok h can =
      let a = leave x (left p) r b p (omega (arith, h.0.1, ok.within)) h.1 (can p) in
      record { s = a.s; is_left = a.is_left; others = a.others }
  leave_step x left (zeros b) r ok h can =
      let a = leave x (left 0) r b 0 (omega (arith, h.1, ok.within)) ok.some_page (can 0) in
      record { s = a.s; is_left = a.is_left; others = a.others }

  -- and so left, they are what a step leaves, done, cut or failed
  pub left_done : (x : Imaged) (left : ℕ → Left) (e : Step) (r s : Region chip) → ((p : ℕ) → DoneAllows e (left p)) → AreLeft x left e r s → Done x e s
  left_done x left (erase b) r s ok h = λ p l. rw (ok p) at (h p l)
  left_done x left (write b p k t) r s ok h = go (left p) (ok p) h
    where
      go : (f : Left) → DoneAllows (write b p k t) f → IsLeft x f r s b p → Written s b p x
      go f (oob, free, e) h = let z : IsLeft x (left_complete oob) r s b p = rw e at h in z.0
  left_done x left (zeros b) r s ok h = go (left 0) (ok 0) h
    where
      go : (f : Left) → DoneAllows (zeros b) f → IsLeft x f r s b 0 → Zeroed s b 0
      go f (v, d, free, e) h = let z : IsLeft x (left_zeroed v d) r s b 0 = rw e at h in z.0

  left_lost : {s : Region chip} {b p : ℕ} {l : List ℕ} → AnyLost p l → Unreadable s b p → bytes_at s b p ≡ l → Lost s b p
  left_lost ok w e = record { fails = w.fails; shows = λ z. subst (λ (l : List ℕ). NotZeroed l) (sym e) (ok.1 z) }

  pub left_cut : (x : Imaged) (left : ℕ → Left) (e : Step) (r s : Region chip) → ((p : ℕ) → CutAllows e p (left p)) → AreLeft x left e r s → Cut x e r s
  left_cut x left (erase b) r s ok h = λ p l. go p (left p) (ok p) (h p l)
    where
      go : (p : ℕ) (f : Left) → CutAllows (erase b) p f → IsLeft x f r s b p → Kept r s b p ⊎ (Blank s b p ⊎ Lost s b p)
      go p as_it_was ok h = inl h
      go p left_blank ok h = inr (inl h)
      go p (left_complete oob) ok h = absurd ok
      go p (left_unreadable l) ok h = inr (inr (left_lost ok h.0 h.1))
      go p (left_zeroed v d) ok h = absurd ok
  left_cut x left (write b p k t) r s ok h = go (left p) (ok p) h
    where
      go : (f : Left) → CutAllows (write b p k t) p f → IsLeft x f r s b p → Blank s b p ⊎ (Written s b p x ⊎ Lost s b p)
      go as_it_was ok h = absurd ok
      go left_blank ok h = inl h
      go (left_complete oob) ok h = inr (inl h.0)
      go (left_unreadable l) ok h = inr (inr (left_lost ok h.0 h.1))
      go (left_zeroed v d) ok h = absurd ok
  left_cut x left (zeros b) r s ok h = go (left 0) (ok 0) h
    where
      go : (f : Left) → CutAllows (zeros b) 0 f → IsLeft x f r s b 0 → Kept r s b 0 ⊎ (Zeroed s b 0 ⊎ Unreadable s b 0)
      go as_it_was ok h = inl h
      go left_blank ok h = absurd ok
      go (left_complete oob) ok h = absurd ok
      go (left_unreadable l) ok h = inr (inr h.0)
      go (left_zeroed v d) ok h = inr (inl h.0)

  -- ---- plans
  pub can_plan : Judged chip → (r : Region chip) (h : Hand chip) (l : Last) (call : Call) (q : Plan) → answer call (snapshot r) ≡ plan q
      → (l' : Last) × Can r l h (planning call) (world r (holding call (snapshot r) 0 (steps_of (pages_of chip) q)) l')
  can_plan ok r h l (for_update w) q e =
      let s = update_reads ok r w q (plan_asked ok r (for_update w) q e) in
      (as_planned s.2 (updated s.2 w) q.job, (update_planned w s.0 s.1 s.2 q e s.3, refl))
  can_plan ok r h l for_recovery q e = let z = can_close r l in (z.0, (recovery_planned q z.0 e z.1, refl))

  -- ---- a refused plan
  -- a plan that was asked for is the one in question, which is refused
  not_planned : (r : Region chip) (c d : Call) (q : Plan) (x : Refusal) → answer d (snapshot r) ≡ refuse x → answer c (snapshot r) ≡ plan q → planning c ≡ planning d → ⊥
  not_planned r c d q x a e k =
      let i : c ≡ d = cc in
      let z : refuse x ≡ plan q = sym a ∙ (ap (λ (call : Call). answer call (snapshot r)) (sym i) ∙ e) in
      no_confusion (cc)

  pub must_refuse : (r : Region chip) (h : Hand chip) (l : Last) (call : Call) (x : Refusal) (w : World chip) → answer call (snapshot r) ≡ refuse x
      → Can r l h (planning call) w → w ≡ world r h l
  must_refuse r h l call x w a (plan_refused c y e, k) = refl
  must_refuse r h l call x w a (update_planned wanted p m o q e s, k) = absurd (not_planned r (for_update wanted) call q x a e k)
  must_refuse r h l call x w a (recovery_planned q l' e cl, k) = absurd (not_planned r for_recovery call q x a e k)
  must_refuse r h l call x w a (step_done s l' o d en, k) = absurd (no_confusion (cc))
  must_refuse r h l call x w a (step_cut s l' o d cl, k) = absurd (no_confusion (cc))
  must_refuse r h l call x w a (cut_between l' cl, k) = absurd (no_confusion (cc))
  must_refuse r h l call x w a (step_failed s q o d e, k) = absurd (no_confusion (cc))
  must_refuse r h l call x w a (step_given_up s l' y o d e cl, k) = absurd (no_confusion (cc))
  must_refuse r h l call x w a (no_step_left, k) = absurd (no_confusion (cc))
  must_refuse r h l call x w a (no_plan, k) = absurd (no_confusion (cc))

  -- ---- with no step left
  pub can_idle : (r : Region chip) (h : Hand chip) (l : Last) → NoStep h → Can r l h stepping (world r h l)
  can_idle r empty l n = (no_plan, refl)
  can_idle r (holding c a i []) l n = (no_step_left, refl)
  can_idle r (holding c a i (e ∷ es)) l n = absurd n

  pub must_idle : (r : Region chip) (h : Hand chip) (l : Last) (w : World chip) → NoStep h → Can r l h stepping w → w ≡ world r h l
  must_idle r h l w n (plan_refused call x e, k) = absurd (no_confusion (cc))
  must_idle r h l w n (update_planned wanted p m o q e s, k) = absurd (no_confusion (cc))
  must_idle r h l w n (recovery_planned q l' e cl, k) = absurd (no_confusion (cc))
  must_idle r h l w n (step_done s l' o d en, k) = absurd n
  must_idle r h l w n (step_cut s l' o d cl, k) = absurd n
  must_idle r h l w n (cut_between l' cl, k) = absurd (no_confusion (cc))
  must_idle r h l w n (step_failed s q o d e, k) = absurd n
  must_idle r h l w n (step_given_up s l' x o d e cl, k) = absurd n
  must_idle r h l w n (no_step_left, k) = refl
  must_idle r h l w n (no_plan, k) = refl

  pub idle_page : (r : Region chip) (h : Hand chip) (l : Last) (w : World chip) → NoStep h → Event r l h w → region_of w ≡ r
  idle_page r h l w n (plan_refused call x e) = refl
  idle_page r h l w n (update_planned wanted p m o q e s) = refl
  idle_page r h l w n (recovery_planned q l' e cl) = refl
  idle_page r h l w n (step_done s l' k d en) = absurd n
  idle_page r h l w n (step_cut s l' k d cl) = absurd n
  idle_page r h l w n (cut_between l' cl) = refl
  idle_page r h l w n (step_failed s q k d e) = absurd n
  idle_page r h l w n (step_given_up s l' x k d e cl) = absurd n
  idle_page r h l w n no_step_left = refl
  idle_page r h l w n no_plan = refl

  -- ---- the next step, done, cut and failed
  -- planning anew answers a plan or a refusal, and each leads on
  can_fail : (r : Region chip) (l : Last) (c : Call) (a : Snapshot chip) (i : ℕ) (e : Step) (es : List Step) (s : Region chip) → OthersKept e r s
      → Cut (asked c a i) e r s → CanFail r l c a i e es s
  can_fail r l c a i e es s k d = go (answer c (with_failed a i)) refl
    where
      go : (x : Answer) → answer c (with_failed a i) ≡ x → CanFail r l c a i e es s
      go (plan q) z = inl (q, z, (step_failed s q k d z, refl))
      go (refuse x) z = let w = can_close s l in inr (x, w.0, z, (step_given_up s w.0 x k d z w.1, refl))

  pub can_happen : Judged chip → (r : Region chip) (l : Last) (c : Call) (a : Snapshot chip) (i : ℕ) (e : Step) (es : List Step) → Harmless r e
      → ImageOf e (asked c a i) → StepOfBytes e → CanHappen r l c a i e es
  can_happen ok r l c a i e es h im by = record {
    done = λ left allows.
        let w = leave_step (asked c a i) left e r ok h (λ p. done_takes (asked c a i) e (left p) im by (allows p)) in
        let z = after_step w.s es l in
        (w.s, z.0, w.is_left, (step_done w.s z.0 w.others (left_done (asked c a i) left e r w.s allows w.is_left) z.1, refl));
    cut = λ left allows.
        let w = leave_step (asked c a i) left e r ok h (λ p. cut_takes (asked c a i) e p (left p) im by (allows p)) in
        let z = can_close w.s l in
        (w.s, z.0, w.is_left, (step_cut w.s z.0 w.others (left_cut (asked c a i) left e r w.s allows w.is_left) z.1, refl));
    fail = λ left allows.
        let w = leave_step (asked c a i) left e r ok h (λ p. cut_takes (asked c a i) e p (left p) im by (allows p)) in
        (w.s, w.is_left, can_fail r l c a i e es w.s w.others (left_cut (asked c a i) left e r w.s allows w.is_left));
  }
