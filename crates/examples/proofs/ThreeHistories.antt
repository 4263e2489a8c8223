-- The histories, step by step: plans, page images and readings are computed from the 8,448 bytes of each region.
-- Assumes nothing.
use mathlib.Core.Bool.{Bool, true, false, not, ◌&&◌, ◌||◌, false≢true}
use mathlib.Core.List.{List, [], ◌∷◌, ◌++◌}
use mathlib.Core.Logic.{inl, inr, ◌≢◌}
use mathlib.Core.Path.{◌≡◌, refl, ◌∙◌}
use Prim.Native.Nat.{ℕ, zero, suc, ◌+◌, ◌<◌}
use native.Mathlib.Omega.{arith}
use borrow.Author.Tests.{eqb-true, ne_eqb}
use lib.Dec.{eqb, lit<}
use lib.ListN.{drop, get_or, replicate, length-append, length-replicate}
use Rattle.bits.proofs.Both.{both_left, both_right}
use Rattle.chip.specs.Large.{chip_of, is_blocks, is_region}
use Rattle.bbt.specs.declared.Kind.{Kind}
use Rattle.bbt.specs.declared.Kind.TheVariants.{Primary, Mirror}
use Rattle.bbt.specs.Copies.{Table, also, find, good, highest, is_marked, is_page, page_part, page_version, parts, reads_bad, table}
use Rattle.bbt.specs.Entries.{updated_byte, updated_bytes, updated_entry}
use Rattle.examples.specs.ThreeHistories.{chip8, old_table, new_table, RunsTo, FailsTo, Examples}
use Rattle.bbt.specs.Failures.{other_block, moved, moved_to, block_fails, step_fails, failure, failures}
use Rattle.bbt.specs.Histories.{OthersKept, Written, Last, one_table, NewPrimary, Snapshot, pending, closed, as_planned, as_closed, was_complete, was_not, snapshot, with_failed, answer, asked, empty, holding, world, update_planned, recovery_planned, step_done, step_cut, step_failed, History, start, next}
use Rattle.bbt.specs.Images.{page-image, chunk, image_at, image_data, image_tail, part_image, page_image, plan_image}
use Rattle.bbt.specs.Lent.{lent_plan, planned, region_lent, statuses_right}
use Rattle.bbt.specs.Pages.{all, bad_mark, bad_page, kind_of, kind_of_word, page_bytes, page_of, same_kind, seen, zero_oob}
use Rattle.bbt.specs.Pairs.{both_case, case_of, compared, difference, pair_case, same, signed_of}
use Rattle.bbt.specs.Plans.{erase, write, zeros, single, double, Plan, fresh, plan, writes, copy_steps, job_steps, steps_of, step_at, holds, read_case, reading, next_version, updated, update_from, update, member, target, recover_to, recover_newer, recover_case, recovery, Call, for_update, for_recovery, plan_by_rules}
use Rattle.bbt.specs.Possible.{Bytes}
use Rattle.bbt.specs.Regions.{Region, view, status_at, bytes_at, Blank, Complete, Zeroed, Lost, Kept}
use Rattle.bbt.proofs.LeftPages.{Judged, judge}
use Rattle.bbt.proofs.Planning.{asked_is}
use Rattle.bbt.proofs.Searches.{all_at, same_refl, same_eq}
use Rattle.bbt.proofs.AllBytes.{below_replicate, bytes_append, bytes_replicate, image_bytes}

ok8 : Judged chip8
unfolding chip_of is_blocks is_region
ok8 = judge 8 4 chip8 refl

-- ---- pages and regions
blank : Bytes 2112 (replicate 2112 255)
blank = record { as_many = length-replicate {A = ℕ} 2112 255; below_256 = bytes_replicate 2112 }

-- a page that a cut or failed write has left
torn : Bytes 2112 (replicate 2112 85)
torn = record { as_many = length-replicate {A = ℕ} 2112 85; below_256 = below_replicate 2112 85 256 (lit< tt) }

-- the same with zeros in its OOB bytes
retired : Bytes 2112 (replicate 2048 85 ++ replicate 64 0)
retired = record {
  as_many = length-append {A = ℕ} (replicate 2048 85) (replicate 64 0);
  below_256 = bytes_append (replicate 2048 85) (replicate 64 0) (below_replicate 2048 85 256 (lit< tt)) (below_replicate 64 0 256 (lit< tt));
}

pub of_old : (k : Kind) → Bytes 2112 (page_image k old_table 0)
of_old k = image_bytes k old_table 0 (record { version_below = lit< tt; bitmap-bytes = each })
  where
    each : (i : ℕ) → get_or (255 ∷ 255 ∷ []) i 0 < 256
    each zero = lit< tt
    each (suc zero) = lit< tt
    each (suc (suc i)) = lit< tt

of_new : (k : Kind) → Bytes 2112 (page_image k new_table 0)
of_new k = image_bytes k new_table 0 (record { version_below = lit< tt; bitmap-bytes = each })
  where
    each : (i : ℕ) → get_or (127 ∷ 255 ∷ []) i 0 < 256
    each zero = lit< tt
    each (suc zero) = lit< tt
    each (suc (suc i)) = lit< tt

pub first_bit : (x : ℕ) → x < 2 → (i : ℕ) → get_or (x ∷ 0 ∷ 0 ∷ 0 ∷ []) i 0 < 2
first_bit x h zero = h
first_bit x h (suc zero) = lit< tt
first_bit x h (suc (suc zero)) = lit< tt
first_bit x h (suc (suc (suc zero))) = lit< tt
first_bit x h (suc (suc (suc (suc i)))) = lit< tt

-- four blocks of a page each; x is the first block's status, the others read well
abbrev pub region : (x : ℕ) → x < 2 → {a b c d : List ℕ} → Bytes 2112 a → Bytes 2112 b → Bytes 2112 c → Bytes 2112 d → Region chip8
region x hx {a} {b} {c} {d} ha hb hc hd = record {
  image = a ++ (b ++ (c ++ d));
  status = x ∷ 0 ∷ 0 ∷ 0 ∷ [];
  image_length = omega (
    arith,
    length-append a (b ++ (c ++ d)),
    length-append b (c ++ d),
    length-append c d,
    ha.as_many,
    hb.as_many,
    hc.as_many,
    hd.as_many,
  );
  status_length = refl;
  image_bytes = bytes_append a (b ++ (c ++ d)) ha.below_256 (bytes_append b (c ++ d) hb.below_256 (bytes_append c d hc.below_256 hd.below_256));
  status_bits = first_bit x hx;
}

-- the pair in blocks 0 and 1
abbrev r0 : Region chip8
r0 = region 0 (lit< tt) (of_old Primary) (of_old Mirror) blank blank

-- block 0 erased
abbrev r1 : Region chip8
r1 = region 0 (lit< tt) blank (of_old Mirror) blank blank

-- its page cut and unreadable; then the primary written to block 3
abbrev cut_old : Region chip8
cut_old = region 1 (lit< tt) torn (of_old Mirror) blank blank

abbrev end_old : Region chip8
end_old = region 1 (lit< tt) torn (of_old Mirror) blank (of_old Primary)

-- its page cut and complete; then block 1 erased, and the mirror written there
abbrev cut_new : Region chip8
cut_new = region 0 (lit< tt) (of_new Primary) (of_old Mirror) blank blank

abbrev wiped_new : Region chip8
wiped_new = region 0 (lit< tt) (of_new Primary) blank blank blank

abbrev end_new : Region chip8
end_new = region 0 (lit< tt) (of_new Primary) (of_new Mirror) blank blank

-- its page failed and unreadable, as above; then it gets zeros, the primary is written to block 3, block 1 erased, and the mirror written there
abbrev zeroed : Region chip8
zeroed = region 1 (lit< tt) retired (of_old Mirror) blank blank

abbrev moved_new : Region chip8
moved_new = region 1 (lit< tt) retired (of_old Mirror) blank (of_new Primary)

abbrev wiped_moved : Region chip8
wiped_moved = region 1 (lit< tt) retired blank blank (of_new Primary)

abbrev end_moved : Region chip8
end_moved = region 1 (lit< tt) retired (of_new Mirror) blank (of_new Primary)

abbrev wanted : List ℕ
wanted = 127 ∷ 255 ∷ []

-- ---- what is computed: readings, plans, page images
r0_reads : reading chip8 (view r0) ≡ holds 0 1 old_table
unfolding reading read_case pair_case case_of compared both_case difference signed_of find also good all is_page same_kind page_version seen page_of bad_page bad_mark zero_oob page_bytes kind_of kind_of_word same page_image part_image image_data image_tail chunk table parts page_part
r0_reads = refl

old_reads : reading chip8 (view end_old) ≡ holds 3 1 old_table
unfolding reading read_case pair_case case_of compared both_case difference signed_of find also good all is_page same_kind page_version seen page_of bad_page bad_mark zero_oob page_bytes kind_of kind_of_word same page_image part_image image_data image_tail chunk table parts page_part
old_reads = refl

new_reads : reading chip8 (view end_new) ≡ holds 0 1 new_table
unfolding reading read_case pair_case case_of compared both_case difference signed_of find also good all is_page same_kind page_version seen page_of bad_page bad_mark zero_oob page_bytes kind_of kind_of_word same page_image part_image image_data image_tail chunk table parts page_part
new_reads = refl

moved_reads : reading chip8 (view end_moved) ≡ holds 3 1 new_table
unfolding reading read_case pair_case case_of compared both_case difference signed_of find also good all is_page same_kind page_version seen page_of bad_page bad_mark zero_oob page_bytes kind_of kind_of_word same page_image part_image image_data image_tail chunk table parts page_part
moved_reads = refl

update_plan : answer (for_update wanted) (snapshot r0) ≡ plan (fresh (double 0 1 new_table))
unfolding planned chip_of is_blocks is_region lent_plan failures region_lent statuses_right plan_by_rules update update_from updated updated_bytes updated_byte updated_entry next_version reading read_case pair_case case_of compared both_case difference signed_of find also good all is_page same_kind page_version seen page_of bad_page bad_mark zero_oob page_bytes kind_of kind_of_word same page_image part_image image_data image_tail chunk table parts page_part
update_plan = refl

-- made anew: zeros to block 0, and the primary to block 3
abbrev anew : Plan
anew = record { failed = 0 ∷ []; job = double 3 1 new_table }

anew_plan : answer (for_update wanted) (with_failed (snapshot r0) 1) ≡ plan anew
unfolding planned chip_of is_blocks is_region lent_plan failures failure step_fails block_fails moved_to moved other_block step_at job_steps copy_steps writes target highest member reads_bad is_marked region_lent statuses_right plan_by_rules update update_from updated updated_bytes updated_byte updated_entry next_version reading read_case pair_case case_of compared both_case difference signed_of find also good all is_page same_kind page_version seen page_of bad_page bad_mark zero_oob page_bytes kind_of kind_of_word same page_image part_image image_data image_tail chunk table parts page_part
anew_plan = refl

old_plan : answer for_recovery (snapshot cut_old) ≡ plan (fresh (single Primary 3 1 old_table))
unfolding planned chip_of is_blocks is_region lent_plan failures region_lent statuses_right plan_by_rules recovery recover_case recover_to recover_newer target highest member reads_bad is_marked reading read_case pair_case case_of compared both_case difference signed_of find also good all is_page same_kind page_version seen page_of bad_page bad_mark zero_oob page_bytes kind_of kind_of_word same page_image part_image image_data image_tail chunk table parts page_part
old_plan = refl

new_plan : answer for_recovery (snapshot cut_new) ≡ plan (fresh (single Mirror 1 0 new_table))
unfolding planned chip_of is_blocks is_region lent_plan failures region_lent statuses_right plan_by_rules recovery recover_case recover_to recover_newer target highest member reads_bad is_marked reading read_case pair_case case_of compared both_case difference signed_of find also good all is_page same_kind page_version seen page_of bad_page bad_mark zero_oob page_bytes kind_of kind_of_word same page_image part_image image_data image_tail chunk table parts page_part
new_plan = refl

-- the page image of a plan's step
image_is : (a : Snapshot chip8) (call : Call) (q : Plan) (i : ℕ) (l : List ℕ) → answer call a ≡ plan q → image_at (steps_of 1 q) i ≡ page-image l
    → asked call a i ≡ page-image l
unfolding plan_image
image_is a call q i l e f = asked_is ok8 a call i ∙ rw e f

-- ---- every page but that of block z is kept
unfoldable pub keeps_others : Region chip8 → Region chip8 → ℕ → Bool
keeps_others r s z = all 4 (λ b. eqb b z || (eqb (status_at s b 0) (status_at r b 0) && same (bytes_at s b 0) (bytes_at r b 0)))

kept_by : (r s : Region chip8) (z : ℕ) → keeps_others r s z ≡ true → (b p : ℕ) → b < 4 → p < 1 → b ≢ z → Kept r s b p
unfolding keeps_others
kept_by r s z e b (suc p) hb hp ne = absurd (omega arith)
kept_by r s z e b zero hb hp ne =
    let x : Bool = eqb (status_at s b 0) (status_at r b 0) in
    let y : Bool = same (bytes_at s b 0) (bytes_at r b 0) in
    let h : (eqb b z || (x && y)) ≡ true = all_at 4 (λ b. eqb b z || (eqb (status_at s b 0) (status_at r b 0) && same (bytes_at s b 0) (bytes_at r b 0))) e b hb in
    let both : (x && y) ≡ true = rw (ne_eqb b z ne) at h in
    record { same_status = eqb-true (status_at s b 0) (status_at r b 0) (both_left x y both); same_bytes = same_eq (bytes_at s b 0) (bytes_at r b 0) (both_right x y both) }

pub others_erased : (r s : Region chip8) (z : ℕ) → keeps_others r s z ≡ true → OthersKept (erase z) r s
others_erased r s z e b p hb hp n = kept_by r s z e b p hb hp n

others_written : (r s : Region chip8) (z : ℕ) (k : Kind) (t : Table) → keeps_others r s z ≡ true → OthersKept (write z 0 k t) r s
others_written r s z k t e b zero hb hp n = kept_by r s z e b 0 hb hp (λ h. n (h, refl))
others_written r s z k t e b (suc p) hb hp n = absurd (omega arith)

others_zeroed : (r s : Region chip8) (z : ℕ) → keeps_others r s z ≡ true → OthersKept (zeros z) r s
others_zeroed r s z e = others_written r s z Primary new_table e

r0_r1 : keeps_others r0 r1 0 ≡ true
unfolding keeps_others all same page_bytes page_image part_image image_data image_tail chunk
r0_r1 = refl

r1_cut_old : keeps_others r1 cut_old 0 ≡ true
unfolding keeps_others all same page_bytes page_image part_image image_data image_tail chunk
r1_cut_old = refl

cut_old_cut_old : keeps_others cut_old cut_old 3 ≡ true
unfolding keeps_others all same page_bytes page_image part_image image_data image_tail chunk
cut_old_cut_old = refl

cut_old_end_old : keeps_others cut_old end_old 3 ≡ true
unfolding keeps_others all same page_bytes page_image part_image image_data image_tail chunk
cut_old_end_old = refl

r1_cut_new : keeps_others r1 cut_new 0 ≡ true
unfolding keeps_others all same page_bytes page_image part_image image_data image_tail chunk
r1_cut_new = refl

cut_new_wiped_new : keeps_others cut_new wiped_new 1 ≡ true
unfolding keeps_others all same page_bytes page_image part_image image_data image_tail chunk
cut_new_wiped_new = refl

wiped_new_end_new : keeps_others wiped_new end_new 1 ≡ true
unfolding keeps_others all same page_bytes page_image part_image image_data image_tail chunk
wiped_new_end_new = refl

cut_old_zeroed : keeps_others cut_old zeroed 0 ≡ true
unfolding keeps_others all same page_bytes page_image part_image image_data image_tail chunk
cut_old_zeroed = refl

zeroed_zeroed : keeps_others zeroed zeroed 3 ≡ true
unfolding keeps_others all same page_bytes page_image part_image image_data image_tail chunk
zeroed_zeroed = refl

zeroed_moved_new : keeps_others zeroed moved_new 3 ≡ true
unfolding keeps_others all same page_bytes page_image part_image image_data image_tail chunk
zeroed_moved_new = refl

moved_new_wiped_moved : keeps_others moved_new wiped_moved 1 ≡ true
unfolding keeps_others all same page_bytes page_image part_image image_data image_tail chunk
moved_new_wiped_moved = refl

wiped_moved_end_moved : keeps_others wiped_moved end_moved 1 ≡ true
unfolding keeps_others all same page_bytes page_image part_image image_data image_tail chunk
wiped_moved_end_moved = refl

-- ---- pages left by the steps
wiped : (s : Region chip8) (b : ℕ) → Blank s b 0 → (p : ℕ) → p < 1 → Blank s b p
wiped s b h zero l = h
wiped s b h (suc p) l = absurd (omega arith)

r1_blank : Blank r1 0 0
unfolding page_bytes page_image part_image image_data image_tail chunk
r1_blank = record { well = refl; all_ff = refl }

cut_old_blank : Blank cut_old 3 0
unfolding page_bytes page_image part_image image_data image_tail chunk
cut_old_blank = record { well = refl; all_ff = refl }

wiped_new_blank : Blank wiped_new 1 0
unfolding page_bytes page_image part_image image_data image_tail chunk
wiped_new_blank = record { well = refl; all_ff = refl }

zeroed_blank : Blank zeroed 3 0
unfolding page_bytes page_image part_image image_data image_tail chunk
zeroed_blank = record { well = refl; all_ff = refl }

wiped_moved_blank : Blank wiped_moved 1 0
unfolding page_bytes page_image part_image image_data image_tail chunk
wiped_moved_blank = record { well = refl; all_ff = refl }

end_old_complete : Complete end_old 3 0 (page_image Primary old_table 0)
unfolding page_bytes page_image part_image image_data image_tail chunk
end_old_complete = record { well = refl; data_as_asked = refl; oob_as_asked = refl }

cut_new_complete : Complete cut_new 0 0 (page_image Primary new_table 0)
unfolding page_bytes page_image part_image image_data image_tail chunk
cut_new_complete = record { well = refl; data_as_asked = refl; oob_as_asked = refl }

end_new_complete : Complete end_new 1 0 (page_image Mirror new_table 0)
unfolding page_bytes page_image part_image image_data image_tail chunk
end_new_complete = record { well = refl; data_as_asked = refl; oob_as_asked = refl }

moved_new_complete : Complete moved_new 3 0 (page_image Primary new_table 0)
unfolding page_bytes page_image part_image image_data image_tail chunk
moved_new_complete = record { well = refl; data_as_asked = refl; oob_as_asked = refl }

end_moved_complete : Complete end_moved 1 0 (page_image Mirror new_table 0)
unfolding page_bytes page_image part_image image_data image_tail chunk
end_moved_complete = record { well = refl; data_as_asked = refl; oob_as_asked = refl }

end_moved_primary_complete : Complete end_moved 3 0 (page_image Primary new_table 0)
unfolding page_bytes page_image part_image image_data image_tail chunk
end_moved_primary_complete = record { well = refl; data_as_asked = refl; oob_as_asked = refl }

pub zeros_shown : (s : Region chip8) (b : ℕ) → zero_oob (bytes_at s b 0) ≡ true → Zeroed s b 0
unfolding zero_oob
zeros_shown s b e =
    let l : List ℕ = bytes_at s b 0 in
    record { zero-oob = λ j h. eqb-true (get_or l (2048 + j) 0) 0 (all_at 64 (λ j. eqb (get_or l (2048 + j) 0) 0) e j h) }

zeroed_zeros : zero_oob (bytes_at zeroed 0 0) ≡ true
unfolding zero_oob all page_bytes
zeroed_zeros = refl

written : (s : Region chip8) (b : ℕ) (a : Snapshot chip8) (call : Call) (q : Plan) (i : ℕ) (l : List ℕ) → answer call a ≡ plan q
    → image_at (steps_of 1 q) i ≡ page-image l → Complete s b 0 l → Written s b 0 (asked call a i)
written s b a call q i l e f h = record { page = l; given = image_is a call q i l e f; complete = h }

-- ---- the histories
-- planned, and block 0 erased
planned_history : History (world r0 empty (one_table old_table))
    (world r1 (holding (for_update wanted) (snapshot r0) 1 (write 0 0 Primary new_table ∷ erase 1 ∷ write 1 0 Mirror new_table ∷ [])) (pending old_table new_table))
unfolding as_planned job_steps copy_steps writes updated updated_bytes updated_byte updated_entry next_version same
planned_history =
    next (next start (update_planned wanted 0 1 old_table (fresh (double 0 1 new_table)) update_plan r0_reads))
    (step_done r1 (pending old_table new_table) (others_erased r0 r1 0 r0_r1) (wiped r1 0 r1_blank) refl)

cut_old_lost : Lost cut_old 0 0
unfolding page_bytes
cut_old_lost = record { fails = refl; shows = λ z. (0, lit< tt, λ e. let x : ◌≡◌ {A = ℕ} 85 0 = e in omega arith) }

-- no block of a region holds the first page of a new primary
lacks_new : Region chip8 → Bool
lacks_new r = all 4 (λ b. not (eqb (status_at r b 0) 0 && same (drop 2062 (bytes_at r b 0)) (drop 2062 (page_image Primary new_table 0))))

lacks-new : (r : Region chip8) → lacks_new r ≡ true → ¬ NewPrimary r new_table
unfolding lacks_new
lacks-new r e h =
    let b : ℕ = h.block in
    let w = h.whole 0 (lit< tt) in
    let l : List ℕ = drop 2062 (page_image Primary new_table 0) in
    let z : not (eqb (status_at r b 0) 0 && same (drop 2062 (bytes_at r b 0)) l) ≡ true =
    all_at 4 (λ b. not (eqb (status_at r b 0) 0 && same (drop 2062 (bytes_at r b 0)) (drop 2062 (page_image Primary new_table 0)))) e b h.in_region in
    false≢true (rw (w.well, w.oob_as_asked, same_refl l) at z)

cut_old_lacks : lacks_new cut_old ≡ true
unfolding lacks_new all same page_bytes page_image part_image image_data image_tail chunk
cut_old_lacks = refl

keeps_old : RunsTo false 3 1 old_table
unfolding job_steps copy_steps writes image_at
keeps_old = (
  r0,
  end_old,
  snapshot cut_old,
  r0_reads,
  next (next (next (next planned_history
      (step_cut cut_old l (others_written r1 cut_old 0 Primary new_table r1_cut_old) (inr (inr cut_old_lost)) (was_not (lacks-new cut_old cut_old_lacks))))
      (recovery_planned (fresh (single Primary 3 1 old_table)) l old_plan as_closed))
      (step_done cut_old l (others_erased cut_old cut_old 3 cut_old_cut_old) (wiped cut_old 3 cut_old_blank) refl))
      (step_done end_old l (others_written cut_old end_old 3 Primary old_table cut_old_end_old)
      (written end_old 3 (snapshot cut_old) for_recovery (fresh (single Primary 3 1 old_table)) 1 (page_image Primary old_table 0) old_plan refl end_old_complete) as_closed),
  old_reads,
)
  where
    l : Last
    l = closed old_table new_table false

new_in : (r : Region chip8) (b : ℕ) → b < 4 → Complete r b 0 (page_image Primary new_table 0) → NewPrimary r new_table
new_in r b l h = record { block = b; in_region = l; whole = pages }
  where
    pages : (p : ℕ) → p < 1 → Complete r b p (page_image Primary new_table p)
    pages zero l = h
    pages (suc p) l = absurd (omega arith)

keeps_new : RunsTo true 0 1 new_table
unfolding job_steps copy_steps writes image_at
keeps_new = (
  r0,
  end_new,
  snapshot cut_new,
  r0_reads,
  next (next (next (next planned_history
      (step_cut cut_new l (others_written r1 cut_new 0 Primary new_table r1_cut_new)
      (inr (inl (written cut_new 0 (snapshot r0) (for_update wanted) (fresh (double 0 1 new_table)) 1 (page_image Primary new_table 0) update_plan refl cut_new_complete)))
      (was_complete (new_in cut_new 0 (lit< tt) cut_new_complete))))
      (recovery_planned (fresh (single Mirror 1 0 new_table)) l new_plan as_closed))
      (step_done wiped_new l (others_erased cut_new wiped_new 1 cut_new_wiped_new) (wiped wiped_new 1 wiped_new_blank) refl))
      (step_done end_new l (others_written wiped_new end_new 1 Mirror new_table wiped_new_end_new)
      (written end_new 1 (snapshot cut_new) for_recovery (fresh (single Mirror 1 0 new_table)) 1 (page_image Mirror new_table 0) new_plan refl end_new_complete) as_closed),
  new_reads,
)
  where
    l : Last
    l = closed old_table new_table true

-- the plan made anew, in hand after the failed write
failed_history : History (world r0 empty (one_table old_table))
    (world cut_old (holding (for_update wanted) (with_failed (snapshot r0) 1) 0 (steps_of 1 anew)) (pending old_table new_table))
failed_history = next planned_history (step_failed cut_old anew (others_written r1 cut_old 0 Primary new_table r1_cut_old) (inr (inr cut_old_lost)) anew_plan)

moves_on : FailsTo 1 5 3 1 new_table
unfolding job_steps copy_steps writes image_at
moves_on = (
  r0,
  end_moved,
  r0_reads,
  next (next (next (next (next failed_history
      (step_done zeroed l (others_zeroed cut_old zeroed 0 cut_old_zeroed) (zeros_shown zeroed 0 zeroed_zeros) refl))
      (step_done zeroed l (others_erased zeroed zeroed 3 zeroed_zeroed) (wiped zeroed 3 zeroed_blank) refl))
      (step_done moved_new l (others_written zeroed moved_new 3 Primary new_table zeroed_moved_new)
      (written moved_new 3 a (for_update wanted) anew 2 (page_image Primary new_table 0) anew_plan refl moved_new_complete) refl))
      (step_done wiped_moved l (others_erased moved_new wiped_moved 1 moved_new_wiped_moved) (wiped wiped_moved 1 wiped_moved_blank) refl))
      (step_done end_moved (closed old_table new_table true) (others_written wiped_moved end_moved 1 Mirror new_table wiped_moved_end_moved)
      (written end_moved 1 a (for_update wanted) anew 4 (page_image Mirror new_table 0) anew_plan refl end_moved_complete)
      (was_complete (new_in end_moved 3 (lit< tt) end_moved_primary_complete))),
  moved_reads,
)
  where
    l : Last
    l = pending old_table new_table

    a : Snapshot chip8
    a = with_failed (snapshot r0) 1

pub examples : Examples
examples = (keeps_old, keeps_new, moves_on)
