-- The premise is needed: the plans and readings of the two regions, and what of one is kept in the other, are computed from their bytes.
-- Assumes nothing.
use mathlib.Core.Bool.{true}
use mathlib.Core.Path.{◌≡◌, refl}
use Prim.Native.Nat.{ℕ}
use lib.Dec.{lit<}
use lib.ListN.{replicate, length-replicate}
use Rattle.chip.specs.Large.{chip_of, is_blocks, is_region}
use Rattle.chip.specs.declared.Refusal.TheVariants.{NoTarget}
use Rattle.bbt.specs.declared.Kind.TheVariants.{Primary, Mirror}
use Rattle.bbt.specs.Copies.{also, find, good, highest, is_marked, is_page, page_part, page_version, parts, reads_bad, table}
use Rattle.bbt.specs.Entries.{updated_byte, updated_bytes, updated_entry}
use Rattle.examples.specs.ThreeHistories.{chip8, old_table, new_table}
use Rattle.bbt.specs.Failures.{failures}
use Rattle.bbt.specs.Histories.{snapshot, answer}
use Rattle.bbt.specs.Images.{chunk, image_data, image_tail, part_image, page_image}
use Rattle.bbt.specs.Lent.{lent_plan, planned, region_lent, statuses_right}
use Rattle.bbt.specs.Pages.{all, bad_mark, bad_page, kind_of, kind_of_word, page_bytes, page_of, same_kind, seen, zero_oob}
use Rattle.bbt.specs.Pairs.{both_case, case_of, compared, difference, pair_case, same, signed_of}
use Rattle.bbt.specs.Plans.{double, fresh, refuse, plan, writes, copy_steps, job_steps, step_at, holds, read_case, reading, next_version, updated, update_from, update, member, target, recover_to, recover_case, recovery, for_update, for_recovery, plan_by_rules}
use Rattle.bbt.specs.Possible.{Bytes}
use Rattle.examples.specs.Premise.{PremiseNeeded}
use Rattle.bbt.specs.Regions.{Region, view, bytes_at}
use Rattle.bbt.proofs.AllBytes.{below_replicate}
use Rattle.examples.proofs.ThreeHistories.{of_old, region, keeps_others, others_erased, zeros_shown}

-- ---- the two regions
bad : Bytes 2112 (replicate 2112 0)
bad = record { as_many = length-replicate {A = ℕ} 2112 0; below_256 = below_replicate 2112 0 256 (lit< tt) }

-- the pair in blocks 0 and 1, the others bad
abbrev before : Region chip8
before = region 0 (lit< tt) (of_old Primary) (of_old Mirror) bad bad

-- block 0 left unreadable, with zeros
abbrev after : Region chip8
after = region 1 (lit< tt) bad (of_old Mirror) bad bad

-- ---- what is computed
before_reads : reading chip8 (view before) ≡ holds 0 1 old_table
unfolding reading read_case pair_case case_of compared both_case difference signed_of find also good all is_page same_kind page_version seen page_of bad_page bad_mark zero_oob page_bytes kind_of kind_of_word same page_image part_image image_data image_tail chunk table parts page_part
before_reads = refl

before_bad_2 : reads_bad (view before) 2 ≡ true
unfolding reads_bad is_marked all same_kind seen page_of bad_page bad_mark zero_oob page_bytes kind_of kind_of_word page_image part_image image_data image_tail chunk
before_bad_2 = refl

before_bad_3 : reads_bad (view before) 3 ≡ true
unfolding reads_bad is_marked all same_kind seen page_of bad_page bad_mark zero_oob page_bytes kind_of kind_of_word page_image part_image image_data image_tail chunk
before_bad_3 = refl

before_plan : answer (for_update new_table.bitmap) (snapshot before) ≡ plan (fresh (double 0 1 new_table))
unfolding planned chip_of is_blocks is_region lent_plan failures region_lent statuses_right plan_by_rules update update_from updated updated_bytes updated_byte updated_entry next_version reading read_case pair_case case_of compared both_case difference signed_of find also good all is_page same_kind page_version seen page_of bad_page bad_mark zero_oob page_bytes kind_of kind_of_word same page_image part_image image_data image_tail chunk table parts page_part
before_plan = refl

before_after : keeps_others before after 0 ≡ true
unfolding keeps_others all same page_bytes page_image part_image image_data image_tail chunk
before_after = refl

after_zeros : zero_oob (bytes_at after 0 0) ≡ true
unfolding zero_oob all page_bytes
after_zeros = refl

after_refused : answer for_recovery (snapshot after) ≡ refuse NoTarget
unfolding planned chip_of is_blocks is_region lent_plan failures region_lent statuses_right plan_by_rules recovery recover_case recover_to target highest member reads_bad is_marked pair_case case_of find also good all is_page same_kind page_version seen page_of bad_page bad_mark zero_oob page_bytes kind_of kind_of_word page_image part_image image_data image_tail chunk
after_refused = refl

pub premise_needed : PremiseNeeded
unfolding job_steps copy_steps writes step_at
premise_needed = (
  before,
  after,
  record {
    pair = before_reads;
    bad_2 = before_bad_2;
    bad_3 = before_bad_3;
    made = fresh (double 0 1 new_table);
    by_plan = before_plan;
    first = refl;
    others_kept = others_erased before after 0 before_after;
    fails = record { fails = refl };
    shows_zeros = zeros_shown after 0 after_zeros;
    no_target = after_refused;
  },
)
