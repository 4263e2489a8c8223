-- The starred examples hold: antt computes each. The bytes of a path or a count are those of its protected word.
-- Assumes nothing.
use Rattle.std.specs.Prelude.{None}
use mathlib.Core.List.{List}
use mathlib.Core.Path.{◌≡◌, refl}
use Prim.Native.Nat.{ℕ}
use lib.Count.{ones, ones_in}
use Rattle.bbt.specs.Copies.{also, find, good, is_page, page_part, page_version, parts, table as bitmapTable}
use Rattle.bbt.specs.Images.{chunk, image_data, image_tail, part_image, page_image}
use Rattle.bbt.specs.Lent.{region_lent, statuses_right, lent_reading, table_reading}
use Rattle.bbt.specs.Pages.{all, bad_page, bad_mark, zero_oob, kind_of, kind_of_word, page_bytes, page_of, same_kind, seen}
use Rattle.bbt.specs.Pairs.{same, signed_of, difference, both_case, compared, case_of, pair_case}
use Rattle.bbt.specs.Plans.{read_case, reading, recover_case}
use Rattle.bits.specs.Bits.{bit, number, parity_of}
use Rattle.bits.specs.Bytes.{word_bytes}
use Rattle.boot.specs.Answers.{block_bytes}
use Rattle.boot.specs.Mapping.{copies, standing, above, first_not, smallest_out, listed, list_of, map_of}
use Rattle.chip.specs.Boot.{path_of, boot_of}
use Rattle.chip.specs.Large.{chip_of, is_blocks, is_region}
use Rattle.ecc.specs.Half.{place_bit, counts, parity, code_bit, code_from}
use Rattle.hamming.specs.Word.{not_powers, house_numbers, check_bit, check_bits, encoded}
use Rattle.examples.specs.Starred.{Holds, path, count, no_tag, All, maps, sizes, last_blocks, table}
use Rattle.spare.specs.Reading.{spare_answer}
use Rattle.spare.specs.Tags.{tags, nearest}
use Rattle.spare.specs.Writing.{spare_of, magic_and_count}
use Rattle.table.specs.Tables.{table_answer}
use Rattle.reamsickle.specs.Boundary.{spare_code}
use Rattle.reamsickle.specs.LargeBoundary.{table_code}
use borrow.Author.Tests.{eq-eqb}
use lib.ListN.{length}

path_bytes : (p : ℕ) (bytes : List ℕ) → word_bytes (encoded p) ≡ bytes → Holds (path p bytes)
unfolding spare_of
path_bytes p bytes e page t c = e

count-bytes : (c : ℕ) (bytes : List ℕ) → word_bytes (encoded (magic_and_count c)) ≡ bytes → Holds (count c bytes)
unfolding spare_of
count-bytes c bytes e page t p = e

no_tag_refused : (b : ℕ) → nearest tags b ≡ None → Holds (no_tag b 4)
unfolding spare_code spare_answer
no_tag_refused b e s fields long lf good at =
    rw (eq-eqb (length fields) 11 lf, eq-eqb (length s) 16 long, good, at, e) refl

by_map : All maps
unfolding map_of smallest_out first_not above standing copies list_of listed block_bytes boot_of
by_map = ((refl, refl, refl), ((refl, refl, refl), ((refl, refl, refl), ((refl, refl, refl), ((refl, refl, refl), tt)))))

by_size : All sizes
unfolding table_code table_answer table_reading lent_reading region_lent statuses_right chip_of is_blocks is_region last_blocks reading read_case pair_case case_of compared both_case difference signed_of find also good all is_page same_kind page_version seen page_of bad_page bad_mark zero_oob page_bytes kind_of kind_of_word same page_image part_image image_data image_tail chunk bitmapTable parts page_part
by_size = (refl, (refl, (refl, (refl, by_map))))

pub starred : All table
unfolding recover_case signed_of difference both_case compared bit number parity_of ones ones_in path_of place_bit counts parity code_bit code_from not_powers house_numbers check_bit check_bits encoded nearest
starred =
    (refl, (refl, (refl, (refl, (path_bytes 0 _ refl, (path_bytes 1 _ refl, (refl, (path_bytes 6 _ refl, (count-bytes 1 _ refl, (refl, (refl, (no_tag_refused _ refl, (refl, (refl, (refl, ((λ chip R x y p m. refl), by_size))))))))))))))))
