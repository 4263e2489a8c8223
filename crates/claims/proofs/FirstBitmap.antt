-- What ream_first_bitmap leaves is the first bitmap, whose entries are those of the blocks' marks (`first_entry_lem`, crate `factory`).
-- Assumes nothing.
use Rattle.std.specs.Prelude.{Result, Ok, Err, ⊤}
use mathlib.Core.List.{List}
use mathlib.Core.Path.{◌≡◌, refl, ◌∙◌, ap}
use Prim.Native.Nat.{ℕ, ◌+◌, ◌*◌, ◌/◌, ◌<◌}
use native.Mathlib.Omega.{arith}
use borrow.Author.Tests.{eq-eqb, ne_eqb}
use lib.ListN.{length, get_or}
use Rattle.bits.proofs.Both.{or_true}
use Rattle.bbt.proofs.Raw.{Valid, chip_valid}
use Rattle.bbt.specs.Entries.{entry_of, first_entry, first_bitmap}
use Rattle.chip.specs.Large.{chip_of}
use Rattle.chip.specs.declared.LargeChip.{LargeChip}
use Rattle.chip.specs.declared.Refusal.{Refusal}
use Rattle.chip.specs.declared.Refusal.TheVariants.{Length}
use Rattle.factory.proofs.Entries.{first_entry_lem}
use Rattle.factory.specs.FirstBitmap.{marks_lent, first_answer, first_by, first_after}
use Rattle.reamsickle.specs.Boundary.{code_by}
use Rattle.reamsickle.specs.LargeBoundary.{first_code}
use Rattle.claims.specs.FirstBitmap.{FirstEntries, TooFew, FirstBitmapInC}

module _ (n size : ℕ) (chip : LargeChip) (right : chip_of n size ≡ Ok chip) (marks room : List ℕ) where
  valid : Valid n size chip
  valid = chip_valid n size chip right

  made : length marks ≡ 2 * n → length room ≡ n / 4 → first_answer n size marks room ≡ Ok tt
  unfolding first_answer marks_lent
  made em er = rw right (simp (eq-eqb (length marks) (2 * chip.blocks) (rw valid.blocks em), eq-eqb (length room) (chip.blocks / 4) (rw valid.blocks er)))

  bitmap : length marks ≡ 2 * n → length room ≡ n / 4 → first_after n size marks room ≡ first_bitmap n marks
  unfolding first_after
  bitmap em er = rw (made em er) refl

  entries : length marks ≡ 2 * n → length room ≡ n / 4 → FirstEntries n size marks room
  unfolding first_code
  entries em er =
      let entry : (b : ℕ) → b < n → entry_of (first_after n size marks room) b ≡ first_entry marks b = λ b h. ap (λ (l : List ℕ). entry_of l b) (bitmap em er) ∙ first_entry_lem n marks b valid.right_n.fours h in
      record {
        answered = ap code_by (made em er);
        by_first_page = λ b h z. entry b h ∙ simp (eq-eqb (get_or marks (2 * b) 0) 0 z);
        by_second_page = λ b h z. entry b h ∙ rw (eq-eqb (get_or marks (2 * b + 1) 0) 0 z, or_true) refl;
        unmarked = λ b h z w. entry b h ∙ simp (ne_eqb (get_or marks (2 * b) 0) 0 z, ne_eqb (get_or marks (2 * b + 1) 0) 0 w);
      }

  refused : length marks ≡ n → first_answer n size marks room ≡ Err Length
  unfolding first_answer marks_lent
  refused em = rw right (simp (ne_eqb (length marks) (2 * chip.blocks) (λ e. omega (arith, valid.right_n.least, valid.blocks))))

  too_few : length marks ≡ n → TooFew n size marks room
  unfolding first_code first_after
  too_few em = record { refused = ap code_by (refused em); unchanged = ap (λ (a : Result ⊤ Refusal). first_by a (first_bitmap n marks) room) (refused em) }

pub first_bitmap_in_c : FirstBitmapInC
first_bitmap_in_c n size chip right marks room = (entries n size chip right marks room, too_few n size chip right marks room)
