-- Document 02, T-02, as a sentence about the bytes of ream_first_bitmap: the entry of block b by bytes 2b and 2b + 1 of the marks, OOB byte 0 of
-- its first and of its second page; and the marks of first pages alone are refused.
use Rattle.std.specs.Prelude.{List, ◌≡◌, ℕ, ◌+◌, ◌*◌, ◌/◌, ◌<◌, length, get_or, Ok}
use Rattle.bbt.specs.Entries.{entry_of}
use Rattle.chip.specs.Large.{chip_of}
use Rattle.chip.specs.declared.LargeChip.{LargeChip}
use Rattle.factory.specs.FirstBitmap.{first_after}
use Rattle.reamsickle.specs.LargeBoundary.{first_code}

module _ (n size : ℕ) (marks room : List ℕ) where
  -- an entry is 00 when either mark is 0, otherwise 11
  pub record FirstEntries : Type 0 where
    pub answered : first_code n size marks room ≡ 0
    pub by_first_page : (b : ℕ) → b < n → get_or marks (2 * b) 0 ≡ 0 → entry_of (first_after n size marks room) b ≡ 0
    pub by_second_page : (b : ℕ) → b < n → get_or marks (2 * b + 1) 0 ≡ 0 → entry_of (first_after n size marks room) b ≡ 0
    pub unmarked : (b : ℕ) → b < n → (get_or marks (2 * b) 0 ≡ 0 → ⊥) → (get_or marks (2 * b + 1) 0 ≡ 0 → ⊥)
        → entry_of (first_after n size marks room) b ≡ 3

  -- refusal 1, and nothing is changed
  pub record TooFew : Type 0 where
    pub refused : first_code n size marks room ≡ 1
    pub unchanged : first_after n size marks room ≡ room

-- of any chip
abbrev pub FirstBitmapInC : Type 0
FirstBitmapInC =
    (n size : ℕ) (chip : LargeChip) → chip_of n size ≡ Ok chip → (marks room : List ℕ)
    → (length marks ≡ 2 * n → length room ≡ n / 4 → FirstEntries n size marks room) × (length marks ≡ n → TooFew n size marks room)
