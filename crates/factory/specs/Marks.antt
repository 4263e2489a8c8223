-- Marks as the code takes them: those of four blocks at a time, side by side in one number.
use Rattle.std.specs.Prelude.{cond, List, [], ◌∷◌, ℕ, ◌+◌, ◌*◌, eqb, get_or}
use Rattle.bbt.specs.Entries.{entries_byte, mark_entry}

-- the first entries of the four blocks whose marks begin at a place
abbrev pub first_at : List ℕ → ℕ → ℕ
first_at marks at =
    entries_byte (mark_entry (get_or marks at 0) (get_or marks (at + 1) 0)) (mark_entry (get_or marks (at + 2) 0) (get_or marks (at + 3) 0))
    (mark_entry (get_or marks (at + 4) 0) (get_or marks (at + 5) 0)) (mark_entry (get_or marks (at + 6) 0) (get_or marks (at + 7) 0))

-- the number of these bytes, the first one lowest
abbrev pub lowest_first : List ℕ → ℕ
lowest_first [] = 0
lowest_first (a ∷ l) = lowest_first l * 256 + a

-- 1 for a mark that is not 0
abbrev pub flag : ℕ → ℕ
flag mark = cond (eqb mark 0) 0 1
