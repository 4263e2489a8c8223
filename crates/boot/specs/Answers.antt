-- Document 02, T-01: what is answered for a number of blocks and what is lent with it, and what each lent list holds afterwards. Refusals 2, 1
-- and 13, in this order.
use Rattle.std.specs.Prelude.{Bool, cond, ◌&&◌, List, [], ◌∷◌, ◌++◌, ℕ, ◌*◌, ◌/◌, ◌%◌, eqb, leb, length, drop, Result, Ok, Err}
use Rattle.chip.specs.Refusals.{refusal_number, refusal_detail}
use Rattle.chip.specs.declared.ChipBlock.{ChipBlock}
use Rattle.chip.specs.declared.Refusal.TheVariants.{Length, Range}
use Rattle.boot.specs.declared.Listing.{Listing}
use Rattle.boot.specs.declared.MapCounts.{MapCounts}
use Rattle.boot.specs.declared.MapRefusal.{MapRefusal}
use Rattle.boot.specs.declared.MapRefusal.TheVariants.{OutOfOrder, Refused}
use Rattle.boot.specs.Counting.{block_at}
use Rattle.boot.specs.Mapping.{list_of, map_of}

-- spares of 32 bytes a block, and two lists of two bytes a block
unfoldable pub is_lent : ℕ → List ℕ → List ℕ → List ℕ → Bool
is_lent n spares mapped erased = eqb (length spares) (32 * n) && eqb (length mapped) (2 * n) && eqb (length erased) (2 * n)

-- the number of blocks, up to 1,024; then the lengths; then the map
unfoldable pub map_answer : ℕ → List ℕ → List ℕ → List ℕ → Result MapCounts MapRefusal
map_answer n spares mapped erased =
    cond (leb n 1024) (cond (is_lent n spares mapped erased) (map_of (block_at spares) n) (Err (Refused Length))) (Err (Refused Range))

-- ---- the lists
-- two bytes a block, big endian
unfoldable pub block_bytes : List ChipBlock → List ℕ
block_bytes [] = []
block_bytes (b ∷ more) = b.0 / 256 % 256 ∷ b.0 % 256 ∷ block_bytes more

-- a list that starts with these bytes; places past them keep what they held
abbrev pub starting_with : List ℕ → List ℕ → List ℕ
starting_with bytes list = bytes ++ drop (length bytes) list

-- a lent list afterwards: changed where a map is answered only
abbrev pub list_by : Result MapCounts MapRefusal → List ChipBlock → List ℕ → List ℕ
list_by (Err r) blocks list = list
list_by (Ok c) blocks list = starting_with (block_bytes blocks) list

abbrev pub list_after : Listing → ℕ → List ℕ → List ℕ → List ℕ → List ℕ → List ℕ
list_after l n spares mapped erased list = list_by (map_answer n spares mapped erased) (list_of l (block_at spares) n) list

-- ---- document 02's number of each answer, 0 where nothing is refused, and its values
-- a number that is out of order is new refusal 13
abbrev pub order_number : ℕ
order_number = 13

abbrev pub map_told : Result MapCounts MapRefusal → ℕ × List ℕ
map_told (Ok c) = (0, c.mapped ∷ c.erased ∷ [])
map_told (Err (OutOfOrder k)) = (order_number, k.0 ∷ [])
map_told (Err (Refused r)) = (refusal_number r, refusal_detail r ∷ [])
