-- Document 01, "Examples by number": those with a star, as one statement over one table; pairs that a region of one size holds and of another
-- does not; and boot blocks with their map.
use Rattle.std.specs.Prelude.{cond, List, [], ◌∷◌, ◌++◌, ◌≡◌, ℕ, zero, suc, ◌+◌, ◌*◌, ◌-◌, eqb, ℤ, pos, length, get_or, replicate, set, take, Some, Ok}
use Rattle.bbt.specs.Copies.{Table}
use Rattle.bbt.specs.Entries.{entry_of}
use Rattle.bbt.specs.Images.{page_image}
use Rattle.bbt.specs.Pages.{View}
use Rattle.bbt.specs.Pairs.{difference, compared}
use Rattle.bbt.specs.Plans.{refuse, recover_case}
use Rattle.bbt.specs.declared.Kind.TheVariants.{Primary, Mirror}
use Rattle.boot.specs.Answers.{list_by, map_told}
use Rattle.boot.specs.Counting.{counted_by}
use Rattle.boot.specs.Mapping.{Blocks, list_of, map_of}
use Rattle.boot.specs.declared.Listing.{Listing}
use Rattle.boot.specs.declared.Listing.TheVariants.{ToMap, ToErase}
use Rattle.chip.specs.Boot.{path_of, boot_of}
use Rattle.chip.specs.declared.LargeChip.{LargeChip}
use Rattle.chip.specs.declared.Refusal.TheVariants.{Opposite}
use Rattle.ecc.specs.Half.{code_of}
use Rattle.spare.specs.Tags.{tags, nearest}
use Rattle.spare.specs.Writing.{spare_of}
use Rattle.spare.specs.Status.{status_of}
use Rattle.reamsickle.specs.Boundary.{code_bytes, spare_code}
use Rattle.reamsickle.specs.LargeBoundary.{table_code}

-- what is given, and what comes of it
pub data Example : Type 0 where
  -- a half, and its stored code
  half : List ℕ → List ℕ → Example
  -- a boot number and its generation, and their path
  boot : ℕ → ℕ → ℕ → Example
  -- a path, and bytes 0-3 of the spare
  path : ℕ → List ℕ → Example
  -- a count, and bytes 6, 7, 11, 12 of the spare
  count : ℕ → List ℕ → Example
  -- a stored tag byte, and the tag it stands for
  tag : ℕ → ℕ → Example
  -- a stored tag byte that stands for none, and the refusal of a spare with it
  no_tag : ℕ → ℕ → Example
  -- a byte of a bitmap, and the entries of its four blocks
  entries : ℕ → List ℕ → Example
  -- the versions of primary and mirror, and their d
  versions : ℕ → ℕ → ℤ → Example
  -- the versions of primary and mirror for which recovery answers refusal 9
  opposite : ℕ → ℕ → Example
  -- the chip blocks of primary and mirror, a size of the region, and what ream_table_read answers
  pair : ℕ → ℕ → ℕ → ℕ → Example
  -- the paths of boot blocks, the number and the values that their map answers, and the bytes that it writes to either list
  boots : List ℕ → ℕ × List ℕ → List ℕ → List ℕ → Example

abbrev pub count_bytes : List ℕ → List ℕ
count_bytes s = get_or s 6 0 ∷ get_or s 7 0 ∷ get_or s 11 0 ∷ get_or s 12 0 ∷ []

abbrev pub four_entries : List ℕ → List ℕ
four_entries bitmap = entry_of bitmap 0 ∷ entry_of bitmap 1 ∷ entry_of bitmap 2 ∷ entry_of bitmap 3 ∷ []

abbrev pub versioned : ℕ → List ℕ → Table
versioned v bitmap = record { version = v; bitmap = bitmap }

-- the table of a pair on a chip of 16 blocks, all of them good
abbrev pub all_good : Table
all_good = versioned 1 (replicate 4 0xFF)

-- a block that holds the primary, the mirror, or nothing: P is 1
abbrev pub block_of : ℕ → ℕ → ℕ → List ℕ
block_of primary mirror b =
    cond (eqb b primary) (page_image Primary all_good 0) (cond (eqb b mirror) (page_image Mirror all_good 0) (replicate 2112 0xFF))

-- the image of the last blocks of such a chip, as many as the region has
unfoldable pub last_blocks : ℕ → ℕ → ℕ → List ℕ
last_blocks primary mirror zero = []
last_blocks primary mirror (suc k) = block_of primary mirror (15 - k) ++ last_blocks primary mirror k

-- blocks that count, with these paths
abbrev pub counting : List ℕ → Blocks
counting ps b = counted_by (boot_of (get_or ps b 0))

-- the bytes that their map writes to a list
abbrev pub list_written : Listing → List ℕ → List ℕ
list_written l ps = list_by (map_of (counting ps) (length ps)) (list_of l (counting ps) (length ps)) []

-- an example holds; of a path or a count whatever else is written with it, of a tag that is none whatever else a spare of a good block holds, of two versions whatever the bitmaps and the blocks
abbrev pub Holds : Example → Type 0
Holds (half bytes code) = code_bytes (code_of bytes) ≡ code
Holds (boot number generation p) = path_of number generation ≡ Ok p
Holds (path p bytes) = (page : List ℕ) (t c : ℕ) → take 4 (spare_of page t p c) ≡ bytes
Holds (count c bytes) = (page : List ℕ) (t p : ℕ) → count_bytes (spare_of page t p c) ≡ bytes
Holds (tag b t) = nearest tags b ≡ Some t
Holds (no_tag b refusal) = (s fields : List ℕ) → length s ≡ 16 → length fields ≡ 11 → status_of (get_or s 5 0) ≡ Ok tt → get_or s 4 0 ≡ b → spare_code s fields ≡ refusal
Holds (entries byte es) = four_entries (byte ∷ []) ≡ es
Holds (versions p m d) = difference p m ≡ d
Holds (opposite v w) = (chip : LargeChip) (R : View) (x y : List ℕ) (p m : ℕ) → recover_case chip R (compared (versioned v x) (versioned w y) p m) ≡ refuse Opposite
Holds (pair primary mirror size answer) = table_code 16 size (last_blocks primary mirror size) (replicate size 0) (replicate 4 0) ≡ answer
Holds (boots ps told mapped erased) = (map_told (map_of (counting ps) (length ps)) ≡ told) × (list_written ToMap ps ≡ mapped) × (list_written ToErase ps ≡ erased)

abbrev pub All : List Example → Type 0
All [] = Unit {0}
All (x ∷ xs) = Holds x × All xs

-- boot 1 in generations 0 and 3, of which 3 is the older; in 0 and 2; three times; boot 1 alone; and no block
abbrev pub maps : List Example
maps =
    boots (4 ∷ 0 ∷ 7 ∷ []) (0, 2 ∷ 1 ∷ []) (0x00 ∷ 0x01 ∷ 0x00 ∷ 0x02 ∷ []) (0x00 ∷ 0x00 ∷ [])
    ∷ boots (4 ∷ 0 ∷ 6 ∷ []) (13, 1 ∷ []) [] []
    ∷ boots (4 ∷ 0 ∷ 7 ∷ 6 ∷ []) (13, 1 ∷ []) [] []
    ∷ boots (4 ∷ []) (13, 0 ∷ []) [] []
    ∷ boots [] (0, 0 ∷ 0 ∷ []) [] []
    ∷ []

-- a table lying below the stated region is not found: of one copy there, a region of 4 finds the other alone, of two none
abbrev pub sizes : List Example
sizes =
    pair 11 12 5 (0x100 + 0x10000 * 11 + 0x100000000 * 12)
    ∷ pair 11 12 4 10
    ∷ pair 10 11 6 (0x100 + 0x10000 * 10 + 0x100000000 * 11)
    ∷ pair 10 11 4 7
    ∷ maps

abbrev pub table : List Example
table =
    half (replicate 256 0xFF) (0xFF ∷ 0xFF ∷ 0xFF ∷ [])
    ∷ half (replicate 256 0x00) (0xFF ∷ 0xFF ∷ 0xFF ∷ [])
    ∷ half (set (replicate 256 0xFF) 0 0xFE) (0xAA ∷ 0xAA ∷ 0xAB ∷ [])
    ∷ half (set (replicate 256 0xFF) 1 0xFE) (0xA9 ∷ 0xAA ∷ 0xAB ∷ [])
    ∷ path 0 (0x00 ∷ 0x00 ∷ 0x00 ∷ 0x20 ∷ [])
    ∷ path 1 (0x00 ∷ 0x00 ∷ 0x00 ∷ 0x63 ∷ [])
    ∷ boot 1 2 6
    ∷ path 6 (0x00 ∷ 0x00 ∷ 0x01 ∷ 0xA3 ∷ [])
    ∷ count 1 (0x56 ∷ 0x00 ∷ 0x00 ∷ 0x62 ∷ [])
    ∷ tag 0x07 0x06
    ∷ tag 0x00 0x01
    ∷ no_tag 0x55 4
    ∷ entries 0x27 (3 ∷ 1 ∷ 2 ∷ 0 ∷ [])
    ∷ versions 0 255 (pos 1)
    ∷ versions 128 127 (pos 1)
    ∷ opposite 5 133
    ∷ sizes
