-- Document 01, "Large chip": the pages of a region image, and what is seen of a page. Every rule of the region is a function of what is seen.
use Rattle.std.specs.Prelude.{Bool, true, false, cond, ◌&&◌, ◌||◌, List, ℕ, zero, suc, ◌+◌, ◌*◌, ◌-◌, min, eqb, take, drop, get_or}
use Rattle.bits.specs.Bytes.{word}
use Rattle.chip.specs.Large.{bitmap_bytes, pages_of}
use Rattle.chip.specs.declared.LargeChip.{LargeChip}
use Rattle.bbt.specs.declared.Kind.{Kind}
use Rattle.bbt.specs.declared.Kind.TheVariants.{Primary, Mirror, Neither}

-- every number below n passes
unfoldable pub all : ℕ → (ℕ → Bool) → Bool
all zero f = true
all (suc n) f = all n f && f n

-- signatures, as numbers of four bytes: primary 42 62 74 30, mirror 31 74 62 42
unfoldable pub kind_of_word : ℕ → Kind
kind_of_word w = cond (eqb w 0x42627430) Primary (cond (eqb w 0x31746242) Mirror Neither)

abbrev pub kind_word : Kind → ℕ
kind_word Primary = 0x42627430
kind_word Mirror = 0x31746242
kind_word Neither = 0xFFFFFFFF

unfoldable pub same_kind : Kind → Kind → Bool
same_kind Primary Primary = true
same_kind Primary Mirror = false
same_kind Primary Neither = false
same_kind Mirror Primary = false
same_kind Mirror Mirror = true
same_kind Mirror Neither = false
same_kind Neither Primary = false
same_kind Neither Mirror = false
same_kind Neither Neither = true

-- page i of the image, counted over all blocks: its status byte, and its 2,048 + 64 bytes
abbrev pub page_status : List ℕ → ℕ → ℕ
page_status status i = get_or status i 0

unfoldable pub page_bytes : List ℕ → ℕ → List ℕ
page_bytes image i = take 2112 (drop (i * 2112) image)

-- OOB 14-17 of a page's bytes: its signature; OOB 18: its version
unfoldable pub kind_of : List ℕ → Kind
kind_of l = kind_of_word (word (get_or l 2062 0) (get_or l 2063 0) (get_or l 2064 0) (get_or l 2065 0))

abbrev pub version_of : List ℕ → ℕ
version_of l = get_or l 2066 0

-- the bytes of page p that belong to the bitmap: all but the last page's rest
abbrev pub part_length : LargeChip → ℕ → ℕ
part_length chip p = min 2048 (bitmap_bytes chip - 2048 * p)

-- what is seen of a page: it is unreadable, it marks its block as bad, or it reads with a signature, a version and its part of the bitmap
pub data Page : Type 0 where
  unreadable : Page
  marked : Page
  reads : Kind → ℕ → List ℕ → Page

-- a page reads well, has neither signature, and OOB byte 0 is 0
unfoldable pub bad_mark : ℕ → List ℕ → Bool
bad_mark s l = eqb s 0 && (same_kind (kind_of l) Neither && eqb (get_or l 2048 0) 0)

-- a page shows 64 zero OOB bytes
unfoldable pub zero_oob : List ℕ → Bool
zero_oob l = all 64 (λ j. eqb (get_or l (2048 + j) 0) 0)

-- readable as bad (document 01's own term): the first page has that mark, or shows 64 zero OOB bytes whatever its read status
unfoldable pub bad_page : ℕ → ℕ → List ℕ → Bool
bad_page p s l = eqb p 0 && (bad_mark s l || zero_oob l)

-- of page p of a block, by its status byte and its bytes
unfoldable pub page_of : LargeChip → ℕ → ℕ → List ℕ → Page
page_of chip p s l = cond (bad_page p s l) marked (cond (eqb s 0) (reads (kind_of l) (version_of l) (take (part_length chip p) l)) unreadable)

-- a region's pages, by region block and page
abbrev pub View : Type 0
View = ℕ → ℕ → Page

-- what is seen of a lent image with its status bytes: the first P pages of each block, lowest block first
unfoldable pub seen : LargeChip → List ℕ → List ℕ → View
seen chip image status b p = page_of chip p (page_status status (b * pages_of chip + p)) (page_bytes image (b * pages_of chip + p))
