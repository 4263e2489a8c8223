-- The pair's case of a lent region, on a chip judged from N and the region's size, or the refusal of what was lent.
use Rattle.std.specs.Prelude.{Bool, true, false, ◌&&◌, List, ◌≡◌, ℕ, ◌*◌, ◌<◌, ◌≤◌, eqb, Option, Some, None, Result, Ok, Err}
use Rattle.bbt.specs.Copies.{Found, nowhere, only, several}
use Rattle.bbt.specs.Lent.{on_chip, region_lent, statuses_right, judged}
use Rattle.bbt.specs.Pages.{View, seen, kind_of, version_of, same_kind}
use Rattle.bbt.specs.Pairs.{copies, pair_case}
use Rattle.bbt.specs.Told.{region_block, told_case}
use Rattle.bbt.specs.declared.Kind.{Kind}
use Rattle.bbt.specs.declared.Kind.TheVariants.{Primary, Mirror, Neither}
use Rattle.bbt.specs.declared.PairCase.{PairCase}
use Rattle.chip.specs.Large.{chip_of, bitmap_bytes, pages_of}
use Rattle.chip.specs.declared.LargeChip.{LargeChip}
use Rattle.chip.specs.declared.Refusal.{Refusal}
use Rattle.chip.specs.declared.Refusal.TheVariants.{SeveralCopies}
use Rattle.chip.specs.declared.RegionBlock.{RegionBlock}

-- a chip whose image and status bytes are of these lengths
pub record Fits (chip : LargeChip) (imageLength statusLength : ℕ) : Type 0 where
  pub some_pages : 0 < pages_of chip
  pub few_pages : pages_of chip ≤ 4
  pub few_blocks : chip.region ≤ 7
  pub image : imageLength ≡ chip.region * pages_of chip * 2112
  pub status : statusLength ≡ chip.region * pages_of chip

-- a kind that a copy can be of
abbrev pub is_signed : Kind → Type 0
is_signed k = same_kind k Neither ≡ false

-- a page reads well, with the signature of a kind and a version
unfoldable pub page_matches : Kind → ℕ → ℕ → List ℕ → Bool
page_matches k v s l = eqb s 0 && (same_kind k (kind_of l) && eqb v (version_of l))

-- what was found of a kind, as code tells it: more copies than one are refusal 8
abbrev pub located_by : Found → Result (Option RegionBlock) Refusal
located_by nowhere = Ok None
located_by (only b) = Ok (Some (region_block b))
located_by several = Err SeveralCopies

-- with one block more
abbrev pub also_located : Bool → RegionBlock → Option RegionBlock → Result (Option RegionBlock) Refusal
also_located false b x = Ok x
also_located true b None = Ok (Some b)
also_located true b (Some c) = Err SeveralCopies

-- of both kinds
abbrev pub both_located : Result (Option RegionBlock) Refusal → Result (Option RegionBlock) Refusal → Result (Option RegionBlock × Option RegionBlock) Refusal
both_located (Ok p) (Ok m) = Ok (p, m)
both_located (Ok p) (Err r) = Err r
both_located (Err r) x = Err r

-- the blocks that hold a good copy, of each kind
abbrev pub copies_in : LargeChip → View → Result (Option RegionBlock × Option RegionBlock) Refusal
copies_in chip R = both_located (located_by (copies chip R Primary)) (located_by (copies chip R Mirror))

-- a bitmap's length, where one is lent beside the region, is the chip's
abbrev pub beside_lent : LargeChip → Option ℕ → Bool
beside_lent chip None = true
beside_lent chip (Some n) = eqb n (bitmap_bytes chip)

-- the chip of what was lent: N and the size, lengths, then status bytes are judged
unfoldable pub lent_chip : ℕ → ℕ → Option ℕ → List ℕ → List ℕ → Result LargeChip Refusal
lent_chip n size beside image status =
    on_chip Err (chip_of n size)
    (λ chip. judged Err (region_lent chip image status && beside_lent chip beside) (statuses_right status) (Ok chip))

-- lengths, then status bytes, then the case, beside its chip
unfoldable pub case_on : LargeChip → Option ℕ → List ℕ → List ℕ → Result (LargeChip × Result PairCase Refusal) Refusal
case_on chip beside image status =
    judged Err (region_lent chip image status && beside_lent chip beside) (statuses_right status)
    (Ok (chip, told_case (pair_case chip (seen chip image status))))

-- N and the size first
unfoldable pub lent_case : ℕ → ℕ → Option ℕ → List ℕ → List ℕ → Result (LargeChip × Result PairCase Refusal) Refusal
lent_case n size beside image status = on_chip Err (chip_of n size) (λ chip. case_on chip beside image status)
