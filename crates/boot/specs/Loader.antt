-- What the loader relies on: blocks count as what was written to them. Of any blocks, an answered map names for every boot number from 0 to the highest found exactly one block; no
-- block stands in both lists or twice in one; every block that is listed counts, and every one that counts is listed; both lists are in boot
-- order. A refused call names a number that is really missing, doubled wrongly or tripled, and every smaller number is in order.
use Rattle.std.specs.Prelude.{List, ◌++◌, ◌⊎◌, ◌≡◌, ℕ, suc, ◌+◌, ◌*◌, ◌%◌, ◌<◌, ◌≤◌, ◌^◌, length, get_or, Some, Ok, Err}
use Rattle.chip.specs.declared.ChipBlock.{ChipBlock}
use Rattle.spare.specs.Claims.{Writable}
use Rattle.spare.specs.Writing.{spare_of}
use Rattle.boot.specs.Counting.{block_at}
use Rattle.boot.specs.declared.Listing.TheVariants.{ToMap, ToErase}
use Rattle.boot.specs.declared.MapCounts.{MapCounts}
use Rattle.boot.specs.declared.MapRefusal.TheVariants.{OutOfOrder}
use Rattle.boot.specs.Mapping.{Blocks, above, list_of, map_of}

-- the block at place i of a list
abbrev pub placed : List ChipBlock → ℕ → ℕ
placed l i = (get_or l i (record { 0 = 0 })).0

module _ (blocks : Blocks) (n : ℕ) where
  -- block b of the n counts, with boot number k and generation g
  pub record Carries (k b g : ℕ) : Type 0 where
    pub below : b < n
    pub told : blocks b ≡ Some (record { 0 = k }, record { 0 = g })

  -- no block but these carries number k
  abbrev pub Only : ℕ → (ℕ → Type 0) → Type 0
  Only k these = (b g : ℕ) → Carries k b g → these b

  -- number k is in order: one block carries it, or two with generations g and g + 1 modulo 4
  pub data Ordered (k : ℕ) : Type 0 where
    one : (a g : ℕ) → Carries k a g → Only k (λ b. b ≡ a) → Ordered k
    two : (older newer g : ℕ) → Carries k older g → Carries k newer ((g + 1) % 4) → Only k (λ b. (b ≡ older) ⊎ (b ≡ newer)) → Ordered k

  -- it is missing, doubled wrongly or tripled
  pub data Disordered (k : ℕ) : Type 0 where
    missing : Only k (λ b. ⊥) → Disordered k
    doubled : (a b g h : ℕ) → a < b → Carries k a g → Carries k b h → (h ≡ (g + 1) % 4 → ⊥) → (g ≡ (h + 1) % 4 → ⊥) → Disordered k
    tripled : (a b c f g h : ℕ) → a < b → b < c → Carries k a f → Carries k b g → Carries k c h → Disordered k

  -- `above` is one above the highest number found
  pub record Highest : Type 0 where
    pub every : (k b g : ℕ) → Carries k b g → k < above blocks n
    pub found : (k : ℕ) → above blocks n ≡ suc k → (b : ℕ) × (g : ℕ) × Carries k b g

  -- the blocks that are mapped, and those that are to be erased
  abbrev pub mapped_list : List ChipBlock
  mapped_list = list_of ToMap blocks n

  abbrev pub erased_list : List ChipBlock
  erased_list = list_of ToErase blocks n

  -- block b is named for erasing, for number k: the newer of the two that carry it
  pub record Newer (k b : ℕ) : Type 0 where
    pub generation : ℕ
    pub older : Carries k (placed mapped_list k) generation
    pub newer : Carries k b ((generation + 1) % 4)

  -- of an answered map
  pub record Reliable (c : MapCounts) : Type 0 where
    -- both counts are the lengths of the lists; a mapped block for each number from 0 to the highest
    pub mapped_count : c.mapped ≡ length mapped_list
    pub erased_count : c.erased ≡ length erased_list
    pub every_number : length mapped_list ≡ above blocks n
    -- no more blocks are listed than there are
    pub fits : length mapped_list + length erased_list ≤ n
    -- place k of the mapped is a block that carries number k, and none that carries another
    pub mapped : (k : ℕ) → k < above blocks n → (g : ℕ) × Carries k (placed mapped_list k) g
    -- a block to erase is the newer of two
    pub erased : (i : ℕ) → i < length erased_list → (k : ℕ) × Newer k (placed erased_list i)
    -- every block that counts stands in one of the lists
    pub all : (k b g : ℕ) → Carries k b g → (b ≡ placed mapped_list k) ⊎ ((i : ℕ) × (i < length erased_list) × (placed erased_list i ≡ b))
    -- the blocks to erase stand in boot order, as the mapped do
    pub order : (i j k m g h : ℕ) → i < j → j < length erased_list → Carries k (placed erased_list i) g → Carries m (placed erased_list j) h → k < m
    -- no block stands twice in a list, or in both
    pub once_mapped : (i j : ℕ) → i < j → j < above blocks n → placed mapped_list i ≡ placed mapped_list j → ⊥
    pub once_erased : (i j : ℕ) → i < j → j < length erased_list → placed erased_list i ≡ placed erased_list j → ⊥
    pub in_one : (i j : ℕ) → i < above blocks n → j < length erased_list → placed mapped_list i ≡ placed erased_list j → ⊥
    -- every number is in order
    pub ordered : (k : ℕ) → k < above blocks n → Ordered k

  -- of a refusal: the number it names
  pub record Named (k : ℕ) : Type 0 where
    pub found : k < above blocks n
    pub few : k < n
    pub disordered : Disordered k
    pub smaller : (j : ℕ) → j < k → Ordered j

  -- what the map answers is one or the other
  pub data Answered : Type 0 where
    map : (c : MapCounts) → map_of blocks n ≡ Ok c → Reliable c → Answered
    refusal : (k : ℕ) → map_of blocks n ≡ Err (OutOfOrder (record { 0 = k })) → Named k → Answered

-- of any blocks, as many as there are
pub record LoaderRelies : Type 0 where
  -- a block whose first and last page were written as those of boot number k, generation g, counts with them
  pub written : (first last : List ℕ) (k g c d : ℕ) → k < 2 ^ 24 → g ≤ 3 → Writable first 0x01 (4 * k + g) c → Writable last 0x01 (4 * k + g) d
      → (before after : List ℕ) (b : ℕ) → length before ≡ 32 * b
      → block_at (before ++ (spare_of first 0x01 (4 * k + g) c ++ (spare_of last 0x01 (4 * k + g) d ++ after))) b ≡ Some (record { 0 = k }, record { 0 = g })
  pub highest : (blocks : Blocks) (n : ℕ) → Highest blocks n
  pub answered : (blocks : Blocks) (n : ℕ) → Answered blocks n
  -- no number is both in order and out of order
  pub either : (blocks : Blocks) (n k : ℕ) → Ordered blocks n k → Disordered blocks n k → ⊥
