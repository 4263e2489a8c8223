-- Document 02, T-01, as a sentence about the bytes of ream_boot_map: what a loader finds in its answer and in its two lists is the map that it
-- relies on (`LoaderRelies` of the crate boot), and a refused call changes neither list.
use Rattle.std.specs.Prelude.{List, ◌≡◌, ℕ, ◌+◌, ◌*◌, ◌/◌, ◌%◌, ◌<◌, ◌≤◌, ◌^◌, length, get_or, drop}
use Rattle.boot.specs.Answers.{list_after}
use Rattle.boot.specs.Counting.{block_at}
use Rattle.boot.specs.Loader.{placed, Named, Reliable}
use Rattle.boot.specs.Mapping.{list_of}
use Rattle.boot.specs.declared.Listing.{Listing}
use Rattle.boot.specs.declared.Listing.TheVariants.{ToMap, ToErase}
use Rattle.reamsickle.specs.Boundary.{map_code}
use Rattle.claims.specs.Driver.{refusal_in}

-- ---- an answer and a list taken apart: ream_mapped_count, ream_erased_count, ream_detail, ream_boot_block
abbrev pub mapped_in : ℕ → ℕ
mapped_in a = a / 2 ^ 8 % 2 ^ 16

abbrev pub erased_in : ℕ → ℕ
erased_in a = a / 2 ^ 24 % 2 ^ 16

abbrev pub detail_in : ℕ → ℕ
detail_in a = a / 2 ^ 8 % 2 ^ 24

abbrev pub block_in : List ℕ → ℕ → ℕ
block_in list i = 256 * get_or list (2 * i) 0 + get_or list (2 * i + 1) 0

-- the spares and both lists have the lengths that are named for n blocks
pub record Fitting (n : ℕ) (spares mapped erased : List ℕ) : Type 0 where
  pub spare_bytes : length spares ≡ 32 * n
  pub mapped_bytes : length mapped ≡ 2 * n
  pub erased_bytes : length erased ≡ 2 * n

-- a list holds these blocks at its first places, and past them what it held
pub record Holds (list before : List ℕ) (l : Listing) (n count : ℕ) (spares : List ℕ) : Type 0 where
  pub counted : count ≡ length (list_of l (block_at spares) n)
  pub places : (i : ℕ) → i < count → block_in list i ≡ placed (list_of l (block_at spares) n) i
  pub rest : drop (2 * count) list ≡ drop (2 * count) before

-- of any number, spares and lists
module _ (n : ℕ) (spares mapped erased : List ℕ) where
  abbrev pub answer : ℕ
  answer = map_code n spares mapped erased

  abbrev pub mapped_after : List ℕ
  mapped_after = list_after ToMap n spares mapped erased mapped

  abbrev pub erased_after : List ℕ
  erased_after = list_after ToErase n spares mapped erased erased

  -- an answered call: its lists, and what the loader relies on
  pub record Map : Type 0 where
    pub in_mapped : Holds mapped_after mapped ToMap n (mapped_in answer) spares
    pub in_erased : Holds erased_after erased ToErase n (erased_in answer) spares
    pub reliable : Reliable (block_at spares) n (record { mapped = mapped_in answer; erased = erased_in answer })

  -- a refused call: nothing is changed
  pub record Unchanged : Type 0 where
    pub same_mapped : mapped_after ≡ mapped
    pub same_erased : erased_after ≡ erased

  -- refusal 2, then 1; then the map, or refusal 13 with the number that is out of order
  pub data Told : Type 0 where
    range : 1024 < n → answer ≡ 2 → Unchanged → Told
    wrong_length : n ≤ 1024 → (Fitting n spares mapped erased → ⊥) → answer ≡ 1 → Unchanged → Told
    out_of_order : n ≤ 1024 → Fitting n spares mapped erased → refusal_in answer ≡ 13 → Named (block_at spares) n (detail_in answer) → Unchanged → Told
    mapping : n ≤ 1024 → Fitting n spares mapped erased → refusal_in answer ≡ 0 → Map → Told

abbrev pub BootMapInC : Type 0
BootMapInC = (n : ℕ) (spares mapped erased : List ℕ) → Told n spares mapped erased
