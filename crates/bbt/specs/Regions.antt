-- Document 01, "Histories": the table region as bytes on the chip, and what a page of it can be left as.
use Rattle.std.specs.Prelude.{List, ◌≢◌, ◌≡◌, ℕ, ◌+◌, ◌*◌, ◌<◌, length, take, drop, get_or, replicate}
use Rattle.chip.specs.Large.{pages_of, region_pages, region_bytes}
use Rattle.chip.specs.declared.LargeChip.{LargeChip}
use Rattle.bbt.specs.Pages.{View, seen, page_status, page_bytes}

-- a region: its image and its status bytes, of their lengths; status bytes are 0, read well, or 1, unreadable
pub record Region (chip : LargeChip) : Type 0 where
  pub image : List ℕ
  pub status : List ℕ
  pub image_length : length image ≡ region_bytes chip
  pub status_length : length status ≡ region_pages chip
  pub image_bytes : (i : ℕ) → get_or image i 0 < 256
  pub status_bits : (i : ℕ) → get_or status i 0 < 2

-- a page's bytes show an OOB byte that isn't 0
abbrev pub NotZeroed : List ℕ → Type 0
NotZeroed l = (j : ℕ) × (j < 64) × (get_or l (2048 + j) 0 ≢ 0)

module _ {chip : LargeChip} where
  -- what is seen of it: the view that every rule goes by
  abbrev pub view : Region chip → View
  view r = seen chip r.image r.status

  -- page p of region block b: its status byte, and its 2,112 bytes
  abbrev pub status_at : Region chip → ℕ → ℕ → ℕ
  status_at r b p = page_status r.status (b * pages_of chip + p)

  abbrev pub bytes_at : Region chip → ℕ → ℕ → List ℕ
  bytes_at r b p = page_bytes r.image (b * pages_of chip + p)

  module _ (r : Region chip) (b p : ℕ) where
    -- blank: it reads well and is all FF
    pub record Blank : Type 0 where
      pub well : status_at r b p ≡ 0
      pub all_ff : bytes_at r b p ≡ replicate 2112 255

    -- complete: it reads well, and its 2,048 data bytes and OOB 14-63 are as asked; OOB 0-13 may be anything
    pub record Complete (asked : List ℕ) : Type 0 where
      pub well : status_at r b p ≡ 0
      pub data_as_asked : take 2048 (bytes_at r b p) ≡ take 2048 asked
      pub oob_as_asked : drop 2062 (bytes_at r b p) ≡ drop 2062 asked

    -- its 64 OOB bytes are 0; its data bytes and its read status may be anything
    pub record Zeroed : Type 0 where
      pub zero-oob : (j : ℕ) → j < 64 → get_or (bytes_at r b p) (2048 + j) 0 ≡ 0

    -- unreadable, with any bytes
    pub record Unreadable : Type 0 where
      pub fails : status_at r b p ≡ 1

    -- unreadable by an erase or a page write that was cut or failed: a first page then shows an OOB byte that isn't 0 (the request's premise)
    pub record Lost : Type 0 where
      pub fails : status_at r b p ≡ 1
      pub shows : p ≡ 0 → NotZeroed (bytes_at r b p)

  -- kept, from region r to region s: status and bytes are as they were
  pub record Kept (r s : Region chip) (b p : ℕ) : Type 0 where
    pub same_status : status_at s b p ≡ status_at r b p
    pub same_bytes : bytes_at s b p ≡ bytes_at r b p
