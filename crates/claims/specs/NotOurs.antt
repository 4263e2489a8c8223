-- Document 02, T-04, as a sentence about the bytes of ream_spare_read and ream_page_read: both refuse a spare with 51, 52 or 53 exactly when the
-- reason of that number holds (`Why`, crate spare), whatever the page's data is, and then change no lent byte.
use Rattle.std.specs.Prelude.{List, ◌≡◌, ℕ, length}
use Rattle.chip.specs.declared.Refusal.TheVariants.{Erased, NotOurs, NotOursRepaired}
use Rattle.reamsickle.specs.Boundary.{spare_code, spare_fields_after, page_code, page_data_after, page_fields_after}
use Rattle.spare.specs.WhyNotOurs.{Why}

module _ (bytes spare fields : List ℕ) where
  -- both entries refuse with a number alone, and nothing is changed
  pub record BothRefuse (n : ℕ) : Type 0 where
    pub spare_answered : spare_code spare fields ≡ n
    pub page_answered : page_code bytes spare fields ≡ n
    pub spare_fields : spare_fields_after spare fields ≡ fields
    pub page_fields : page_fields_after bytes spare fields ≡ fields
    pub page_data : page_data_after bytes spare fields ≡ bytes

  -- and they do so exactly when a reason holds
  pub record ExactlyWhen (n : ℕ) (reason : Type 0) : Type 0 where
    pub refused : reason → BothRefuse n
    pub spare_only : spare_code spare fields ≡ n → reason
    pub page_only : page_code bytes spare fields ≡ n → reason

-- of any spare, with any 512 data bytes and any room for the fields
abbrev pub NotOursInC : Type 0
NotOursInC =
    (bytes spare fields : List ℕ) → length bytes ≡ 512 → length fields ≡ 11
    → ExactlyWhen bytes spare fields 51 (Why spare Erased)
    × ExactlyWhen bytes spare fields 52 (Why spare NotOurs)
    × ExactlyWhen bytes spare fields 53 (Why spare NotOursRepaired)
