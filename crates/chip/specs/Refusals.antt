-- Document 01, "Refusal numbers": the number of each refusal, and what comes with it.
use Rattle.std.specs.Prelude.{◌≡◌, ℕ, ◌<◌}
use Rattle.chip.specs.declared.BadKind.{BadKind}
use Rattle.chip.specs.declared.BadKind.TheVariants.{Factory, Late}
use Rattle.chip.specs.declared.Half.{Half}
use Rattle.chip.specs.declared.Half.TheVariants.{First, Second}
use Rattle.chip.specs.declared.Refusal.{Refusal}
use Rattle.chip.specs.declared.Refusal.TheVariants.{Length, Range, BadBlock, Tag, Erased, NotOurs, NotOursRepaired, Unrepairable, NoCopy, SeveralCopies, Opposite, NotSettled, NoTarget, ZeroFailed}

-- the number in the table; 51, 52 and 53 in place of 5 are document 02's (T-04), and so is 12 (T-07)
abbrev pub refusal_number : Refusal → ℕ
refusal_number Length = 1
refusal_number Range = 2
refusal_number (BadBlock k) = 3
refusal_number Tag = 4
refusal_number Erased = 51
refusal_number NotOurs = 52
refusal_number NotOursRepaired = 53
refusal_number (Unrepairable h) = 6
refusal_number NoCopy = 7
refusal_number SeveralCopies = 8
refusal_number Opposite = 9
refusal_number NotSettled = 10
refusal_number NoTarget = 11
refusal_number ZeroFailed = 12

-- 3 with factory (1) or late (2)
abbrev pub bad_number : BadKind → ℕ
bad_number Factory = 1
bad_number Late = 2

-- 6 with the half, 1 or 2
abbrev pub half_number : Half → ℕ
half_number First = 1
half_number Second = 2

-- what comes with the number; 0 where it comes alone
abbrev pub refusal_detail : Refusal → ℕ
refusal_detail Length = 0
refusal_detail Range = 0
refusal_detail (BadBlock k) = bad_number k
refusal_detail Tag = 0
refusal_detail Erased = 0
refusal_detail NotOurs = 0
refusal_detail NotOursRepaired = 0
refusal_detail (Unrepairable h) = half_number h
refusal_detail NoCopy = 0
refusal_detail SeveralCopies = 0
refusal_detail Opposite = 0
refusal_detail NotSettled = 0
refusal_detail NoTarget = 0
refusal_detail ZeroFailed = 0

-- a caller can tell refusals apart
pub record ToldApart : Type 0 where
  -- no number is 0, which says that a call was answered, and each fits a byte
  pub above : (r : Refusal) → 0 < refusal_number r
  pub byte : (r : Refusal) → refusal_number r < 256
  -- no two have the same number and the same beside it
  pub apart : (r q : Refusal) → refusal_number r ≡ refusal_number q → refusal_detail r ≡ refusal_detail q → r ≡ q
