-- Document 02, T-04: what became of refusal 5. Three refusals stand in its place, each with a reason of its own.
use Rattle.std.specs.Prelude.{Bool, true, false, List, ◌≡◌, ℕ, ◌<◌, length, get_or, replicate, Some, Ok, Err}
use Rattle.chip.specs.Refusals.{refusal_number}
use Rattle.chip.specs.declared.Refusal.{Refusal}
use Rattle.chip.specs.declared.Refusal.TheVariants.{Erased, NotOurs, NotOursRepaired}
use Rattle.hamming.specs.Word.{decoded, is_repair}
use Rattle.spare.specs.Reading.{count_word, magic_of, spare_answer}
use Rattle.spare.specs.Status.{status_of}
use Rattle.spare.specs.Tags.{tags, nearest}

-- what document 01 refuses with 5: refusals 1, 3 and 4 are not met, and the repaired magic is not 56 hex
pub record WrongMagic (s : List ℕ) : Type 0 where
  pub sixteen : length s ≡ 16
  pub good : status_of (get_or s 5 0) ≡ Ok tt
  pub tag : ℕ
  pub tagged : nearest tags (get_or s 4 0) ≡ Some tag
  pub wrong : magic_of (decoded (count_word s)).bits ≡ 0x56 → ⊥

-- all 16 spare bytes are FF
abbrev pub AllFF : List ℕ → Type 0
AllFF s = s ≡ replicate 16 0xFF

-- the count word was repaired
abbrev pub was_repaired : List ℕ → Bool
was_repaired s = is_repair (decoded (count_word s)).repair

-- 51, tested first; 52: the count word needed no repair and its magic is wrong; 53: it was repaired and the magic is still wrong
pub data Why (s : List ℕ) : Refusal → Type 0 where
  erased : AllFF s → Why s Erased
  not_repaired : WrongMagic s → (AllFF s → ⊥) → was_repaired s ≡ false → Why s NotOurs
  repaired : WrongMagic s → was_repaired s ≡ true → Why s NotOursRepaired

-- of any bytes
pub record SplitsFive (s : List ℕ) : Type 0 where
  -- together they are exactly the former 5
  pub one_of_three : WrongMagic s → (r : Refusal) × Why s r
  pub nothing_more : (r : Refusal) → Why s r → WrongMagic s
  -- they exclude each other
  pub exclusive : (r q : Refusal) → Why s r → Why s q → r ≡ q
  -- a spare is refused with each exactly when its reason holds; no other refusal of a spare has a number above 50
  pub told : (r : Refusal) → Why s r → spare_answer s ≡ Err r
  pub only : (r : Refusal) → 50 < refusal_number r → spare_answer s ≡ Err r → Why s r
