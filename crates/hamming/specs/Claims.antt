-- Document 01, "Protected word", and the part of demand 2 that rests on it: what the word protects.
use Rattle.std.specs.Prelude.{true, ◌≡◌, ℕ, ◌<◌, ◌^◌}
use Rattle.std.specs.Int.Bits.{bit_xor}
use Rattle.hamming.specs.declared.Repair.TheVariants.{Clean}
use Rattle.hamming.specs.Word.{encoded, decoded, is_repair}

-- a used bit of a word: any but bit 5
pub record Used (k : ℕ) : Type 0 where
  pub in_word : k < 32
  pub not_unused : k ≡ 5 → ⊥

-- a word with bit k flipped
abbrev pub flipped : ℕ → ℕ → ℕ
flipped k word = bit_xor word (2 ^ k)

pub record Protects : Type 0 where
  -- what is encoded decodes clean to the same 26 bits
  pub clean : (bits : ℕ) → bits < 2 ^ 26 → decoded (encoded bits) ≡ record { bits = bits; repair = Clean }
  -- any one used bit flipped decodes to the same 26 bits, with a repair
  pub one : (bits k : ℕ) → bits < 2 ^ 26 → Used k
      → ((decoded (flipped k (encoded bits))).bits ≡ bits) × (is_repair (decoded (flipped k (encoded bits))).repair ≡ true)
  -- two used bits flipped come out wrong
  pub two : (bits j k : ℕ) → bits < 2 ^ 26 → Used j → Used k → (j ≡ k → ⊥)
      → (decoded (flipped j (flipped k (encoded bits)))).bits ≡ bits → ⊥
  -- bit 5 is ignored
  pub unused : (word : ℕ) → decoded (flipped 5 word) ≡ decoded word
