-- What a reader may believe of `digits_of` and `numeral` without reading how they are made. `digits_claim` (proofs/Claim.antt) proves it.
use Rattle.std.specs.Prelude.{ℕ, ◌^◌, ◌<◌, ◌≤◌, ◌≡◌, [], ◌∷◌, length}
use Rattle.text_digits.specs.Digits.{byte_at, digit_of, spelled, digits_of, numeral}

pub record DigitsClaim : Type 0 where
  -- k digits in a base b of 1 to 16: k bytes, each of them a digit, which spell every number below b ^ k
  pub width_length : (b k x : ℕ) → length (digits_of b k x) ≡ k
  pub width_digits : (b k x j : ℕ) → 0 < b → b ≤ 16 → j < k → digit_of (byte_at (digits_of b k x) j) < b
  pub width_spells : (b k x : ℕ) → 0 < b → b ≤ 16 → x < b ^ k → spelled b (digits_of b k x) 0 k ≡ x
  -- in base 16: 16 bytes, each of them a digit, which spell every number below 2 ^ 64
  pub hex_length : (x : ℕ) → length (numeral 16 x) ≡ 16
  pub hex_digits : (x j : ℕ) → j < 16 → digit_of (byte_at (numeral 16 x) j) < 16
  pub hex_spells : (x : ℕ) → x < 2 ^ 64 → spelled 16 (numeral 16 x) 0 16 ≡ x
  -- in base 10: each byte is a digit, and they spell every number below 10 ^ 20
  pub ten_digits : (x j : ℕ) → j < length (numeral 10 x) → digit_of (byte_at (numeral 10 x) j) < 10
  pub ten_spells : (x : ℕ) → x < 10 ^ 20 → spelled 10 (numeral 10 x) 0 (length (numeral 10 x)) ≡ x
  -- with no zero in front; 0 itself is the single digit 0
  pub ten_zero : numeral 10 0 ≡ 48 ∷ []
  pub ten_first : (x : ℕ) → 0 < x → x < 10 ^ 20 → byte_at (numeral 10 x) 0 ≡ 48 → ⊥
