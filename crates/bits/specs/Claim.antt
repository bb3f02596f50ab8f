-- What a reader may believe of `double_of` and `bits_of` without reading the format. The fields of a pattern are those of IEEE 754: its sign at
-- 2 ^ 63, then the exponent's field, then the fraction, below 2 ^ 52. Each pattern below 2 ^ 64 that is no NaN's comes back, every NaN's pattern gives
-- the one NaN, whose pattern is 7ff8000000000000, and each double comes back. `bits_claim` (proofs/Claim.antt) proves it.
use Rattle.std.specs.Prelude.{ℕ, suc, ◌+◌, ◌*◌, ◌/◌, ◌%◌, ◌^◌, ◌<◌, ◌≤◌, ◌≡◌, Bool, true, false, T, leb, Float}
use Rattle.std.specs.Float.{inf, binary64}
use Rattle.std.specs.Float.Ieee.{fits}
use Rattle.std.specs.Float.Ieee.Exact.{HasValue}
use Rattle.bits.specs.Bits.{double_of, bits_of}

-- the pattern of infinity, and the pattern that every NaN has; a pattern without its sign is its remainder by 2 ^ 63
abbrev pub infinity_bits : ℕ
infinity_bits = 0x7ff0_0000_0000_0000

abbrev pub nan_pattern : ℕ
nan_pattern = 0x7ff8_0000_0000_0000

-- whether a pattern below 2 ^ 64 has the sign, its exponent's field, and its fraction
abbrev pub negative : ℕ → Bool
negative b = leb (2 ^ 63) b

abbrev pub exponent_field : ℕ → ℕ
exponent_field b = b % (2 ^ 63) / (2 ^ 52)

abbrev pub fraction_field : ℕ → ℕ
fraction_field b = b % (2 ^ 52)

pub record BitsClaim : Type 0 where
  -- the double of a pattern. HasValue x s a c says that x is finite, has the sign s (true: negative) and is a / c in size
  pub without_leading_one : (b : ℕ) → exponent_field b ≡ 0 → HasValue (double_of b) (negative b) (fraction_field b) (2 ^ 1074)
  pub with_leading_one : (b x : ℕ) → exponent_field b ≡ suc x → x < 2046 → HasValue (double_of b) (negative b) ((2 ^ 52 + fraction_field b) * 2 ^ x) (2 ^ 1074)
  pub infinity : double_of infinity_bits ≡ inf false
  pub minus_infinity : double_of (2 ^ 63 + infinity_bits) ≡ inf true
  -- there and back
  pub pattern_back : (b : ℕ) → b < 2 ^ 64 → b % (2 ^ 63) ≤ infinity_bits → bits_of (double_of b) ≡ b
  pub nan_back : (b : ℕ) → infinity_bits < b % (2 ^ 63) → bits_of (double_of b) ≡ nan_pattern
  pub double_back : (x : Float) → T (fits binary64 x) → double_of (bits_of x) ≡ x
