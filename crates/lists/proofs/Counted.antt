-- Whole numbers as doubles: a count below 2 ^ 53 is one.
use Rattle.std.proofs.Common.{ℕ, ◌+◌, ◌*◌, ◌^◌, ◌<◌, ◌≤◌, false, sym, lt_of_lt_of_le, mul-one, arith, pow_mono, shl_lt}
use lib.Ieee.{binary64, round, of_int}
use lib.Ieee.Exact.{HasValue, round_exact}
use Rattle.lists.specs.Sums.{counted}

-- q times 2 ^ j, counted in the smallest doubles, is in the range
pub in_range : (q j : ℕ) → q < 2 ^ 53 → j ≤ 2045 → q * 2 ^ j < 2 ^ 2098
in_range q j h l = let k : 53 + j ≤ 2098 = omega arith in lt_of_lt_of_le (shl_lt 53 j h) (pow_mono k)

pub whole_exact : (k : ℕ) → k < 2 ^ 53 → HasValue (round binary64 false k 1) false k 1
whole_exact k h = round_exact binary64 false k 1 k 1074 (omega arith) h (in_range k 1074 h (omega arith)) (sym (mul-one (k * 2 ^ 1074)))

pub counted_exact : (k : ℕ) → k < 2 ^ 53 → HasValue (counted k) false k 1
unfolding of_int
counted_exact k h = whole_exact k h
