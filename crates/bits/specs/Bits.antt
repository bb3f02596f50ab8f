-- A double and its bits, in the binary64 format of IEEE 754. Definitions only.
use Rattle.std.specs.Prelude.{ℕ, Float}
use Rattle.std.specs.Float.Ieee.{of_bits, to_bits}
use Rattle.std.specs.Float.{binary64}

-- the double of a pattern, where every NaN pattern is one NaN; and the pattern of a double, where a NaN has 7ff8000000000000
abbrev pub double_of : ℕ → Float
double_of bits = of_bits binary64 bits

abbrev pub bits_of : Float → ℕ
bits_of x = to_bits binary64 x
