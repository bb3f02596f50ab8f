-- A pattern and its double: the value by the fields, and there and back.
use Prim.Native.Nat.{ℕ, zero, suc, ◌+◌, ◌*◌, ◌%◌, ◌^◌, ◌<◌, ◌≤◌}
use mathlib.Core.Path.{◌≡◌, refl, sym, ap, subst, ◌∙◌}
use mathlib.Core.Bool.{Bool, true, false, not}
use native.Mathlib.Nat.{mul-one}
use native.Mathlib.Omega.{arith}
use borrow.Author.Tests.{ne_eqb}
use lib.Dec.{T}
use lib.Ieee.{inf, binary64, odd, of_fields, of_bits, to_bits}
use lib.Ieee.Exact.{HasValue, odd_sign}
use lib.Ieee.Bits.{of_bits-to_bits, to_bits-of_bits, nan_bits_is}
use Rattle.bits.specs.Bits.{double_of, bits_of}
use Rattle.bits.specs.Claim.{BitsClaim, infinity_bits, nan_pattern, negative, exponent_field, fraction_field}
use Rattle.bits.proofs.Patterns.{not_above, above, quotient, nan_bits_lem}

-- the value of a sign s, an exponent's field x and a fraction t
field_zero : (s : Bool) (x t : ℕ) → x ≡ 0 → HasValue (of_fields binary64 s x t) s t (2 ^ 1074)
unfolding of_fields
field_zero s zero t e = subst (λ (a : ℕ). HasValue (odd 53 s t 0 1074) s a (2 ^ 1074)) (mul-one t) (odd_sign 53 s t 0 1074)
field_zero s (suc x) t e = absurd (omega arith)

field_above : (s : Bool) (x t : ℕ) → x < 2046 → HasValue (of_fields binary64 s (suc x) t) s ((2 ^ 52 + t) * 2 ^ x) (2 ^ 1074)
unfolding of_fields
field_above s x t h = rw (ne_eqb (suc x) 2047 (λ e. omega (arith, h, e))) (odd_sign 53 s (2 ^ 52 + t) x 1074)

without_leading_one : (b : ℕ) → exponent_field b ≡ 0 → HasValue (double_of b) (negative b) (fraction_field b) (2 ^ 1074)
unfolding of_bits
without_leading_one b e = field_zero (negative b) (exponent_field b) (fraction_field b) e

with_leading_one : (b x : ℕ) → exponent_field b ≡ suc x → x < 2046 → HasValue (double_of b) (negative b) ((2 ^ 52 + fraction_field b) * 2 ^ x) (2 ^ 1074)
unfolding of_bits
with_leading_one b x e h =
    subst (λ (y : ℕ). HasValue (of_fields binary64 (negative b) y (fraction_field b)) (negative b) ((2 ^ 52 + fraction_field b) * 2 ^ x) (2 ^ 1074)) (sym e) (field_above (negative b) x (fraction_field b) h)

infinity : double_of infinity_bits ≡ inf false
unfolding of_bits
infinity = refl

minus_infinity : double_of (2 ^ 63 + infinity_bits) ≡ inf true
unfolding of_bits
minus_infinity = refl

pattern_back : (b : ℕ) → b < 2 ^ 64 → b % (2 ^ 63) ≤ infinity_bits → bits_of (double_of b) ≡ b
pattern_back b l h = to_bits-of_bits binary64 b l (subst (λ (t : Bool). T (not t)) (nan_bits_is binary64 b) (not_above b h))

nan_back : (b : ℕ) → infinity_bits < b % (2 ^ 63) → bits_of (double_of b) ≡ nan_pattern
nan_back b h = ap (to_bits binary64) (sym (above b h) ∙ quotient) ∙ sym nan_bits_lem

-- the claim of specs/Claim.antt
pub bits_claim : BitsClaim
bits_claim =
    record {
      without_leading_one = without_leading_one;
      with_leading_one = with_leading_one;
      infinity = infinity;
      minus_infinity = minus_infinity;
      pattern_back = pattern_back;
      nan_back = nan_back;
      double_back = of_bits-to_bits binary64;
    }
