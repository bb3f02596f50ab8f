-- A number that is written spells itself.
use Prim.Native.Nat.{ℕ, ◌^◌, ◌<◌, ◌≤◌}
use mathlib.Core.Path.{◌≡◌, refl, sym, ap, ◌∙◌}
use mathlib.Core.List.{List, [], ◌∷◌, append-nil}
use native.Mathlib.Omega.{arith}
use lib.ListN.{length}
use Rattle.text_digits.specs.Digits.{byte_at, digit_of, digit_byte, spelled, digits_of, places_to, width_of, numeral}
use Rattle.text_digits.specs.Claim.{DigitsClaim}
use Rattle.text_digits.proofs.Numerals.{length_digits}
use Rattle.text_digits.proofs.RoundTrip.{digits_at_lem, spelled_back}
use Rattle.text_digits.proofs.Places.{places_hold, first_some, width_ten}

-- k digits of x on their own
module _ (b : ℕ) (z : 0 < b) (h16 : b ≤ 16) (k x : ℕ) where
  spelled_alone : x < b ^ k → spelled b (digits_of b k x) 0 k ≡ x
  spelled_alone h = ap (λ (l : List ℕ). spelled b l 0 k) (sym (append-nil (digits_of b k x))) ∙ spelled_back b z h16 k x [] [] h

width_hex : (x : ℕ) → width_of 16 x ≡ 16
unfolding width_of
width_hex x = refl

hex_length : (x : ℕ) → length (numeral 16 x) ≡ 16
hex_length x = length_digits 16 (width_of 16 x) x ∙ width_hex x

hex_digits : (x j : ℕ) → j < 16 → digit_of (byte_at (numeral 16 x) j) < 16
hex_digits x j h = digits_at_lem 16 (omega arith) (omega arith) (width_of 16 x) x j (rw (width_hex x) h)

hex_spells : (x : ℕ) → x < 2 ^ 64 → spelled 16 (numeral 16 x) 0 16 ≡ x
hex_spells x h = rw (width_hex x) (spelled_alone 16 (omega arith) (omega arith) 16 x h)

ten_digits : (x j : ℕ) → j < length (numeral 10 x) → digit_of (byte_at (numeral 10 x) j) < 10
ten_digits x j h = digits_at_lem 10 (omega arith) (omega arith) (width_of 10 x) x j (rw (length_digits 10 (width_of 10 x) x) at h)

ten_spells : (x : ℕ) → x < 10 ^ 20 → spelled 10 (numeral 10 x) 0 (length (numeral 10 x)) ≡ x
ten_spells x h =
    rw (length_digits 10 (width_of 10 x) x, width_ten x)
    (spelled_alone 10 (omega arith) (omega arith) (places_to 20 x) x (places_hold 20 x h))

ten_zero : numeral 10 0 ≡ 48 ∷ []
unfolding digits_of digit_byte places_to width_of
ten_zero = refl

ten_first : (x : ℕ) → 0 < x → x < 10 ^ 20 → byte_at (numeral 10 x) 0 ≡ 48 → ⊥
ten_first x h l e = first_some 20 x h l (rw (width_ten x) at e)

-- the claim of specs/Claim.antt
pub digits_claim : DigitsClaim
digits_claim =
    record {
      width_length = length_digits;
      width_digits = λ b k x j z h l. digits_at_lem b z h k x j l;
      width_spells = λ b k x z h l. spelled_alone b z h k x l;
      hex_length = hex_length;
      hex_digits = hex_digits;
      hex_spells = hex_spells;
      ten_digits = ten_digits;
      ten_spells = ten_spells;
      ten_zero = ten_zero;
      ten_first = ten_first;
    }
