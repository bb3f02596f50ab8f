-- How many digits a number is written with. Assumes nothing.
use Prim.Native.Nat.{ℕ, zero, suc, ◌/◌, ◌%◌, ◌≤◌}
use mathlib.Core.Path.{◌≡◌, refl, ◌∙◌}
use mathlib.Core.Bool.{Bool, true, false, cond}
use mathlib.Core.List.{[], ◌∷◌}
use native.Mathlib.Numerals.{add-one}
use native.Mathlib.Omega.{arith}
use lib.Dec.{ltb, eqb}
use lib.ListN.{length, length-append}
use Rattle.text_digits.specs.Digits.{digit_byte, digits_of, places_to, width_of, numeral}

pub length_digits : (b k x : ℕ) → length (digits_of b k x) ≡ k
unfolding digits_of
length_digits b zero x = refl
length_digits b (suc k) x = length-append (digits_of b k (x / b)) (digit_byte (x % b) ∷ []) ∙ rw (length_digits b k (x / b)) (add-one k)

cond_le : (c : Bool) (k m : ℕ) → k ≤ m → cond c 1 (suc k) ≤ suc m
cond_le true k m h = omega arith
cond_le false k m h = omega arith

places_le : (m x : ℕ) → places_to m x ≤ m
unfolding places_to
places_le zero x = omega arith
places_le (suc m) x = cond_le (ltb x 10) (places_to m (x / 10)) m (places_le m (x / 10))

cond_width : (c : Bool) (k : ℕ) → k ≤ 20 → cond c 16 k ≤ 20
cond_width true k h = omega arith
cond_width false k h = h

pub width_le : (b x : ℕ) → width_of b x ≤ 20
unfolding width_of
width_le b x = cond_width (eqb b 16) (places_to 20 x) (places_le 20 x)

pub length_numeral : (b x : ℕ) → length (numeral b x) ≤ 20
length_numeral b x = rw (length_digits b (width_of b x) x) (width_le b x)
