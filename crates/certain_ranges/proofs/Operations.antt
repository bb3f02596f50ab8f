-- The operations on doubles within whole bounds, and on a NaN.
use Prim.Native.Nat.{ℕ, zero, suc, ◌+◌, ◌-◌, ◌*◌, ◌/◌, ◌^◌, ◌≤◌, ◌<◌}
use mathlib.Core.Path.{◌≡◌, refl, sym, ap, ◌∙◌, subst}
use mathlib.Core.Logic.{inl, inr, ⊎_elim}
use mathlib.Core.Bool.{Bool, true, false, ◌&&◌, cond, beq, true≢false}
use native.Mathlib.Nat.{mul-one, zero-mul, add-mul, mul_assoc, mul_comm, mul_right_comm, mul-mul-mul_comm, le_of_eq, le_trans, mul-le-mul, mul-le-mul_right, mul-pos, sub-le, zero-lt-suc, lt_irrefl, lt_of_le_of_lt, div-le_of_le-mul}
use Prim.Native.Nat.{zero-le}
use native.Mathlib.Omega.{arith}
use lib.Dec.{ltb, eqb, eqb-suc-zero}
use lib.IntN.{ℤ}
use lib.Pow.{pow_pos}
use lib.Ieee.{Float, nan, inf, fin, binary64, up, down, unlike, round, sum, add, neg, sub, mul, div, lt}
use lib.Ieee.Fits.{down_pos, up_pos}
use lib.Ieee.Exact.{HasValue}
use lib.Ieee.Scale.{finite}
use Rattle.lists.specs.Sums.{counted, square_from}
use Rattle.lists.proofs.Counted.{counted_exact}
use Rattle.sqrt.specs.Root.{root, square, magnitude, whole_root}
use Rattle.sqrt.proofs.Whole.{whole_root_floor, sq_lt, le-or-lt}
use Rattle.certain_ranges.specs.Ranges.{Sized, Bounded, UpTo, OrNan}
use Rattle.certain_ranges.proofs.Rounding.{round_whole}

-- ---- from one bound to another
one_off : (a k d : ℕ) → a * 1 ≤ k * d → a ≤ k * d
one_off a k d h = subst (λ (z : ℕ). z ≤ k * d) (mul-one a) h

pub sized_bounded : (s : Bool) (k : ℕ) (x : Float) → Sized s k 1 x → Bounded k x
sized_bounded s k nan h = h
sized_bounded s k (inf t) h = h
sized_bounded s k (fin t m e) h = one_off (m * up e) k (down e) h.1

pub sized_upto : (k : ℕ) (x : Float) → Sized false k 1 x → UpTo k x
sized_upto k nan h = h
sized_upto k (inf t) h = h
sized_upto k (fin t m e) h = (h.0, one_off (m * up e) k (down e) h.1)

pub upto_bounded : (k : ℕ) (x : Float) → UpTo k x → Bounded k x
upto_bounded k nan h = h
upto_bounded k (inf t) h = h
upto_bounded k (fin t m e) h = h.1

pub bounded_more : (j k : ℕ) (x : Float) → j ≤ k → Bounded j x → Bounded k x
bounded_more j k nan l h = h
bounded_more j k (inf t) l h = h
bounded_more j k (fin t m e) l h = le_trans h (mul-le-mul_right (down e) l)

pub upto_more : (j k : ℕ) (x : Float) → j ≤ k → UpTo j x → UpTo k x
upto_more j k nan l h = h
upto_more j k (inf t) l h = h
upto_more j k (fin t m e) l h = (h.0, le_trans h.1 (mul-le-mul_right (down e) l))

bounded_cond : (k : ℕ) (b : Bool) (x y : Float) → Bounded k x → Bounded k y → Bounded k (cond b x y)
bounded_cond k true x y h g = h
bounded_cond k false x y h g = g

-- ---- a sum
shared_l : (a j e d : ℕ) → a ≤ j * e → a * d ≤ j * (e * d)
shared_l a j e d h = le_trans (mul-le-mul_right d h) (le_of_eq (mul_assoc j e d))

shared_r : (b k e d : ℕ) → b ≤ k * d → b * e ≤ k * (e * d)
shared_r b k e d h = le_trans (mul-le-mul_right e h) (le_of_eq (mul_assoc k d e ∙ ap (λ (z : ℕ). k * z) (mul_comm d e)))

sum_bound : (a b j k c : ℕ) → a ≤ j * c → b ≤ k * c → a + b ≤ (j + k) * c
sum_bound a b j k c h g = let e : (j + k) * c ≡ j * c + k * c = add-mul j k c in omega arith

round_in : (s : Bool) (a c k : ℕ) → 0 < c → k < 2 ^ 53 → a ≤ k * c → Bounded k (round binary64 s a c)
round_in s a c k C K h = sized_bounded s k (round binary64 s a c) (round_whole s a c k C K h)

pub bounded_add : (j k : ℕ) (x y : Float) → j + k < 2 ^ 53 → Bounded j x → Bounded k y → Bounded (j + k) (add binary64 x y)
unfolding add sum
bounded_add j k nan y K h g = absurd h
bounded_add j k (inf s) y K h g = absurd h
bounded_add j k (fin s m e) nan K h g = absurd g
bounded_add j k (fin s m e) (inf t) K h g = absurd g
bounded_add j k (fin s m e) (fin t n d) K h g =
    let C = down e * down d in
    let A = m * up e * down d in
    let B = n * up d * down e in
    let P : 0 < C = mul-pos (down_pos e) (down_pos d) in
    let all : A + B ≤ (j + k) * C = sum_bound A B j k C (shared_l (m * up e) j (down e) (down d) h) (shared_r (n * up d) k (down e) (down d) g) in
    bounded_cond (j + k) (beq s t) (round binary64 s (A + B) C) (cond (ltb A B) (round binary64 t (B - A) C) (round binary64 (s && ltb B A) (A - B) C))
    (round_in s (A + B) C (j + k) P K all)
    (bounded_cond (j + k) (ltb A B) (round binary64 t (B - A) C) (round binary64 (s && ltb B A) (A - B) C)
    (round_in t (B - A) C (j + k) P K (less A B ((j + k) * C) all))
    (round_in (s && ltb B A) (A - B) C (j + k) P K (less' A B ((j + k) * C) all)))
  where
    less : (a b c : ℕ) → a + b ≤ c → b - a ≤ c
    less a b c h = omega arith

    less' : (a b c : ℕ) → a + b ≤ c → a - b ≤ c
    less' a b c h = omega arith

pub upto_add : (j k : ℕ) (x y : Float) → j + k < 2 ^ 53 → UpTo j x → UpTo k y → UpTo (j + k) (add binary64 x y)
unfolding add sum
upto_add j k nan y K h g = absurd h
upto_add j k (inf s) y K h g = absurd h
upto_add j k (fin s m e) nan K h g = absurd g
upto_add j k (fin s m e) (inf t) K h g = absurd g
upto_add j k (fin true m e) (fin t n d) K h g = absurd (true≢false h.0)
upto_add j k (fin false m e) (fin true n d) K h g = absurd (true≢false g.0)
upto_add j k (fin false m e) (fin false n d) K h g =
    let C = down e * down d in
    let A = m * up e * down d in
    let B = n * up d * down e in
    sized_upto (j + k) (round binary64 false (A + B) C)
    (round_whole false (A + B) C (j + k) (mul-pos (down_pos e) (down_pos d)) K
    (sum_bound A B j k C (shared_l (m * up e) j (down e) (down d) h.1) (shared_r (n * up d) k (down e) (down d) g.1)))

-- ---- a difference, a product, a square
bounded_neg : (k : ℕ) (x : Float) → Bounded k x → Bounded k (neg x)
unfolding neg
bounded_neg k nan h = h
bounded_neg k (inf s) h = h
bounded_neg k (fin s m e) h = h

pub bounded_sub : (j k : ℕ) (x y : Float) → j + k < 2 ^ 53 → Bounded j x → Bounded k y → Bounded (j + k) (sub binary64 x y)
unfolding sub
bounded_sub j k x y K h g = bounded_add j k x (neg y) K h (bounded_neg k y g)

-- the difference of two from +0 up
pub bounded_difference : (k : ℕ) (x y : Float) → k < 2 ^ 53 → UpTo k x → UpTo k y → Bounded k (sub binary64 x y)
unfolding sub neg add sum
bounded_difference k nan y K h g = absurd h
bounded_difference k (inf s) y K h g = absurd h
bounded_difference k (fin s m e) nan K h g = absurd g
bounded_difference k (fin s m e) (inf t) K h g = absurd g
bounded_difference k (fin true m e) (fin t n d) K h g = absurd (true≢false h.0)
bounded_difference k (fin false m e) (fin true n d) K h g = absurd (true≢false g.0)
bounded_difference k (fin false m e) (fin false n d) K h g =
    let C = down e * down d in
    let A = m * up e * down d in
    let B = n * up d * down e in
    let P : 0 < C = mul-pos (down_pos e) (down_pos d) in
    let a : A ≤ k * C = shared_l (m * up e) k (down e) (down d) h.1 in
    let b : B ≤ k * C = shared_r (n * up d) k (down e) (down d) g.1 in
    bounded_cond k (ltb A B) (round binary64 true (B - A) C) (round binary64 false (A - B) C)
    (round_in true (B - A) C k P K (le_trans (sub-le B A) b))
    (round_in false (A - B) C k P K (le_trans (sub-le A B) a))

product : (a b j k e d : ℕ) → a ≤ j * e → b ≤ k * d → a * b ≤ j * k * (e * d)
product a b j k e d h g = le_trans (mul-le-mul h g) (le_of_eq (mul-mul-mul_comm j e k d))

pub bounded_mul : (j k : ℕ) (x y : Float) → j * k < 2 ^ 53 → Bounded j x → Bounded k y → Bounded (j * k) (mul binary64 x y)
unfolding mul
bounded_mul j k nan y K h g = absurd h
bounded_mul j k (inf s) y K h g = absurd h
bounded_mul j k (fin s m e) nan K h g = absurd g
bounded_mul j k (fin s m e) (inf t) K h g = absurd g
bounded_mul j k (fin s m e) (fin t n d) K h g =
    round_in (unlike s t) (m * up e * (n * up d)) (down e * down d) (j * k) (mul-pos (down_pos e) (down_pos d)) K (product (m * up e) (n * up d) j k (down e) (down d) h g)

pub upto_square : (k : ℕ) (x : Float) → k * k < 2 ^ 53 → Bounded k x → UpTo (k * k) (mul binary64 x x)
unfolding mul
upto_square k nan K h = absurd h
upto_square k (inf s) K h = absurd h
upto_square k (fin true m e) K h =
    sized_upto (k * k) (round binary64 false (m * up e * (m * up e)) (down e * down e))
    (round_whole false (m * up e * (m * up e)) (down e * down e) (k * k) (mul-pos (down_pos e) (down_pos e)) K (product (m * up e) (m * up e) k k (down e) (down e) h h))
upto_square k (fin false m e) K h =
    sized_upto (k * k) (round binary64 false (m * up e * (m * up e)) (down e * down e))
    (round_whole false (m * up e * (m * up e)) (down e * down e) (k * k) (mul-pos (down_pos e) (down_pos e)) K (product (m * up e) (m * up e) k k (down e) (down e) h h))

pub upto_square_from : (j k : ℕ) (m x : Float) → (k + j) * (k + j) < 2 ^ 53 → k + j < 2 ^ 53 → Bounded j m → Bounded k x → UpTo ((k + j) * (k + j)) (square_from m x)
upto_square_from j k m x K K' h g = upto_square (k + j) (sub binary64 x m) K (bounded_sub k j x m K' g h)

-- ---- a quotient whose divisor is not zero
not-zero : (n : ℕ) → 0 < n → eqb n 0 ≡ false
not-zero zero h = absurd (lt_irrefl 0 h)
not-zero (suc n) h = eqb-suc-zero n

pub quotient : (s t : Bool) (m n : ℕ) (e d : ℤ) (k : ℕ) → 0 < n → k < 2 ^ 53 → m * up e * down d ≤ k * (n * up d * down e) → Sized (unlike s t) k 1 (div binary64 (fin s m e) (fin t n d))
unfolding div
quotient s t m n e d k N K h =
    rw (not-zero n N)
    (round_whole (unlike s t) (m * up e * down d) (n * up d * down e) k (mul-pos (mul-pos N (up_pos d)) (down_pos e)) K h)

-- by a count
positive_part : (n u d k : ℕ) → 0 < k → 0 < d → n * u * 1 ≡ k * d → 0 < n
positive_part zero u d k K D e = let p : 0 < k * d = mul-pos K D in let z : 0 * u ≡ 0 = zero-mul u in absurd (omega arith)
positive_part (suc n) u d k K D e = zero-lt-suc n

over_count : (a nu e d k c : ℕ) → nu * 1 ≡ c * d → a ≤ k * c * e → a * d ≤ k * (nu * e)
over_count a nu e d k c v h =
    le_trans (mul-le-mul_right d h)
    (le_of_eq (ap (λ (z : ℕ). z * d) (mul_assoc k c e) ∙ mul_assoc k (c * e) d ∙ ap (λ (z : ℕ). k * z) (mul_right_comm c e d ∙ ap (λ (z : ℕ). z * e) (sym v ∙ mul-one nu))))

pub sized_over : (s : Bool) (x y : Float) (k c : ℕ) → 0 < c → k < 2 ^ 53 → HasValue y false c 1 → Sized s (k * c) 1 x → Sized (unlike s false) k 1 (div binary64 x y)
sized_over s nan y k c C K v h = absurd h
sized_over s (inf t) y k c C K v h = absurd h
sized_over s (fin t m e) nan k c C K v h = absurd v
sized_over s (fin t m e) (inf r) k c C K v h = absurd v
sized_over s (fin t m e) (fin true n d) k c C K v h = absurd (true≢false v.0)
sized_over s (fin t m e) (fin false n d) k c C K v h =
    subst (λ (z : Bool). Sized (unlike z false) k 1 (div binary64 (fin t m e) (fin false n d))) h.0
    (quotient t false m n e d k (positive_part n (up d) (down d) c C (down_pos d) v.1) K
    (over_count (m * up e) (n * up d) (down e) (down d) k c v.1 (one_off (m * up e) (k * c) (down e) h.1)))

one_on : (a k d : ℕ) → a ≤ k * d → a * 1 ≤ k * d
one_on a k d h = subst (λ (z : ℕ). z ≤ k * d) (sym (mul-one a)) h

sign_of : (x : Float) → Bool
sign_of nan = false
sign_of (inf s) = s
sign_of (fin s m e) = s

bounded_sized : (k : ℕ) (x : Float) → Bounded k x → Sized (sign_of x) k 1 x
unfolding sign_of
bounded_sized k nan h = h
bounded_sized k (inf s) h = h
bounded_sized k (fin s m e) h = (refl, one_on (m * up e) k (down e) h)

pub upto_sized : (k : ℕ) (x : Float) → UpTo k x → Sized false k 1 x
upto_sized k nan h = h
upto_sized k (inf s) h = h
upto_sized k (fin s m e) h = (h.0, one_on (m * up e) k (down e) h.1)

pub bounded_over : (k n : ℕ) (x : Float) → 0 < n → n < 2 ^ 53 → k < 2 ^ 53 → Bounded (k * n) x → Bounded k (div binary64 x (counted n))
bounded_over k n x N L K h =
    sized_bounded (unlike (sign_of x) false) k (div binary64 x (counted n)) (sized_over (sign_of x) x (counted n) k n N K (counted_exact n L) (bounded_sized (k * n) x h))

pub upto_over : (k n : ℕ) (x : Float) → 0 < n → n < 2 ^ 53 → k < 2 ^ 53 → UpTo (k * n) x → UpTo k (div binary64 x (counted n))
upto_over k n x N L K h = sized_upto k (div binary64 x (counted n)) (sized_over false x (counted n) k n N K (counted_exact n L) (upto_sized (k * n) x h))

-- ---- the root
root_bound : (r n k j P : ℕ) → r * r ≤ n → n ≤ k * (P * P) → k ≤ j * j → r ≤ j * P
root_bound r n k j P a b c = ⊎_elim (λ g. g)
    (λ (g : j * P < r).
    absurd (lt_irrefl (r * r)
    (lt_of_le_of_lt (le_trans a (le_trans b (le_trans (mul-le-mul_right (P * P) c) (le_of_eq (mul-mul-mul_comm j j P P))))) (sq_lt (j * P) r g))))
    (le-or-lt r (j * P))

magnitude_bound : (a d k P : ℕ) → a ≤ k * d → a * P / d * P ≤ k * (P * P)
magnitude_bound a d k P h =
    le_trans (mul-le-mul_right P (div-le_of_le-mul d (le_trans (mul-le-mul_right P h) (le_of_eq (mul_right_comm k d P ∙ mul_comm (k * P) d)))))
    (le_of_eq (mul_assoc k P P))

pub upto_root : (k j : ℕ) (x : Float) → k ≤ j * j → j < 2 ^ 53 → UpTo k x → UpTo j (root x)
unfolding root
upto_root k j nan J L h = absurd h
upto_root k j (inf s) J L h = absurd h
upto_root k j (fin true zero e) J L h = absurd (true≢false h.0)
upto_root k j (fin true (suc m) e) J L h = absurd (true≢false h.0)
upto_root k j (fin false zero e) J L h = (refl, subst (λ (z : ℕ). z ≤ j * down e) (sym (zero-mul (up e))) zero-le)
upto_root k j (fin false (suc m) e) J L h =
    let n = square (fin false (suc m) e) in
    let N : n ≤ k * (2 ^ 1074 * 2 ^ 1074) = unfold square magnitude in magnitude_bound (suc m * up e) (down e) k (2 ^ 1074) h.1 in
    sized_upto j (round binary64 false (whole_root n) (2 ^ 1074))
    (round_whole false (whole_root n) (2 ^ 1074) j (pow_pos 1074) L (root_bound (whole_root n) n k j (2 ^ 1074) (whole_root_floor n).0 N J))

-- ---- a NaN
pub add_nan : (x : Float) → add binary64 x nan ≡ nan
unfolding add
add_nan nan = refl
add_nan (inf s) = refl
add_nan (fin s m e) = refl

pub nan_add : (x : Float) → add binary64 nan x ≡ nan
unfolding add
nan_add x = refl

nan_sub : (x : Float) → sub binary64 nan x ≡ nan
unfolding sub
nan_sub x = nan_add (neg x)

pub sub_nan : (x : Float) → sub binary64 x nan ≡ nan
unfolding sub neg
sub_nan x = add_nan x

pub nan_mul : (x : Float) → mul binary64 nan x ≡ nan
unfolding mul
nan_mul x = refl

pub nan_div : (x : Float) → div binary64 nan x ≡ nan
unfolding div
nan_div x = refl

pub nan_root : root nan ≡ nan
unfolding root
nan_root = refl

pub square_nan : (x : Float) → square_from nan x ≡ nan
square_nan x = rw (sub_nan x) (nan_mul nan)

pub nan_square : (m : Float) → square_from m nan ≡ nan
nan_square m = rw (nan_sub m) (nan_mul nan)

pub nan_lt : (x : Float) → lt nan x ≡ false
unfolding lt
nan_lt x = refl

pub lt_nan : (x : Float) → lt x nan ≡ false
unfolding lt
lt_nan nan = refl
lt_nan (inf s) = refl
lt_nan (fin s m e) = refl

-- ---- what a bound says
pub number_of : (P : Float → Type 0) (x : Float) → OrNan P x → (x ≡ nan → ⊥) → P x
number_of P x (inl e) n = absurd (n e)
number_of P x (inr h) n = h

pub bounded_number : (k : ℕ) (x : Float) → Bounded k x → x ≡ nan → ⊥
bounded_number k x h e = subst (Bounded k) e h

pub below_inf : (k : ℕ) (x : Float) → Bounded k x → lt x (inf false) ≡ true
unfolding lt
below_inf k nan h = absurd h
below_inf k (inf s) h = absurd h
below_inf k (fin s m e) h = refl

pub above_inf : (k : ℕ) (x : Float) → Bounded k x → lt (inf true) x ≡ true
unfolding lt
above_inf k nan h = absurd h
above_inf k (inf s) h = absurd h
above_inf k (fin s m e) h = refl

pub bounded_finite : (k : ℕ) (x : Float) → Bounded k x → finite x ≡ true
bounded_finite k nan h = absurd h
bounded_finite k (inf s) h = absurd h
bounded_finite k (fin s m e) h = refl
