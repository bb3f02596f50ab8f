-- How many places a decimal number takes, and its first digit. Assumes nothing.
use Prim.Native.Nat.{ℕ, zero, suc, ◌+◌, ◌*◌, ◌/◌, ◌%◌, ◌^◌, ◌<◌, ◌≤◌}
use mathlib.Core.Path.{◌≡◌, refl, sym, ap, ◌∙◌}
use mathlib.Core.List.{List, [], ◌∷◌, ◌++◌}
use mathlib.Core.Logic.{by_cases}
use native.Mathlib.Nat.{add-zero, pow-suc, pow-zero, div-lt_iff_lt-mul, div-add-mod', mul-le-mul_right, suc-mul}
use native.Mathlib.Decide.{dec_lt, ℕ_discrete}
use native.Mathlib.Omega.{arith}
use borrow.Author.Tests.{lt-ltb, le-ltb}
use lib.ListN.{get_or, get_or-append}
use Rattle.text_digits.specs.Digits.{byte_at, digit_of, digit_byte, spelled, digits_of, places_to, width_of}
use Rattle.text_digits.proofs.Numerals.{length_digits}
use Rattle.text_digits.proofs.RoundTrip.{digit_digit_byte}

ten_more : (v m : ℕ) → v / 10 < 10 ^ m → v < 10 ^ suc m
ten_more v m h = rw pow-suc (omega (arith, mul-le-mul_right 10 h, suc-mul (v / 10) 10, div-add-mod' v 10))

ten_less : (v m : ℕ) → v < 10 ^ suc m → v / 10 < 10 ^ m
ten_less v m h = (div-lt_iff_lt-mul {k = 10} {x = v} {y = 10 ^ m} (omega arith)).1 (rw pow-suc at h)

-- v takes no fewer places than it needs
pub places_hold : (m v : ℕ) → v < 10 ^ m → v < 10 ^ places_to m v
unfolding places_to
places_hold zero v h = h
places_hold (suc m) v h =
    by_cases (dec_lt v 10) (λ l. rw (lt-ltb v 10 l) (omega arith))
    (λ g. rw (le-ltb v 10 (omega arith)) (ten_more v (places_to m (v / 10)) (places_hold m (v / 10) (ten_less v m h))))

-- and no more
pub places_short : (m j v : ℕ) → v < 10 ^ suc j → j < m → places_to m v ≤ suc j
unfolding places_to
places_short zero j v h l = absurd (omega arith)
places_short (suc m) zero v h l = rw (lt-ltb v 10 (omega arith)) (omega arith)
places_short (suc m) (suc j) v h l =
    by_cases (dec_lt v 10) (λ y. rw (lt-ltb v 10 y) (omega arith))
    (λ g. rw (le-ltb v 10 (omega arith)) (let i = places_short m j (v / 10) (ten_less v (suc j) h) (omega arith) in omega arith))

pub places_some : (m v : ℕ) → 0 < places_to (suc m) v
unfolding places_to
places_some m v = by_cases (dec_lt v 10) (λ y. rw (lt-ltb v 10 y) (omega arith)) (λ g. rw (le-ltb v 10 (omega arith)) (omega arith))

-- the first digit of a number above 0 is no zero
digit_byte_some : (d : ℕ) → 0 < d → d < 10 → digit_byte d ≡ 48 → ⊥
unfolding digit_byte
digit_byte_some d h l e = let q : 48 + d ≡ 48 = rw (lt-ltb d 10 l) at e in omega arith

pub first_some : (m v : ℕ) → 0 < v → v < 10 ^ m → get_or (digits_of 10 (places_to m v) v) 0 0 ≡ 48 → ⊥
unfolding places_to digits_of
first_some zero v h l e = omega arith
first_some (suc m) v h l e =
    by_cases (dec_lt v 10)
    (λ y. let q : digit_byte (v % 10) ≡ 48 = rw (lt-ltb v 10 y) at e in digit_byte_some (v % 10) (omega arith) (omega arith) q)
    (λ g. let q : get_or (digits_of 10 (places_to m (v / 10)) (v / 10) ++ (digit_byte (v % 10) ∷ [])) 0 0 ≡ 48 = rw (le-ltb v 10 (omega arith)) at e in
    first_some m (v / 10) (omega arith) (ten_less v m l) (sym (get_or-append (digits_of 10 (places_to m (v / 10)) (v / 10)) (digit_byte (v % 10) ∷ []) 0 0 (rw (length_digits 10 (places_to m (v / 10)) (v / 10)) (some m (omega arith) (ten_less v m l)))) ∙ q))
  where
    some : (m : ℕ) → 10 ≤ v → v / 10 < 10 ^ m → 0 < places_to m (v / 10)
    some zero t h = absurd (omega arith)
    some (suc m) t h = places_some m (v / 10)

pub one_place : (m v : ℕ) → v < 10 → places_to (suc m) v ≡ 1
unfolding places_to
one_place m v h = rw (lt-ltb v 10 h)

pub width_ten : (v : ℕ) → width_of 10 v ≡ places_to 20 v
unfolding width_of
width_ten v = refl

-- it takes the places that it has
pub places_exact : (m k v : ℕ) → 10 ^ k ≤ v → v < 10 ^ suc k → k < m → places_to m v ≡ suc k
unfolding places_to
places_exact zero k v a b l = absurd (omega arith)
places_exact (suc m) zero v a b l = rw (lt-ltb v 10 (omega arith))
places_exact (suc m) (suc k) v a b l =
    let a' : 10 ^ k * 10 ≤ v = rw pow-suc at a in
    let one : 1 ≤ 10 ^ k = pow_some k in
    rw (le-ltb v 10 (omega arith)) (ap suc (places_exact m k (v / 10) (omega arith) (ten_less v (suc k) b) (omega arith)))
  where
    pow_some : (k : ℕ) → 1 ≤ 10 ^ k
    pow_some zero = rw pow-zero (omega arith)
    pow_some (suc k) = rw pow-suc (let h = pow_some k in omega arith)

pub spelled_low : (s : List ℕ) (p k : ℕ) → 1 ≤ digit_of (byte_at s p) → 10 ^ k ≤ spelled 10 s p (suc k)
unfolding spelled
spelled_low s p zero h = rw (pow-zero, add-zero) (omega arith)
spelled_low s p (suc k) h = rw pow-suc (let i = spelled_low s p k h in omega arith)

-- a digit that is no zero
digit_byte_none : digit_byte 0 ≡ 48
unfolding digit_byte
digit_byte_none = refl

pub some_digit : (c : ℕ) → digit_of c < 16 → (c ≡ 48 → ⊥) → 1 ≤ digit_of c
some_digit c h n =
    by_cases (ℕ_discrete (digit_of c) 0) (λ e. absurd (n (sym (digit_digit_byte c h) ∙ ap digit_byte e ∙ digit_byte_none))) (λ e. omega arith)
