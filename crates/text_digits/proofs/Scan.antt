-- Bytes of a text, runs of digits, and a loop over a run. Assumes nothing.
use Prim.Native.Nat.{ℕ, zero, suc, ◌+◌, ◌-◌, ◌*◌, ◌^◌, ◌<◌, ◌≤◌}
use mathlib.Core.Path.{◌≡◌, refl, sym, ◌∙◌}
use mathlib.Core.Bool.{Bool, true, false, cond}
use mathlib.Core.List.{List}
use mathlib.Core.Logic.{by_cases}
use native.Mathlib.Numerals.{add-one}
use native.Mathlib.Nat.{add-zero, zero-add, sub-zero, mul-le-mul_right, suc-mul, pow-zero, pow-suc, pow-le-pow_right}
use native.Mathlib.Decide.{dec_lt, ℕ_discrete}
use native.Mathlib.Omega.{arith}
use borrow.Author.Tests.{lt-ltb, le-ltb, eq-eqb, ne_eqb}
use lib.Dec.{ltb}
use lib.ListN.{length, get_or-eq_default}
use Rattle.text_digits.specs.Digits.{byte_at, digit_of, run_of, spelled, stop_of}

-- a byte that is not 0 stands in the text
pub in_text : (s : List ℕ) (i : ℕ) → 0 < byte_at s i → i < length s
in_text s i h =
    by_cases (dec_lt i (length s)) (λ l. l)
    (λ n. let z : byte_at s i ≡ 0 = get_or-eq_default s 0 (not-lt n) in absurd (omega arith))
  where
    not-lt : (i < length s → ⊥) → length s ≤ i
    not-lt n = omega arith

no_digit : digit_of 0 ≡ 16
unfolding digit_of
no_digit = refl

-- so does a digit
pub digit_in_text : (s : List ℕ) (i b : ℕ) → digit_of (byte_at s i) < b → b ≤ 16 → i < length s
digit_in_text s i b h m = in_text s i (positive (byte_at s i) h)
  where
    positive : (x : ℕ) → digit_of x < b → 0 < x
    positive zero h = let z : digit_of 0 ≡ 16 = no_digit in absurd (omega arith)
    positive (suc x) h = omega arith

module _ (b : ℕ) (s : List ℕ) (p m R : ℕ) where
  pub run_starts : R ≡ run_of b s p m → R ≡ 0 + run_of b s (p + 0) (m - 0)
  run_starts e = rw (zero-add, add-zero, sub-zero) e

  left_one : (k : ℕ) → k < m → m - k ≡ suc (m - (k + 1))
  left_one k h = omega arith

  -- one more digit
  pub run_more : (k : ℕ) → R ≡ k + run_of b s (p + k) (m - k) → k < m → digit_of (byte_at s (p + k)) < b → R ≡ (k + 1) + run_of b s (p + (k + 1)) (m - (k + 1))
  unfolding run_of
  run_more k e h d =
      e ∙ rw (left_one k h, lt-ltb (digit_of (byte_at s (p + k))) b d) (sums (run_of b s (suc (p + k)) (m - (k + 1))) ∙ rw (place))
    where
      place : p + (k + 1) ≡ suc (p + k)
      place = omega arith

      sums : (x : ℕ) → k + suc x ≡ (k + 1) + x
      sums x = omega arith

  -- a byte that is no digit ends the run
  pub run_stops : (k : ℕ) → R ≡ k + run_of b s (p + k) (m - k) → k < m → b ≤ digit_of (byte_at s (p + k)) → k ≡ R
  unfolding run_of
  run_stops k e h d = sym (e ∙ rw (left_one k h, le-ltb (digit_of (byte_at s (p + k))) b d) (add-zero k))

  -- and so does the limit
  pub run_full : (k : ℕ) → R ≡ k + run_of b s (p + k) (m - k) → k ≡ m → m ≡ R
  unfolding run_of
  run_full k e h = sym (e ∙ rw (none) (add-zero k ∙ h))
    where
      none : m - k ≡ 0
      none = omega arith

-- one more digit of the number
pub spelled_more : (b : ℕ) (s : List ℕ) (p k : ℕ) {v d : ℕ} → v ≡ spelled b s p k → d ≡ digit_of (byte_at s (p + k)) → v * b + d ≡ spelled b s p (k + 1)
unfolding spelled
spelled_more b s p k e h = rw (add-one, e, h)

pub spelled_none : (b : ℕ) (s : List ℕ) (p : ℕ) → 0 ≡ spelled b s p 0
unfolding spelled
spelled_none b s p = refl

-- k digits are worth less than base to the k
pub one_more : (b k v d : ℕ) → v < b ^ k → d < b → v * b + d < b ^ (k + 1)
one_more b k v d h l = rw (add-one, pow-suc) (omega (arith, mul-le-mul_right b h, suc-mul v b))

pub spelled_lt : (b : ℕ) (s : List ℕ) (p k : ℕ) → ((j : ℕ) → j < k → digit_of (byte_at s (p + j)) < b) → spelled b s p k < b ^ k
unfolding spelled
spelled_lt b s p zero f = rw pow-zero (omega arith)
spelled_lt b s p (suc k) f =
    rw (← add-one k) (one_more b k (spelled b s p k) (digit_of (byte_at s (p + k))) (spelled_lt b s p k (λ j l. f j (omega arith))) (f k (omega arith)))

pub still_fits : (b k m v d : ℕ) → b ^ m ≤ 2 ^ 64 → k < m → v < b ^ k → d < b → v * b + d < 2 ^ 64
still_fits b k m v d t h l g =
    let q : b ^ (k + 1) ≤ b ^ m = pow-le-pow_right (omega arith) (omega arith) in
    omega (arith, one_more b k v d l g)

-- ---- what a run is

cond_run : (c : Bool) (k m : ℕ) → k ≤ m → cond c (suc k) zero ≤ suc m
cond_run true k m h = omega arith
cond_run false k m h = omega arith

pub run_le : (b : ℕ) (s : List ℕ) (p m : ℕ) → run_of b s p m ≤ m
unfolding run_of
run_le b s p zero = omega arith
run_le b s p (suc m) = cond_run (ltb (digit_of (byte_at s p)) b) (run_of b s (suc p) m) m (run_le b s (suc p) m)

-- each byte of a run is a digit
pub run_digits : (b : ℕ) (s : List ℕ) (p m j : ℕ) → j < run_of b s p m → digit_of (byte_at s (p + j)) < b
unfolding run_of
run_digits b s p zero j h = absurd (omega arith)
run_digits b s p (suc m) j h =
    by_cases (dec_lt (digit_of (byte_at s p)) b)
    (λ y. let q : j < suc (run_of b s (suc p) m) = rw (lt-ltb (digit_of (byte_at s p)) b y) at h in step (λ i l. run_digits b s (suc p) m i l) j q y)
    (λ n. let q : j < 0 = rw (le-ltb (digit_of (byte_at s p)) b (omega arith)) at h in absurd (omega arith))
  where
    step : ((i : ℕ) → i < run_of b s (suc p) m → digit_of (byte_at s (suc p + i)) < b) → (j : ℕ) → j < suc (run_of b s (suc p) m) → digit_of (byte_at s p) < b → digit_of (byte_at s (p + j)) < b
    step rec zero q y = rw add-zero y
    step rec (suc j) q y = let t : p + suc j ≡ suc p + j = omega arith in rw t (rec j (omega arith))

-- ---- what ends a field

pub space_no_digit : digit_of 32 ≡ 16
unfolding digit_of
space_no_digit = refl

pub newline_no_digit : digit_of 10 ≡ 16
unfolding digit_of
newline_no_digit = refl

pub stop_no_digit : (t n : ℕ) → digit_of (stop_of t n) ≡ 16
stop_no_digit t n =
    by_cases (ℕ_discrete (t + 1) n) (λ y. rw (eq-eqb (t + 1) n y) newline_no_digit) (λ x. rw (ne_eqb (t + 1) n x) space_no_digit)

pub stop_positive : (t n : ℕ) → 0 < stop_of t n
stop_positive t n = by_cases (ℕ_discrete (t + 1) n) (λ y. rw (eq-eqb (t + 1) n y) (omega arith)) (λ x. rw (ne_eqb (t + 1) n x) (omega arith))
