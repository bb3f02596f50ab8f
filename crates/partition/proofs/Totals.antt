-- Sums of counts.
use Prim.Native.Nat.{ℕ, zero, suc, ◌+◌, ◌<◌, ◌≤◌}
use mathlib.Core.Path.{◌≡◌, refl}
use mathlib.Core.Bool.{cond}
use mathlib.Core.Logic.{⊎_elim}
use native.Mathlib.Omega.{arith}
use native.Mathlib.Nat.{eq-or-lt_of_le}
use native.Mathlib.Numerals.{add-one}
use borrow.Author.Tests.{eq-eqb, ne_eqb}
use lib.Dec.{eqb}
use Rattle.partition.specs.Orders.{total_to}

-- one more term
pub total_more : (f : ℕ → ℕ) (k : ℕ) → total_to f (k + 1) ≡ total_to f k + f k
unfolding total_to
total_more f k = rw add-one

pub total_none : (f : ℕ → ℕ) → total_to f 0 ≡ 0
unfolding total_to
total_none f = refl

-- terms that agree below n
pub total_same : (f g : ℕ → ℕ) (n : ℕ) → ((k : ℕ) → k < n → f k ≡ g k) → total_to f n ≡ total_to g n
unfolding total_to
total_same f g zero h = refl
total_same f g (suc n) h = rw (total_same f g n (λ k l. h k (omega arith)), h n (omega arith))

-- the first term taken out
pub total_first : (f : ℕ → ℕ) (n : ℕ) → total_to f (suc n) ≡ f 0 + total_to (λ k. f (suc k)) n
unfolding total_to
total_first f zero = omega arith
total_first f (suc n) = omega (arith, total_first f n)

-- more terms are no less
pub total_le : (f : ℕ → ℕ) (k n : ℕ) → k ≤ n → total_to f k ≤ total_to f n
unfolding total_to
total_le f k zero h = let z : k ≡ 0 = omega arith in rw z (omega arith)
total_le f k (suc n) h =
    ⊎_elim (λ q. rw q (omega arith)) (λ q. let r : k ≤ n = omega arith in omega (arith, total_le f k n r)) (eq-or-lt_of_le {n = k} {m = suc n} h)

-- two terms are no more than the sum
pub total_two : (f : ℕ → ℕ) (n g k : ℕ) → g < k → k < n → f g + f k ≤ total_to f n
total_two f n g k h l =
    omega (arith, total_more f g, total_le f (g + 1) k (omega arith), total_more f k, total_le f (k + 1) n (omega arith))

-- terms of at most 1
pub total_ones : (f : ℕ → ℕ) (n : ℕ) → ((k : ℕ) → k < n → f k ≤ 1) → total_to f n ≤ n
unfolding total_to
total_ones f zero h = omega arith
total_ones f (suc n) h = omega (arith, total_ones f n (λ k l. h k (omega arith)), h n (omega arith))

-- terms of 1, and of 0
pub total-one : (f : ℕ → ℕ) (n : ℕ) → ((k : ℕ) → k < n → f k ≡ 1) → total_to f n ≡ n
unfolding total_to
total-one f zero h = refl
total-one f (suc n) h = omega (arith, total-one f n (λ k l. h k (omega arith)), h n (omega arith))

pub total-zero : (f : ℕ → ℕ) (n : ℕ) → ((k : ℕ) → k < n → f k ≡ 0) → total_to f n ≡ 0
unfolding total_to
total-zero f zero h = refl
total-zero f (suc n) h = omega (arith, total-zero f n (λ k l. h k (omega arith)), h n (omega arith))

-- one term is one more
abbrev pub one_more : ℕ → (ℕ → ℕ) → ℕ → ℕ
one_more x f k = cond (eqb x k) (suc (f k)) (f k)

one_more_in : (x : ℕ) (f : ℕ → ℕ) → one_more x f x ≡ suc (f x)
one_more_in x f = rw (eq-eqb x x refl)

one_more_out : (x : ℕ) (f : ℕ → ℕ) (k : ℕ) → (x ≡ k → ⊥) → one_more x f k ≡ f k
one_more_out x f k h = rw (ne_eqb x k h)

one_more_before : (x : ℕ) (f : ℕ → ℕ) (n : ℕ) → n ≤ x → total_to (one_more x f) n ≡ total_to f n
one_more_before x f n h = total_same (one_more x f) f n (λ k l. one_more_out x f k (λ e. omega arith))

pub total_one_more : (x : ℕ) (f : ℕ → ℕ) (n : ℕ) → x < n → total_to (one_more x f) n ≡ suc (total_to f n)
unfolding total_to
total_one_more x f zero h = absurd (omega arith)
total_one_more x f (suc n) h =
    ⊎_elim
    (λ q. rw (← q, one_more_before x f x (omega arith), one_more_in x f) (omega arith))
    (λ q. let out : one_more x f n ≡ f n = one_more_out x f n (λ e. omega arith) in omega (arith, total_one_more x f n q, out))
    (eq-or-lt_of_le {n = x} {m = n} (omega arith))
