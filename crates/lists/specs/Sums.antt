-- Sums, counts and tests over the first k places of an index function. A sum of doubles starts from +0 and rounds each addition by IEEE 754, from the
-- left. Definitions only.
use Rattle.std.specs.Prelude.{ℕ, zero, suc, ◌+◌, Bool, true, false, cond, ◌&&◌, pos, ◌==◌, Float}
use Rattle.std.specs.Float.{fin, binary64}
use Rattle.std.specs.Float.Ieee.{add, sub, mul, lt, of_int}

-- +0, and 1
abbrev pub zero64 : Float
zero64 = fin false 0 (pos 0)

abbrev pub one64 : Float
one64 = fin false 1 (pos 0)

-- x where it is below b; a NaN is below nothing
abbrev pub lesser : Float → Float → Float
lesser x b = cond (lt x b) x b

-- the double nearest a count, which is the count itself up to 2 ^ 53
abbrev pub counted : ℕ → Float
counted n = of_int binary64 (pos n)

-- f 0 + f 1 + .. + f (k - 1), from the left, from +0, rounded at each step
unfoldable pub sum_to : (ℕ → Float) → ℕ → Float
sum_to f zero = zero64
sum_to f (suc k) = add binary64 (sum_to f k) (f k)

-- the square of x - m
abbrev pub square_from : Float → Float → Float
square_from m x = mul binary64 (sub binary64 x m) (sub binary64 x m)

-- whether p holds at each place below k
unfoldable pub all_to : (ℕ → Bool) → ℕ → Bool
all_to p zero = true
all_to p (suc k) = all_to p k && p k

-- a, after g at each place k below n with p k, by rising place
unfoldable pub fold_if : {A : Type 0} → (ℕ → Bool) → (A → ℕ → A) → A → ℕ → A
fold_if p g a zero = a
fold_if p g a (suc k) = cond (p k) (g (fold_if p g a k) k) (fold_if p g a k)

-- the terms f k with p k, for k below n, summed from the left, from +0; and how many they are
abbrev pub sum_if : (ℕ → Bool) → (ℕ → Float) → ℕ → Float
sum_if p f n = fold_if p (λ s k. add binary64 s (f k)) zero64 n

abbrev pub count_if : (ℕ → Bool) → ℕ → ℕ
count_if p n = fold_if p (λ c k. c + 1) 0 n

-- whether item i is in group l, by its label; and how many of n items are
abbrev pub in_group : (ℕ → ℕ) → ℕ → ℕ → Bool
in_group label l i = label i == l

abbrev pub group_size : (ℕ → ℕ) → ℕ → ℕ → ℕ
group_size label n l = count_if (in_group label l) n
