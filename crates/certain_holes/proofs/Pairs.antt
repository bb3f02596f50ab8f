-- The distance of two items: a NaN where one of them has a hole, and from +0 to 16 elsewhere.
use Prim.Native.Nat.{ℕ, ◌*◌, ◌≤◌}
use mathlib.Core.Path.{◌≡◌}
use mathlib.Core.Logic.{inl, inr, ⊎_elim}
use native.Mathlib.Omega.{arith}
use lib.Ieee.{Float, nan, sub, binary64}
use Rattle.lists.specs.Sums.{square_from}
use Rattle.distance_columns.specs.Pair.{squared, squared_at, pair_at}
use Rattle.certain_ranges.specs.Ranges.{UpTo, OrNan}
use Rattle.certain_ranges.proofs.Operations.{bounded_difference, upto_square, upto_root, upto_more, square_nan, nan_square, nan_root, number_of}
use Rattle.certain_ranges.proofs.Totals.{adds_or_nan, adds_upto, sum_in, sum_nan}
use Rattle.certain_holes.specs.Holes.{Distances, Hole, Whole}

-- ---- a hole on either side
pub squared_nan : (a b : ℕ → Float) (m : ℕ) → Hole a m → squared a b m ≡ nan
squared_nan a b m h = sum_nan (λ c. square_from (b c) (a c)) m h.0 h.1 (rw h.2 (nan_square (b h.0)))

pub squared_nan' : (a b : ℕ → Float) (m : ℕ) → Hole b m → squared a b m ≡ nan
squared_nan' a b m h = sum_nan (λ c. square_from (b c) (a c)) m h.0 h.1 (rw h.2 (square_nan (a h.0)))

pub pair_nan : (x : ℕ → ℕ → Float) (m i j : ℕ) → Hole (x i) m → pair_at x m i j ≡ nan
unfolding pair_at squared_at
pair_nan x m i j h = rw (squared_nan (x i) (x j) m h) nan_root

pub pair_nan' : (x : ℕ → ℕ → Float) (m i j : ℕ) → Hole (x j) m → pair_at x m i j ≡ nan
unfolding pair_at squared_at
pair_nan' x m i j h = rw (squared_nan' (x i) (x j) m h) nan_root

-- ---- the range
square_range : (a b : Float) → OrNan (UpTo 1) a → OrNan (UpTo 1) b → OrNan (UpTo 1) (square_from b a)
square_range a b (inl e) g = inl (rw e (nan_square b))
square_range a b (inr h) (inl e) = inl (rw e (square_nan a))
square_range a b (inr h) (inr g) = inr (upto_square 1 (sub binary64 a b) (omega arith) (bounded_difference 1 a b (omega arith) h g))

pub pair_range : (x : ℕ → ℕ → Float) (m i j : ℕ) → Distances x → m ≤ 256 → OrNan (UpTo 16) (pair_at x m i j)
unfolding pair_at squared_at
pair_range x m i j D M = ⊎_elim
    (λ (e : squared_at x m i j ≡ nan). inl (rw e nan_root))
    (λ (h : UpTo (1 * m) (squared_at x m i j)). inr (upto_root 256 16 (squared_at x m i j) (omega arith) (omega arith) (upto_more (1 * m) 256 (squared_at x m i j) (omega arith) h)))
    (sum_in (λ k y. OrNan (UpTo k) y) adds_or_nan (λ c. square_from (x j c) (x i c)) 1 m (omega arith) (λ c l. square_range (x i c) (x j c) (D i c) (D j c)))

-- ---- a number, where neither has a hole
pub pair_whole : (x : ℕ → ℕ → Float) (m i j : ℕ) → Distances x → m ≤ 256 → Whole (x i) m → Whole (x j) m → UpTo 16 (pair_at x m i j)
unfolding pair_at squared_at
pair_whole x m i j D M I J =
    upto_root 256 16 (squared_at x m i j) (omega arith) (omega arith)
    (upto_more (1 * m) 256 (squared_at x m i j) (omega arith)
    (sum_in UpTo adds_upto (λ c. square_from (x j c) (x i c)) 1 m (omega arith)
    (λ c l. upto_square 1 (sub binary64 (x i c) (x j c)) (omega arith)
    (bounded_difference 1 (x i c) (x j c) (omega arith) (number_of (UpTo 1) (x i c) (D i c) (I c l)) (number_of (UpTo 1) (x j c) (D j c) (J c l))))))
