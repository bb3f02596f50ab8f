-- For callers: every label is below k, and there is at least one pass.
use Prim.Native.Nat.{◌<◌, ◌≤◌, suc, zero, ℕ}
use mathlib.Core.Path.{◌≡◌, refl, sym}
use mathlib.Core.Bool.{Bool, cond, false, true}
use native.Mathlib.Omega.{arith}
use lib.ListN.{length}
use lib.Ieee.{Float}
use Rattle.lloyd_pass.specs.Passes.{centroids_at, labels_at, lloyd_labels, nearest_centroid, passes, converges_at}
use lib.Dec.{eqb, ltb}
use borrow.Author.Tests.{ne_eqb}
use Rattle.distance_columns.specs.Pair.{squared}
use Rattle.lists.specs.Lists.{first_to, numbers}
use Rattle.lloyd_nearest.proofs.Steps.{nearest_below}
use Rattle.lists.proofs.First.{first_more}
use Rattle.lists.proofs.Sums.{all_fails}
use Rattle.lists.proofs.Listed.{get_d_listed, length-listed}

first_step : (a b : Bool) (f n : ℕ) → 1 ≤ f → 1 ≤ n → 1 ≤ cond a f (cond b n (suc n))
first_step true b f n p q = p
first_step false true f n p q = q
first_step false false f n p q = omega arith

first_later : (p : ℕ → Bool) (n : ℕ) → 1 ≤ first_to p 1 → 1 ≤ first_to p (suc n)
unfolding first_to
first_later p zero h = h
first_later p (suc n) h = first_step (ltb (first_to p (suc n)) (suc n)) (p (suc n)) (first_to p (suc n)) (suc n) (first_later p n h) (omega arith)

first_zero : (p : ℕ → Bool) → first_to p 0 ≡ 0
unfolding first_to
first_zero p = refl

module _ (x : ℕ → ℕ → Float) (m k : ℕ) (centre : ℕ → ℕ) (some : 0 < m) (groups : 0 < k) where
  pass_below : (t i : ℕ) → i < m → numbers (labels_at x m k centre (suc t)) i < k
  unfolding labels_at
  pass_below t i h =
      rw (get_d_listed (λ j. (nearest_centroid x m k (centroids_at x m k centre t) j).at) m i 0 h)
      (nearest_below (λ l. squared (x i) (centroids_at x m k centre t l) m) k k (omega arith) groups)

  start : numbers (labels_at x m k centre 0) 0 ≡ k
  unfolding labels_at
  start = get_d_listed (λ i. k) m 0 0 some

  -- the first pass changes a label
  pub first_changes : converges_at x m k centre 0 ≡ false
  first_changes =
      sym (all_fails (λ i. eqb (numbers (labels_at x m k centre 0) i) (numbers (labels_at x m k centre 1) i)) m 0 some
      (rw start (ne_eqb k (numbers (labels_at x m k centre 1) 0) (λ e. omega (arith, pass_below 0 0 some)))))

  pub some_passes : 1 ≤ passes x m k centre
  some_passes =
      let e = first_more (converges_at x m k centre) 0 (first_zero (converges_at x m k centre)) first_changes in
      first_later (converges_at x m k centre) 299 (omega (arith, e))

  at_least : (p : ℕ) → 1 ≤ p → (i : ℕ) → i < m → numbers (labels_at x m k centre p) i < k
  at_least zero s i h = absurd (omega arith)
  at_least (suc t) s i h = pass_below t i h

  pub labels_below : (i : ℕ) → i < m → numbers (lloyd_labels x m k centre) i < k
  labels_below = at_least (passes x m k centre) some_passes

-- there is a label for each item
by_pass : (x : ℕ → ℕ → Float) (m k : ℕ) (centre : ℕ → ℕ) (t : ℕ) → length (labels_at x m k centre t) ≡ m
unfolding labels_at
by_pass x m k centre zero = length-listed (λ i. k) m
by_pass x m k centre (suc t) = length-listed (λ i. (nearest_centroid x m k (centroids_at x m k centre t) i).at) m

pub labels_length : (x : ℕ → ℕ → Float) (m k : ℕ) (centre : ℕ → ℕ) → length (lloyd_labels x m k centre) ≡ m
labels_length x m k centre = by_pass x m k centre (passes x m k centre)
