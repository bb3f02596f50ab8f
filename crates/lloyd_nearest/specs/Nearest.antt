-- The nearest and the farthest of some distances, and labels that are the same. Definitions only.
use Rattle.std.specs.Prelude.{ℕ, zero, suc, Bool, true, false, cond, List, eqb, length, Float}
use Rattle.std.specs.Float.{inf}
use Rattle.std.specs.Float.Ieee.{lt}
use Rattle.lists.specs.Lists.{cells, numbers}
use Rattle.lists.specs.Sums.{all_to}
use Rattle.lloyd_nearest.specs.declared.Best.{Best}

-- x at l, where it is strictly below the best so far
abbrev pub nearer : Best → Float → ℕ → Best
nearer b x l = cond (lt x b.value) (record { value = x; at = l }) b

-- the least of f 0, .., f (k - 1) that is below +infinity, with the lowest place that has it; +infinity at 0 where there is none
unfoldable pub nearest_to : (ℕ → Float) → ℕ → Best
nearest_to f zero = record { value = inf false; at = 0 }
nearest_to f (suc l) = nearer (nearest_to f l) (f l) l

-- x at i, where it is strictly above the best so far
abbrev pub farther : Best → Float → ℕ → Best
farther b x i = cond (lt b.value x) (record { value = x; at = i }) b

-- the greatest of the f i with i below n that are not taken, with the lowest place that has it; 0 where none is above -infinity
unfoldable pub farthest_to : (ℕ → Bool) → (ℕ → Float) → ℕ → Best
farthest_to taken f zero = record { value = inf true; at = 0 }
farthest_to taken f (suc i) = cond (taken i) (farthest_to taken f i) (farther (farthest_to taken f i) (f i) i)

-- the place of the greatest in a list
abbrev pub farthest_of : List Float → ℕ
farthest_of dists = (farthest_to (λ i. false) (cells dists) (length dists)).at

-- whether the first m labels are the same
abbrev pub same_labels : List ℕ → List ℕ → ℕ → Bool
same_labels a b m = all_to (λ i. eqb (numbers a i) (numbers b i)) m
