-- How good each group is, and which are weak: those whose t-stat is below the average. López de Prado, MLAM (2020) section 4.4, snippet 4.2
-- (higher-level clustering). Definitions only.
use Rattle.std.specs.Prelude.{ℕ, Bool, cond, not, List, [], ◌∷◌, ◌++◌, map, length, Float}
use Rattle.std.specs.Float.Ieee.{lt, div}
use Rattle.std.specs.Float.{binary64}
use Rattle.lists.specs.Lists.{cells}
use Rattle.lists.specs.Sums.{counted, fold_if, sum_if, count_if}
use Rattle.tstat.specs.Tstat.{tstat_of, plain_mean}
use Rattle.partition.specs.Partition.{group_at}

-- the t-stat of a group: of its members' scores, in member order
unfoldable pub quality_of : List Float → List ℕ → Float
quality_of scores g = tstat_of (cells (map (cells scores) g)) (length g)

-- the t-stat of each group
abbrev pub qualities_of : List Float → List (List ℕ) → List Float
qualities_of scores gs = map (quality_of scores) gs

-- their plain average: the sum over the count, with no exception for equal values
abbrev pub average : List Float → Float
average qs = plain_mean (cells qs) (length qs)

-- a group is weak whose t-stat is below the average
unfoldable pub weak : List Float → ℕ → Bool
weak qs g = lt (cells qs g) (average qs)

-- how many groups are weak, and the plain average of their t-stats
abbrev pub weak_count : List Float → ℕ
weak_count qs = count_if (weak qs) (length qs)

abbrev pub weak_mean : List Float → Float
weak_mean qs = div binary64 (sum_if (weak qs) (cells qs) (length qs)) (counted (weak_count qs))

-- the groups g with p g, by rising label
unfoldable pub picked : (ℕ → Bool) → List (List ℕ) → List (List ℕ)
picked p gs = fold_if p (λ out g. out ++ (group_at gs g ∷ [])) [] (length gs)

-- the weak groups, and those that are kept
abbrev pub weak_groups : List Float → List (List ℕ) → List (List ℕ)
weak_groups scores gs = picked (weak (qualities_of scores gs)) gs

abbrev pub kept_groups : List Float → List (List ℕ) → List (List ℕ)
kept_groups scores gs = picked (λ g. not (weak (qualities_of scores gs) g)) gs

-- which groups the code picks: those below the limit, or the others
abbrev pub on_side : List Float → Float → Bool → ℕ → Bool
on_side qs limit below g = cond (lt (cells qs g) limit) below (not below)
