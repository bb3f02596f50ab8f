-- The mean, the variance and the deviation of n values, given as an index function. Definitions only.
use Rattle.std.specs.Prelude.{ℕ, ◌-◌, Bool, cond, not, ◌&&◌, ◌||◌, List, [], ◌∷◌, eqb, leb, ltb, Option, Some, None, Result, Ok, Err, Float}
use Rattle.std.specs.Float.Ieee.{is_nan, to_bits, div}
use Rattle.std.specs.Float.{binary64}
use Rattle.std.specs.Float.Ieee.Scale.{finite}
use Rattle.lists.specs.Sums.{sum_to, all_to, counted, square_from}
use Rattle.sqrt.specs.Root.{root}
use Rattle.stats.specs.declared.TooMany.{TooMany}

-- x is a number with the bits of y
abbrev pub same_bits : Float → Float → Bool
same_bits x y = not (is_nan x) && eqb (to_bits binary64 x) (to_bits binary64 y)

-- the first value is finite, and each value has its bits
unfoldable pub constant : (ℕ → Float) → ℕ → Bool
constant f n = finite (f 0) && all_to (λ j. same_bits (f j) (f 0)) n

-- the mean of one value or more: where `constant` holds it is the first of them, without rounding, else their sum over their count
unfoldable pub exact_mean : (ℕ → Float) → ℕ → Float
exact_mean f n = cond (constant f n) (f 0) (div binary64 (sum_to f n) (counted n))

-- the squares of the differences from m, summed, over n - ddof
unfoldable pub variance_about : Float → (ℕ → Float) → ℕ → ℕ → Float
variance_about m f n ddof = div binary64 (sum_to (λ j. square_from m (f j)) n) (counted (n - ddof))

-- the variance of more than ddof values
unfoldable pub variance_of : (ℕ → Float) → ℕ → ℕ → Float
variance_of f n ddof = variance_about (exact_mean f n) f n ddof

-- the deviation of more than ddof values
abbrev pub deviation_of : (ℕ → Float) → ℕ → ℕ → Float
deviation_of f n ddof = root (variance_of f n ddof)

abbrev pub Average : Type 0
Average = Result (Option Float) TooMany

-- the table's number for each answer, 0 where nothing is refused, and its values: none where there is no average
abbrev pub number_of : Average → ℕ
number_of (Ok x) = 0
number_of (Err e) = 4

abbrev pub values_of : Average → List Float
values_of (Ok (Some x)) = x ∷ []
values_of (Ok None) = []
values_of (Err e) = []

-- an answer as the table gives it
pub record Averaged : Type 0 where
  pub number : ℕ
  pub values : List Float

abbrev pub averaged_of : Average → Averaged
averaged_of a = record { number = number_of a; values = values_of a }

-- the most values that an average is worked out of
abbrev pub most_values : ℕ
most_values = 65536

-- x as the average of n values: refused by 4 where they are more than that, and no value where there is `none`
unfoldable pub averaged : ℕ → Bool → Float → Averaged
averaged n none x =
    cond (ltb most_values n) (record { number = 4; values = [] })
    (record { number = 0; values = cond none [] (x ∷ []) })

-- mean, variance and std_dev: no value for n = 0, and for n at most ddof
abbrev pub mean : (ℕ → Float) → ℕ → Averaged
mean f n = averaged n (eqb n 0) (exact_mean f n)

abbrev pub variance : (ℕ → Float) → ℕ → ℕ → Averaged
variance f n ddof = averaged n (eqb n 0 || leb n ddof) (variance_of f n ddof)

abbrev pub deviation : (ℕ → Float) → ℕ → ℕ → Averaged
deviation f n ddof = averaged n (eqb n 0 || leb n ddof) (deviation_of f n ddof)
