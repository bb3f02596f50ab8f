-- The t-statistic of n values, mean over population deviation, and their plain mean. López de Prado, MLAM (2020) section 4.4, snippet 4.1
-- (base clustering). Definitions only.
use Rattle.std.specs.Prelude.{ℕ, false, cond, eqb, Float}
use Rattle.std.specs.Float.{inf, binary64}
use Rattle.std.specs.Float.Ieee.{lt, le, div, of_bits}
use Rattle.lists.specs.Sums.{zero64, sum_to, counted}
use Rattle.stats.specs.Average.{exact_mean, deviation_of, Averaged, averaged}

-- the double nearest 1e-12
abbrev pub tiny : Float
tiny = of_bits binary64 0x3d719799812dea11

-- mean over deviation; a deviation of at most 1e-12 gives +infinity where the mean is above 0, and 0 elsewhere
unfoldable pub ratio : Float → Float → Float
ratio m s = cond (le s tiny) (cond (lt zero64 m) (inf false) zero64) (div binary64 m s)

-- of no value: 0
unfoldable pub tstat_of : (ℕ → Float) → ℕ → Float
tstat_of f n = cond (eqb n 0) zero64 (ratio (exact_mean f n) (deviation_of f n 0))

abbrev pub tstat : (ℕ → Float) → ℕ → Averaged
tstat f n = averaged n false (tstat_of f n)

-- the plain mean: the sum over the count, with no exception for equal values; of no value it is 0 over 0, a NaN
unfoldable pub plain_mean : (ℕ → Float) → ℕ → Float
plain_mean f n = div binary64 (sum_to f n) (counted n)

abbrev pub mean_of : (ℕ → Float) → ℕ → Averaged
mean_of f n = averaged n false (plain_mean f n)
