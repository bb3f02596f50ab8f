use mathlib.Core.Path.{◌≡◌}
use Rattle.lists.specs.Sums.{sum_if}
use Rattle.lists.specs.Lists.{cells}
use Rattle.quality.specs.Quality.{average, weak}
use Rattle.quality.proofs.weak_mean.Given as goal

abbrev pub invariant-loop-q : goal.invariant-loop-q
invariant-loop-q l = (l.limit ≡ average l.qs) × (l.sum ≡ sum_if (weak l.qs) (cells l.qs) l.q-index)
