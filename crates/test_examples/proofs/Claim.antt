-- Every example of the table holds. antt computes each definition at its question.
use mathlib.Core.Path.{refl}
use lib.Ieee.{of_bits, to_bits, of_int, add, sub, mul, div, lt, le, eq, is_nan}
use Rattle.lists.specs.Lists.{listed, first_to, first_from}
use Rattle.refusals.specs.Table.{whenever, unless, refusal}
use Rattle.lists.specs.Sums.{sum_to, all_to, fold_if}
use Rattle.sqrt.specs.Root.{root}
use Rattle.stats.specs.Average.{constant, exact_mean, variance_about, variance_of, averaged}
use Rattle.tstat.specs.Tstat.{ratio, tstat_of}
use Rattle.silhouette_scores.specs.Scores.{least, score_of, score_from}
use Rattle.silhouette.specs.Leaf.{score_at, silhouettes_of}
use Rattle.draws.specs.Counts.{seedings_of, count_of}
use Rattle.test_examples.specs.Starred.{table, AllHold, answer, given, scored}

pub examples_hold : AllHold table
unfolding AllHold answer given scored listed first_to first_from whenever unless refusal sum_to all_to fold_if root constant exact_mean variance_about variance_of averaged ratio tstat_of least score_of score_from score_at silhouettes_of seedings_of count_of of_bits to_bits of_int add sub mul div lt le eq is_nan
examples_hold = (refl, (refl, (refl, (refl, (refl, (refl, (refl, (refl, (refl, (refl, (refl, (refl, (refl, (refl, (refl, (refl, (refl, tt)))))))))))))))))
