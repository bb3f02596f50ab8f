use mathlib.Core.Path.{◌≡◌}
use Rattle.distance_columns.specs.Columns.{sums_from}
use Rattle.distance_columns.proofs.add_rest.Given as goal

abbrev pub invariant-loop-c : goal.invariant-loop-c
invariant-loop-c l = l.sums ≡ sums_from l.own l.across l.from l.c
