use Rattle.std.proofs.Common.{◌≡◌}
use Rattle.lists.specs.Lists.{cells}
use Rattle.lists.specs.Sums.{sum_to}
use Rattle.lists.proofs.sum_of.Given as goal

abbrev pub invariant-loop-x : goal.invariant-loop-x
invariant-loop-x l = l.sum ≡ sum_to (cells l.values) l.x-index
