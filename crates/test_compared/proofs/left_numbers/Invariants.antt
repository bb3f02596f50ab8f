use Rattle.lists.specs.Lists as list
use mathlib.Core.Path.{◌≡◌}
use mathlib.Core.Bool.{true}
use lib.Dec.{eqb}
use Rattle.lists.specs.Sums.{all_to}
use Rattle.test_compared.specs.Compared.{left_at}
use Rattle.test_compared.proofs.left_numbers.Given as goal

abbrev pub invariant-loop-i : goal.invariant-loop-i
invariant-loop-i l = all_to (λ k. eqb (list.numbers l.numbers k) (left_at l.front 999 k)) l.i ≡ true
