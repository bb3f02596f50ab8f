use mathlib.Core.Path.{◌≡◌}
use mathlib.Core.Bool.{true}
use lib.Dec.{eqb}
use Rattle.lists.specs.Lists.{cells}
use Rattle.lists.specs.Sums.{all_to}
use Rattle.bits.specs.Bits.{bits_of}
use Rattle.test_compared.specs.Compared.{left_at, seven_bits}
use Rattle.test_compared.proofs.left_doubles.Given as goal

abbrev pub invariant-loop-i : goal.invariant-loop-i
invariant-loop-i l = all_to (λ k. eqb (bits_of (cells l.floats k)) (left_at l.front seven_bits k)) l.i ≡ true
