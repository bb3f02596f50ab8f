use Rattle.lists.specs.Lists as list
use mathlib.Core.Path.{◌≡◌}
use mathlib.Core.Bool.{true}
use lib.Dec.{eqb}
use Rattle.lists.specs.Sums.{all_to}
use Rattle.test_words.specs.Words.{word_from}
use Rattle.test_compared.proofs.same_numbers.Given as goal

abbrev pub invariant-loop-i : goal.invariant-loop-i
invariant-loop-i l = all_to (λ k. eqb (list.numbers l.xs k) (word_from l.text l.at k)) l.i ≡ true
