use mathlib.Core.Path.{◌≡◌}
use Rattle.lists.proofs.Listed.{writes}
use Rattle.test_words.specs.Words.{word_from}
use Rattle.test_words.proofs.draws.Given as goal

abbrev pub invariant-loop-i : goal.invariant-loop-i
invariant-loop-i l = l.xs ≡ writes (λ k. word_from l.text l.at k) l.i l.initial.xs
