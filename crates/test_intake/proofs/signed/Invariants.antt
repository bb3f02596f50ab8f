use mathlib.Core.Path.{◌≡◌}
use Rattle.test_words.specs.Words.{word_from}
use Rattle.lists.proofs.Listed.{writes}
use Rattle.test_intake.specs.Cases.{signed_of}
use Rattle.test_intake.proofs.signed.Given as goal

abbrev pub invariant-loop-i : goal.invariant-loop-i
invariant-loop-i l = l.xs ≡ writes (λ k. signed_of (word_from l.text l.at k)) l.i l.initial.xs
