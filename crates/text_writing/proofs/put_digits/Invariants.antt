use mathlib.Core.Path.{◌≡◌}
use lib.Seq.{sets}
use Rattle.text_digits.specs.Digits.{digits_of}
use Rattle.text_writing.proofs.put_digits.Given as goal

abbrev pub invariant-loop-i : goal.invariant-loop-i
invariant-loop-i l = (sets l.initial.out l.at (digits_of l.base l.k l.x) ≡ sets l.out l.at (digits_of l.base l.i l.rest))
