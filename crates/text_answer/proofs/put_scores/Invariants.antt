use mathlib.Core.List.{map}
use Rattle.bits.specs.Bits.{bits_of}
use Rattle.text_answer.proofs.Lines.{Line}
use Rattle.text_answer.proofs.put_scores.Given as goal

abbrev pub invariant-loop-t : goal.invariant-loop-t
invariant-loop-t l = Line 16 (map bits_of l.scores) l.initial.out l.out l.at l.n l.t l.p
