use Rattle.text_answer.proofs.Lines.{Line}
use Rattle.text_answer.proofs.put_labels.Given as goal

abbrev pub invariant-loop-t : goal.invariant-loop-t
invariant-loop-t l = Line 10 l.labels l.initial.out l.out l.at l.n l.t l.p
