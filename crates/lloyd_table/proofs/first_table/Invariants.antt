use Rattle.lloyd_table.proofs.Steps.{FirstRows}
use Rattle.lloyd_table.proofs.first_table.Given as goal

abbrev pub invariant-loop-l : goal.invariant-loop-l
invariant-loop-l l = FirstRows l.centres l.initial.area l.m l.l l.area
