use lib.ListN.{length}
use Rattle.lloyd_pass.proofs.Turn.{Midway}
use Rattle.lloyd_pass.proofs.refresh_rows.Given as goal

abbrev pub invariant-loop-l : goal.invariant-loop-l
invariant-loop-l l = Midway l.labels l.initial.dists l.initial.area (length l.labels) l.l l.dists l.area
