use Rattle.silhouette_scores.specs.Groups.{Midway}
use Rattle.silhouette_scores.proofs.scores_by_label.Given as goal

abbrev pub invariant-loop-l : goal.invariant-loop-l
invariant-loop-l l = Midway l.across l.labels l.l l.scores l.own
