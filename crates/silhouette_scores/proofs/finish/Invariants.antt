use mathlib.Core.Path.{◌≡◌}
use Rattle.lists.specs.Lists.{cells}
use Rattle.lists.proofs.Listed.{writes}
use Rattle.silhouette_scores.specs.Scores.{score_of}
use Rattle.silhouette_scores.proofs.finish.Given as goal

abbrev pub invariant-loop-i : goal.invariant-loop-i
invariant-loop-i l = l.scores ≡ writes (λ k. score_of (cells l.own k) (cells l.initial.scores k)) l.i l.initial.scores
