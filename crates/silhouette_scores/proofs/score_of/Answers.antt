use Rattle.silhouette_scores.specs.Scores.{score_of}
use lib.Ieee.{of_bits}
use Rattle.silhouette_scores.proofs.score_of.Goals as goal
use Rattle.silhouette_scores.proofs.score_of.Goals.{then-not-is_finite-via-then-not-is_finite, then-not-is_finite-via-else-not-is_finite+then-both_zero}

pub returns-then-not-is_finite : goal.returns-then-not-is_finite
unfolding score_of of_bits
returns-then-not-is_finite c = elim c.then-not-is_finite.branch [
  | then-not-is_finite-via-then-not-is_finite w ↦ rw (← c.is_finite.ensures, w.if-not-is_finite.true)
  | then-not-is_finite-via-else-not-is_finite+then-both_zero w ↦ rw (← c.is_finite.ensures, w.if-not-is_finite.false, ← w.both_zero.ensures, w.if-both_zero.true)
]

pub returns : goal.returns
unfolding score_of
returns c = rw (c.larger.ensures, ← c.is_finite.ensures, c.if-not-is_finite.false, ← c.both_zero.ensures, c.if-both_zero.false)
