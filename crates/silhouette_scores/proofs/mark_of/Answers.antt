use lib.Ieee.{div, neg, of_bits}
use borrow.Author.Tests.{eq-eqb, ne_eqb}
use Rattle.silhouette_scores.proofs.mark_of.Goals as goal

pub returns-then-count-eq1 : goal.returns-then-count-eq1
unfolding of_bits neg div
returns-then-count-eq1 c = rw (eq-eqb _ _ c.if-count-eq1.true)

pub returns : goal.returns
unfolding of_bits div
returns c = rw (ne_eqb _ _ c.if-count-eq1.false)
