use borrow.Author.Tests.{eq-eqb, ne_eqb}
use Rattle.test_kmeans.specs.Cases.{leaf_of}
use Rattle.test_kmeans.proofs.call.Goals as goal

pub returns-then-c-eq1 : goal.returns-then-c-eq1
unfolding leaf_of
returns-then-c-eq1 c = rw (eq-eqb _ _ c.if-c-eq1.true) c.kmeans_plus_plus.ensures

pub returns-then-c-eq2 : goal.returns-then-c-eq2
unfolding leaf_of
returns-then-c-eq2 c = rw (ne_eqb _ _ c.if-c-eq1.false, eq-eqb _ _ c.if-c-eq2.true) c.lloyd.ensures

pub returns : goal.returns
unfolding leaf_of
returns c = rw (ne_eqb _ _ c.if-c-eq1.false, ne_eqb _ _ c.if-c-eq2.false) c.kmeans_labels.ensures
