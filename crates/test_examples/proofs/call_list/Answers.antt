use mathlib.Core.Path.{ap}
use borrow.Author.Tests.{eq-eqb, ne_eqb}
use Rattle.refusals.specs.Table.{Filled}
use Rattle.test_examples.specs.Cases.{kept_floats, list_of}
use Rattle.test_examples.proofs.call_list.Goals as goal

pub returns-then-c-eq8 : goal.returns-then-c-eq8
unfolding list_of
returns-then-c-eq8 c = rw (eq-eqb _ _ c.if-c-eq8.true) (ap (λ (l : Filled). kept_floats l c.args.floats.now) c.corr_to_distance.ensures)

pub returns-then-c-eq9 : goal.returns-then-c-eq9
unfolding list_of
returns-then-c-eq9 c = rw (ne_eqb _ _ c.if-c-eq8.false, eq-eqb _ _ c.if-c-eq9.true) (ap (λ (l : Filled). kept_floats l c.args.floats.now) c.corr_to_distance_through.ensures)

pub returns-then-c-eq10 : goal.returns-then-c-eq10
unfolding list_of
returns-then-c-eq10 c = rw (ne_eqb _ _ c.if-c-eq8.false, ne_eqb _ _ c.if-c-eq9.false, eq-eqb _ _ c.if-c-eq10.true) (ap (λ (l : Filled). kept_floats l c.args.floats.now) c.submatrix.ensures)

pub returns-then-c-eq11 : goal.returns-then-c-eq11
unfolding list_of
returns-then-c-eq11 c = rw (ne_eqb _ _ c.if-c-eq8.false, ne_eqb _ _ c.if-c-eq9.false, ne_eqb _ _ c.if-c-eq10.false, eq-eqb _ _ c.if-c-eq11.true) c.pairwise_distances.ensures

pub returns-then-c-eq12 : goal.returns-then-c-eq12
unfolding list_of
returns-then-c-eq12 c = rw (ne_eqb _ _ c.if-c-eq8.false, ne_eqb _ _ c.if-c-eq9.false, ne_eqb _ _ c.if-c-eq10.false, ne_eqb _ _ c.if-c-eq11.false, eq-eqb _ _ c.if-c-eq12.true) c.pairwise_distances_through.ensures

pub returns : goal.returns
unfolding list_of
returns c = rw (ne_eqb _ _ c.if-c-eq8.false, ne_eqb _ _ c.if-c-eq9.false, ne_eqb _ _ c.if-c-eq10.false, ne_eqb _ _ c.if-c-eq11.false, ne_eqb _ _ c.if-c-eq12.false) c.silhouette_from_pairwise.ensures
