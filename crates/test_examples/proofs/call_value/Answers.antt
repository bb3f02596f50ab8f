use mathlib.Core.Path.{◌∙◌, ap}
use mathlib.Core.List.{[], ◌∷◌}
use borrow.Author.Tests.{eq-eqb, ne_eqb, lt-ltb, le-ltb}
use Rattle.std.proofs.lemmas.Result.{err_from_is_err_and}
use lib.Ieee.{Float}
use Rattle.test_examples.specs.Cases.{measured_by, valued, value_of}
use Rattle.test_examples.proofs.call_value.Goals as goal

pub returns-then-c-lt2 : goal.returns-then-c-lt2
unfolding value_of
returns-then-c-lt2 c = rw (lt-ltb _ _ c.if-c-lt2.true) c.root_of.ensures

pub returns-then-c-lt7 : goal.returns-then-c-lt7
unfolding value_of
returns-then-c-lt7 c = rw (le-ltb _ _ c.if-c-lt2.false, lt-ltb _ _ c.if-c-lt7.true) (c.of_average.ensures ∙ ap measured_by c.average.ensures)

pub returns-then-c-eq7 : goal.returns-then-c-eq7
unfolding value_of
returns-then-c-eq7 c = rw (le-ltb _ _ c.if-c-lt2.false, le-ltb _ _ c.if-c-lt7.false, eq-eqb _ _ c.if-c-eq7.true) (ap (λ (x : Float). valued (x ∷ [])) c.squared_distance.ensures)

pub returns-in_err-squared : goal.returns-in_err-squared
unfolding value_of
returns-in_err-squared c =
    let p = err_from_is_err_and c.from_residual.result c.from_residual.ensures.1 in
    rw (le-ltb _ _ c.if-c-lt2.false, le-ltb _ _ c.if-c-lt7.false, ne_eqb _ _ c.if-c-eq7.false, eq-eqb _ _ c.if-c-eq14.true, p.1, p.2) c.in_err-squared.ensures

pub returns-then-c-eq14 : goal.returns-then-c-eq14
unfolding value_of
returns-then-c-eq14 c = rw (le-ltb _ _ c.if-c-lt2.false, le-ltb _ _ c.if-c-lt7.false, ne_eqb _ _ c.if-c-eq7.false, eq-eqb _ _ c.if-c-eq14.true) c.in_ok-squared.ensures

pub returns : goal.returns
unfolding value_of
returns c = rw (le-ltb _ _ c.if-c-lt2.false, le-ltb _ _ c.if-c-lt7.false, ne_eqb _ _ c.if-c-eq7.false, ne_eqb _ _ c.if-c-eq14.false) c.call_many.ensures
