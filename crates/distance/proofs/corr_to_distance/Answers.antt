use Rattle.std.proofs.Common.{◌*◌, ◌∙◌, ap, length, sym}
use Rattle.std.proofs.lemmas.Result.{err_from_is_err_and}
use borrow.Author.Tests.{eqb-true}
use Rattle.lists.specs.Lists.{cells, listed}
use Rattle.refusals.proofs.Laws.{allowed, err_filled, fits_asked, ok_filled}
use Rattle.distance.specs.Distance.{distance_of}
use Rattle.distance.specs.Leaves.{corr_to_distance}
use Rattle.distance.proofs.Laws.{plain_matrix}
use Rattle.distance.proofs.corr_to_distance.Goals as goal

pub returns-in_err-check : goal.returns-in_err-check
unfolding corr_to_distance
returns-in_err-check c =
    let p = err_from_is_err_and c.from_residual.result c.from_residual.ensures.1 in
    rw (p.1, p.2) (err_filled _ _ _ (c.in_err-check.ensures ∙ fits_asked _ _ _ _ _ _ _ c.is_square-fits.ensures.0))

pub distances_of-requires : goal.distances_of-requires
distances_of-requires c =
    let a = allowed (c.in_ok-check.ensures ∙ fits_asked _ _ _ _ _ _ _ c.is_square-fits.ensures.0) in
    sym (a.square ∙ sym (eqb-true (length c.args.out.now) (c.args.n * c.args.n) a.fitting))

pub returns : goal.returns
unfolding corr_to_distance
returns c =
    let k = c.in_ok-check.ensures ∙ fits_asked _ _ _ _ _ _ _ c.is_square-fits.ensures.0 in
    ok_filled _ k
    (c.distances_of.ensures ∙ ap (listed (λ t. distance_of (cells c.args.book.now t))) (allowed k).square ∙ plain_matrix distance_of c.args.book.now c.args.n)
