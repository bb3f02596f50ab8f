use Rattle.std.proofs.Common.{◌*◌, length, arith}
use Rattle.std.proofs.lemmas.Result.{err_from_is_err_and}
use borrow.Author.Tests.{eqb-true}
use Rattle.refusals.proofs.Laws.{allowed, err_filled, ok_filled}
use Rattle.distance.specs.Leaves.{submatrix_of}
use Rattle.distance.proofs.Laws.{readable}
use Rattle.distance.proofs.submatrix.Goals as goal

pub returns-in_err-check_rows : goal.returns-in_err-check_rows
unfolding submatrix_of
returns-in_err-check_rows c =
    let p = err_from_is_err_and c.from_residual.result c.from_residual.ensures.1 in rw (p.1, p.2) (err_filled _ _ _ c.in_err-check_rows.ensures)

pub fill_cells-requires : goal.fill_cells-requires
fill_cells-requires c =
    let a = allowed c.in_ok-check_rows.ensures in
    (readable c.args.book.now c.args.n c.args.rows.now _ a, omega (arith, a.two_read), eqb-true (length c.args.out.now) (length c.args.rows.now * length c.args.rows.now) a.fitting)

pub returns : goal.returns
unfolding submatrix_of
returns c = ok_filled _ c.in_ok-check_rows.ensures c.fill_cells.ensures
