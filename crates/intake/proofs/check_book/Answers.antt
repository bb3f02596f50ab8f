use Rattle.std.proofs.lemmas.Result.{err_from_is_err_and}
use Rattle.intake.proofs.Shape.{shape_err, shape_fits, shape_ok, shape_passes}
use Rattle.intake.proofs.check_book.Goals as goal

pub returns-in_err-map_err : goal.returns-in_err-map_err
returns-in_err-map_err c =
    let p = err_from_is_err_and c.from_residual.result c.from_residual.ensures.1 in
    rw (p.1, p.2) (shape_err c.args.cells.now c.args.rows c.args.cols c.check_shape.result c.map_err.result c.check_shape.ensures c.map_err.ensures.cases c.in_err-map_err.was)

pub check_cells-requires : goal.check_cells-requires
check_cells-requires c =
    shape_fits c.args.cells.now c.args.rows c.args.cols
    (shape_ok c.args.cells.now c.args.rows c.args.cols c.check_shape.result c.map_err.result c.check_shape.ensures c.map_err.ensures.cases c.in_ok-map_err.was)

pub returns : goal.returns
returns c =
    shape_passes c.args.cells.now c.args.rows c.args.cols
    (shape_ok c.args.cells.now c.args.rows c.args.cols c.check_shape.result c.map_err.result c.check_shape.ensures c.map_err.ensures.cases c.in_ok-map_err.was) c.check_cells.ensures
