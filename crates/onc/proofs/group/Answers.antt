use Rattle.std.proofs.lemmas.Result.{err_from_is_err_and}
use Rattle.onc_run.specs.Run.{draws_of}
use Rattle.onc.proofs.Calls.{asked_fair, asked_kept, asked_ran}
use Rattle.onc.proofs.group.Goals as goal

pub returns-in_err-check : goal.returns-in_err-check
returns-in_err-check c =
    let y = err_from_is_err_and c.from_residual.result c.from_residual.ensures.1 in
    rw (y.1, y.2) (asked_kept c.args.book.now c.args.rows c.args.cols c.args.repeat (draws_of c.args.seeded c.args.seed c.args.book.now c.args.rows c.args.repeat c.args.draws.now) (record { order = c.args.order.now; sizes = c.args.sizes.now; scores = c.args.scores.now; ordered = c.args.ordered.now; floats = c.args.floats.now; numbers = c.args.numbers.now }) c.check.result c.lists_fit-fits.result c.lists_fit-fits.ensures c.check.ensures _ c.in_err-check.was)

pub finish-requires : goal.finish-requires
finish-requires c = asked_fair c.args.book.now c.args.rows c.args.cols c.args.repeat (draws_of c.args.seeded c.args.seed c.args.book.now c.args.rows c.args.repeat c.args.draws.now) (record { order = c.args.order.now; sizes = c.args.sizes.now; scores = c.args.scores.now; ordered = c.args.ordered.now; floats = c.args.floats.now; numbers = c.args.numbers.now }) c.check.result c.lists_fit-fits.result c.lists_fit-fits.ensures c.check.ensures _ c.in_ok-check.was

pub returns : goal.returns
returns c = asked_ran c.args.book.now c.args.rows c.args.cols c.args.repeat (draws_of c.args.seeded c.args.seed c.args.book.now c.args.rows c.args.repeat c.args.draws.now) (record { order = c.args.order.now; sizes = c.args.sizes.now; scores = c.args.scores.now; ordered = c.args.ordered.now; floats = c.args.floats.now; numbers = c.args.numbers.now }) c.check.result c.lists_fit-fits.result c.lists_fit-fits.ensures c.check.ensures _ c.in_ok-check.was c.finish.ensures
