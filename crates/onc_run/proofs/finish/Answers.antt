use mathlib.Core.Path.{◌∙◌, ◌≡◌}
use native.Mathlib.Omega.{arith}
use lib.ListN.{length}
use Rattle.onc_run.specs.Run.{Lists, draws_of, run_of}
use Rattle.onc_run.proofs.Running.{order_below}
use Rattle.onc_run.proofs.Runs.{run_whole}
use Rattle.onc_run.proofs.finish.Goals as goal

pub cells_through-requires : goal.cells_through-requires
cells_through-requires c =
    let l : Lists = record { order = c.args.order.now; sizes = c.args.sizes.now; scores = c.args.scores.now; ordered = c.args.ordered.now; floats = c.args.floats.now; numbers = c.args.numbers.now } in
    let long : length c.run-ran.new.order ≡ c.args.n = c.run-ran.auto.order ∙ c.requires.0.order_long in
    let below = order_below c.args.book.now c.args.n (run_of c.args.book.now c.args.n c.args.repeat (draws_of c.args.seeded c.args.seed c.args.book.now c.args.n c.args.repeat c.args.draws.now)) l c.run-ran.ensures _ _ c.in_ok-top.was (run_whole c.args.book.now c.args.n c.args.repeat (draws_of c.args.seeded c.args.seed c.args.book.now c.args.n c.args.repeat c.args.draws.now) c.requires.0.two) in
    (record { few = c.requires.0.few; square = c.requires.0.square; few_read = omega (arith, long, c.requires.0.few); within = below }, omega (arith, long, c.requires.0.two), rw long c.requires.1)
