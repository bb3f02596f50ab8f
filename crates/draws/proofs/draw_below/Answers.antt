use Rattle.std.proofs.Common.{sym, ap}
use Rattle.draws.specs.Stops.{draw_of}
use Rattle.draws.proofs.Taken.{one_bad, one_good}
use Rattle.draws.proofs.draw_below.Goals as goal

pub returns-then-limit-d : goal.returns-then-limit-d
returns-then-limit-d c = ap draw_of (sym (one_bad c.args.limit c.args.draws.now c.args.at c.requires c.if-limit-d.true))

pub returns : goal.returns
returns c = ap draw_of (sym (one_good c.args.limit c.args.draws.now c.args.at c.requires c.if-limit-d.false))
