use Rattle.std.proofs.Common.{sym, arith}
use Rattle.draws.proofs.Bounds.{later_none, later_half, later_few}
use Rattle.draws.proofs.later_centres.Goals as goal

pub returns-then-most-least : goal.returns-then-most-least
returns-then-most-least c = (sym (later_none c.args.least c.args.most c.requires.0 c.if-most-least.true), omega arith)

pub returns : goal.returns
returns c =
    let half = later_half c.args.least c.args.most c.requires.0 in
    (half, omega (arith, half, later_few c.args.least c.args.most c.requires.0 (omega arith) c.requires.1))
