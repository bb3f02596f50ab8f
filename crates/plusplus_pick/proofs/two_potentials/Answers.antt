use lib.ListN.{length}
use Rattle.lists.specs.Lists.{cells}
use Rattle.plusplus_pick.proofs.Picks.{least_sum}
use Rattle.plusplus_pick.proofs.two_potentials.Goals as goal

pub returns : goal.returns
returns c =
    let w = cells c.args.weights.now in
    let m = length c.args.weights.now in
    (least_sum w (cells c.args.a.now) m c.requires.2 c.if-total.false c.two_least.ensures.0, least_sum w (cells c.args.b.now) m c.requires.2 c.if-total.false c.two_least.ensures.1)
