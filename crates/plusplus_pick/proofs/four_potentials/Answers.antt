use mathlib.Core.Path.{◌≡◌}
use mathlib.Core.Bool.{false}
use lib.Ieee.{ne}
use lib.ListN.{length}
use Rattle.lists.specs.Lists.{cells}
use Rattle.plusplus_pick.proofs.Picks.{least_sum, same_number}
use Rattle.plusplus_pick.proofs.four_potentials.Goals as goal

pub returns-then-total : goal.returns-then-total
returns-then-total c =
    let s = c.args in
    let w = cells s.weights.now in
    let m = length s.weights.now in
    let h : ne s.total s.total ≡ false = same_number s.total c.if-total.true in
    (least_sum w (cells s.a.now) m c.requires.4 h c.four_least.ensures.0, least_sum w (cells s.b.now) m c.requires.4 h c.four_least.ensures.1, least_sum w (cells s.c.now) m c.requires.4 h c.four_least.ensures.2, least_sum w (cells s.d.now) m c.requires.4 h c.four_least.ensures.3)
