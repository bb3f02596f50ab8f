use lib.ListN.{length}
use Rattle.lists.specs.Lists.{cells}
use Rattle.plusplus_pick.proofs.Picks.{least_sum, same_number}
use Rattle.plusplus_pick.proofs.potential_by.Goals as goal

pub returns-then-total : goal.returns-then-total
returns-then-total c =
    let s = c.args in
    least_sum (cells s.weights.now) (cells s.a.now) (length s.weights.now) c.requires.1 (same_number s.total c.if-total.true) c.one_least.ensures
