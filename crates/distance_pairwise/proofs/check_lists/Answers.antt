use mathlib.Core.Path.{◌∙◌}
use Rattle.refusals.proofs.Laws.{fits_asked}
use Rattle.distance_pairwise.specs.Leaves.{lists_fit}
use Rattle.distance_pairwise.proofs.check_lists.Goals as goal

pub returns : goal.returns
returns c = c.check.ensures ∙ fits_asked c.args.cells c.args.n c.args.m c.lists_fit.result (lists_fit c.args.m c.args.out c.args.floats) c.args.bad c.args.count c.lists_fit.ensures
