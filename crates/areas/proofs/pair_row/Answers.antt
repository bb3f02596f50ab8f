use mathlib.Core.Path.{◌∙◌}
use Rattle.areas.proofs.Regions.{pair_row_is}
use Rattle.areas.proofs.pair_row.Goals as goal

pub returns : goal.returns
returns c = c.root_cells.ensures ∙ pair_row_is c.args.area.now c.args.m c.args.i c.requires c.gather.ensures
