use mathlib.Core.Path.{◌∙◌}
use Rattle.areas.proofs.Regions.{squared_item_is}
use Rattle.areas.proofs.squared_item.Goals as goal

pub returns : goal.returns
returns c = c.squared_tail.ensures ∙ squared_item_is c.args.area.now c.args.m c.args.i c.requires.0 c.requires.1 c.row_of.ensures
