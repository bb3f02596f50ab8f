use mathlib.Core.Path.{◌∙◌, ap}
use mathlib.Core.List.{List}
use lib.Ieee.{Float}
use Rattle.lloyd_table.specs.Area.{with_row}
use Rattle.lloyd_table.proofs.Rows.{pair_cells}
use Rattle.lloyd_table.proofs.copy_row.Goals as goal

pub returns : goal.returns
returns c = c.gather.ensures ∙ ap (λ (r : List Float). with_row c.args.area.now c.args.m c.args.l r) (pair_cells c.requires.0 c.args.j c.requires.1)
