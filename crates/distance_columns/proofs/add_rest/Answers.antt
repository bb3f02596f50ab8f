use mathlib.Core.Path.{◌∙◌}
use Rattle.distance_columns.proofs.Steps.{column_added}
use Rattle.distance_columns.proofs.add_rest.Goals as goal

pub loop-c-preserved : goal.loop-c-preserved
loop-c-preserved c = c.add_column.ensures ∙ column_added c.args.own.now c.args.across.now c.args.from c.loop-c.c c.loop-c.invariant c.column_of.ensures
