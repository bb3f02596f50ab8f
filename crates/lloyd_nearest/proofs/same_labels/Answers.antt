use mathlib.Core.Path.{◌∙◌}
use Rattle.lloyd_nearest.proofs.Steps.{labels_alike}
use Rattle.lloyd_nearest.proofs.same_labels.Goals as goal

pub returns : goal.returns
returns c = c.eq.ensures ∙ labels_alike c.args.a.now c.args.b.now c.requires
