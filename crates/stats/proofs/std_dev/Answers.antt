use Rattle.std.proofs.Common.{◌∙◌, ap}
use Rattle.std.proofs.lemmas.Result.{err_from_is_err_and}
use Rattle.sqrt.specs.Root.{root}
use Rattle.stats.proofs.Averages.{each, each_averaged, each_mapped}
use Rattle.stats.proofs.std_dev.Goals as goal

pub returns-in_err-variance : goal.returns-in_err-variance
returns-in_err-variance c =
    let p = err_from_is_err_and c.from_residual.result c.from_residual.ensures.1 in
    rw p.1 (ap (each root) c.in_err-variance.ensures ∙ each_averaged root _ _ _)

pub returns : goal.returns
returns c = each_mapped root _ _ c.map.ensures.cases ∙ ap (each root) c.in_ok-variance.ensures ∙ each_averaged root _ _ _
