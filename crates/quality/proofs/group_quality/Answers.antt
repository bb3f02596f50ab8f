use Rattle.quality.proofs.Gathered.{gathered_quality}
use Rattle.quality.proofs.group_quality.Goals as goal

pub returns : goal.returns
returns c = gathered_quality c.args.scores.now c.args.members.now _ c.gather.ensures c.tstat_value.ensures
