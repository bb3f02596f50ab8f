use Rattle.std.proofs.Common.{◌∙◌, rules, tests}
use Rattle.std.proofs.lemmas.Iterator.{YieldsList-from_slice}
use Rattle.std.proofs.lemmas.Iterator.Search.{all_from_yields_List}
use lib.Ieee.{nan}
use Rattle.stats.specs.Average.{same_bits}
use Rattle.stats.proofs.All.{all_of}
use Rattle.stats.proofs.all_same.Goals as goal

pub returns : goal.returns
returns c =
    all_from_yields_List (λ x. same_bits x c.args.first) _ _ _ c.all.ensures.ran (YieldsList-from_slice c.args.values.now (cc)) (λ x b q k. search (rules, tests))
    ∙ all_of (λ x. same_bits x c.args.first) nan c.args.values.now
