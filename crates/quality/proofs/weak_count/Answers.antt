use Rattle.std.proofs.Common.{◌≡◌, rules}
use Rattle.std.specs.List.{count_by}
use lib.Ieee.{lt}
use Rattle.quality.proofs.Weak.{weak_counted}
use Rattle.quality.proofs.weak_count.Goals as goal

pub returns : goal.returns
returns c =
    let e : c.count.result ≡ count_by (λ q. lt q c.average-limit.result) c.args.qs.now = search rules in
    weak_counted c.args.qs.now c.average-limit.ensures e
