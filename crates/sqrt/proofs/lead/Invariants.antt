use Rattle.std.proofs.Common.{◌≡◌, ◌-◌, ◌*◌, ◌^◌, ◌<◌, ◌≤◌}
use Rattle.sqrt.proofs.lead.Given as goal

abbrev pub invariant-loop-m : goal.invariant-loop-m
invariant-loop-m l = (0 < l.m) × (l.m < 2 ^ 53) × (1021 < l.s) × (l.s ≤ 1074) × (l.m ≡ l.t * 2 ^ (1074 - l.s))

abbrev pub decreases-loop-m : goal.decreases-loop-m
decreases-loop-m l = l.s
