use Prim.Native.Nat.{◌*◌, ◌+◌, ◌-◌, ◌≤◌}
use mathlib.Core.Path.{◌≡◌}
use lib.ListN.{drop, length, take}
use Rattle.plusplus.specs.Seeding.{centres_of}
use Rattle.draws.specs.Counts.{trials_of}
use Rattle.plusplus_trials.specs.Trials.{table}
use Rattle.plusplus.proofs.more_centres.Given as goal

abbrev pub invariant-loop-j : goal.invariant-loop-j
invariant-loop-j l =
    (l.k ≡ length l.initial.centres) × (l.count ≡ trials_of (length l.initial.centres)) × (1 ≤ l.j) × (l.j ≤ l.k) × (l.at ≡ l.from + (l.j - 1) * trials_of (length l.initial.centres)) × (length l.centres ≡ l.k) × (length l.weights ≡ length l.initial.weights)
    × (centres_of (table l.squares (length l.initial.weights)) (length l.initial.weights) (trials_of (length l.initial.centres)) (length l.initial.centres - 1) l.initial.weights (take 1 l.initial.centres) l.from (drop l.from l.draws)
    ≡ centres_of (table l.squares (length l.initial.weights)) (length l.initial.weights) (trials_of (length l.initial.centres)) (length l.initial.centres - l.j) l.weights (take l.j l.centres) l.at (drop l.at l.draws))
    × (length l.sums ≡ length l.initial.weights)
