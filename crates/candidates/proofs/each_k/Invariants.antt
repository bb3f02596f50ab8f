use Prim.Native.Nat.{◌*◌, ◌+◌, ◌-◌, ◌≤◌}
use mathlib.Core.Path.{◌≡◌}
use lib.ListN.{length, take}
use Rattle.draws.specs.Counts.{seedings_of, tries}
use Rattle.plusplus_seeded.specs.Sources.{RngOf, Supplies}
use Rattle.candidates.specs.Made.{repeat_moved, tries_given, tries_moved}
use Rattle.candidates.specs.Steps.{Lists, best_from}
use Rattle.distance_columns.specs.Columns.{points_at}
use Rattle.candidates.specs.Candidates.{tries_from}
use Rattle.candidates.proofs.each_k.Given as goal

abbrev pub invariant-loop-k : goal.invariant-loop-k
invariant-loop-k l =
    (l.end ≡ tries l.m + 2) × (2 ≤ l.k) × (l.k ≤ l.end) × Supplies l.here l.draws (seedings_of l.k (l.end - l.k)) × (take (4 * (l.m * l.m)) l.area ≡ take (4 * (l.m * l.m)) l.initial.area) × (length l.area ≡ length l.initial.area)
    × Lists l.m l.labels l.scores l.new_labels l.new_scores
    × (tries_from (points_at l.initial.area l.m) l.m 2 (tries l.m) (best_from l.initial.best l.initial.labels l.initial.scores) l.initial.here.at (tries_given (points_at l.initial.area l.m) l.m 2 (tries l.m) l.initial.here l.draws)
    ≡ tries_from (points_at l.initial.area l.m) l.m l.k (l.end - l.k) (best_from l.best l.labels l.scores) l.here.at (tries_given (points_at l.initial.area l.m) l.m l.k (l.end - l.k) l.here l.draws))
    × (repeat_moved (points_at l.initial.area l.m) l.m l.initial.here ≡ tries_moved (points_at l.initial.area l.m) l.m l.k (l.end - l.k) l.here) × RngOf l.here l.rng × (length l.rng ≡ length l.initial.rng)
