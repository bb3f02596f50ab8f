use Prim.Native.Nat.{◌*◌, ◌-◌, ◌≤◌}
use mathlib.Core.Path.{◌≡◌}
use lib.ListN.{length, take}
use Rattle.draws.specs.Counts.{count_of}
use Rattle.plusplus_seeded.specs.Sources.{RngOf, Supplies}
use Rattle.candidates.specs.Made.{repeats_given, repeats_moved}
use Rattle.candidates.specs.Steps.{Lists, best_from}
use Rattle.distance_columns.specs.Columns.{points_at}
use Rattle.candidates.specs.Candidates.{best_of, repeats_from}
use Rattle.candidates.proofs.each_repeat.Given as goal

abbrev pub invariant-loop-t : goal.invariant-loop-t
invariant-loop-t l =
    (l.t ≤ l.repeat) × Supplies l.here l.draws ((l.repeat - l.t) * count_of l.m) × (take (4 * (l.m * l.m)) l.area ≡ take (4 * (l.m * l.m)) l.initial.area) × (length l.area ≡ length l.initial.area)
    × Lists l.m l.labels l.scores l.new_labels l.new_scores
    × (best_of (points_at l.initial.area l.m) l.m l.repeat l.initial.here.at (repeats_given (points_at l.initial.area l.m) l.m l.repeat l.initial.here l.draws)
    ≡ repeats_from (points_at l.initial.area l.m) l.m (l.repeat - l.t) (best_from l.best l.labels l.scores) l.here.at (repeats_given (points_at l.initial.area l.m) l.m (l.repeat - l.t) l.here l.draws))
    × (repeats_moved (points_at l.initial.area l.m) l.m l.repeat l.initial.here ≡ repeats_moved (points_at l.initial.area l.m) l.m (l.repeat - l.t) l.here) × RngOf l.here l.rng × (length l.rng ≡ length l.initial.rng)
