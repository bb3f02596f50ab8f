use Prim.Native.Nat.{◌*◌, ◌+◌, ◌-◌, ◌≤◌}
use mathlib.Core.Path.{◌≡◌}
use mathlib.Core.List.{◌++◌}
use lib.ListN.{length, take}
use Rattle.plusplus_trials.specs.Trials.{table}
use Rattle.rng_std.specs.States.{Moved, key_in}
use Rattle.rng_std.specs.Words.{word_of}
use Rattle.plusplus_seeded.specs.Seeded.{more_made}
use Rattle.plusplus_seeded.proofs.more_from.Given as goal

abbrev pub invariant-loop-j : goal.invariant-loop-j
invariant-loop-j l =
    (l.k ≡ length l.initial.centres) × (1 ≤ l.j) × (l.j ≤ l.k) × (length l.centres ≡ l.k) × (length l.weights ≡ length l.initial.weights) × (length l.draws ≡ length l.initial.draws) × (length l.sums ≡ length l.initial.weights)
    × Moved l.initial.rng l.taken l.rng × (l.taken ≤ l.first + 2 * ((l.j - 1) * length l.initial.draws))
    × (take 1 l.initial.centres ++ (more_made (word_of (key_in l.initial.rng)) (table l.squares (length l.initial.weights)) (length l.initial.weights) (length l.initial.draws) (length l.initial.centres - 1) l.initial.weights l.first).centres
    ≡ take l.j l.centres ++ (more_made (word_of (key_in l.initial.rng)) (table l.squares (length l.initial.weights)) (length l.initial.weights) (length l.initial.draws) (l.k - l.j) l.weights l.taken).centres)
    × ((more_made (word_of (key_in l.initial.rng)) (table l.squares (length l.initial.weights)) (length l.initial.weights) (length l.initial.draws) (length l.initial.centres - 1) l.initial.weights l.first).next
    ≡ (more_made (word_of (key_in l.initial.rng)) (table l.squares (length l.initial.weights)) (length l.initial.weights) (length l.initial.draws) (l.k - l.j) l.weights l.taken).next)
