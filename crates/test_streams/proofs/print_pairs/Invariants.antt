use Prim.Native.Nat.{◌*◌, ◌≤◌}
use Rattle.rng_std.specs.States.{Holds}
use Rattle.test_streams.proofs.print_pairs.Given as goal

abbrev pub invariant-loop : goal.invariant-loop
invariant-loop l = Holds l.taken l.rng × (l.taken ≤ 4 * l.counter) × (l.counter ≤ l.times)
