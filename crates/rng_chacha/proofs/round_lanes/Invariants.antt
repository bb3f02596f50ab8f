use Rattle.std.proofs.Common.{◌≡◌, length}
use Rattle.rng_chacha.specs.Four.{Each, lane_of}
use Rattle.rng_chacha.specs.ChaCha.{rounds_of}
use Rattle.rng_chacha.proofs.round_lanes.Given as goal

abbrev pub invariant-loop : goal.invariant-loop
invariant-loop l = (length l.s ≡ 64) × Each (λ a. rounds_of l.counter (lane_of a l.initial.s)) 4 l.s
