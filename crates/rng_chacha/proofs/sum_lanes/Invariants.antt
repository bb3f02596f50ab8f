use Rattle.std.proofs.Common.{◌≡◌, ◌+◌, length}
use Rattle.rng_chacha.specs.Four.{lane_of}
use Rattle.rng_chacha.specs.ChaCha.{start_of, summed}
use Rattle.rng_chacha.proofs.Fours.{Blocks}
use Rattle.rng_chacha.proofs.sum_lanes.Given as goal

abbrev pub invariant-loop-b : goal.invariant-loop-b
invariant-loop-b l = (length l.out ≡ 64) × Blocks (λ a. summed (start_of l.key (l.number + a) l.stream) (lane_of a l.s)) l.b l.out
