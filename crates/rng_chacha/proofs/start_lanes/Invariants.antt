use Rattle.std.proofs.Common.{◌≡◌, ◌+◌, length}
use Rattle.rng_chacha.specs.Four.{Each}
use Rattle.rng_chacha.specs.ChaCha.{start_of}
use Rattle.rng_chacha.proofs.start_lanes.Given as goal

abbrev pub invariant-loop-b : goal.invariant-loop-b
invariant-loop-b l = (length l.s ≡ 64) × Each (λ a. start_of l.key (l.number + a) l.stream) l.b l.s
