use Rattle.std.proofs.Common.{◌≡◌}
use Rattle.rng_chacha.specs.ChaCha.{rounds_of}
use Rattle.rng_chacha.proofs.double_rounds.Given as goal

abbrev pub invariant-loop : goal.invariant-loop
invariant-loop l = l.t ≡ rounds_of l.counter l.initial.t
