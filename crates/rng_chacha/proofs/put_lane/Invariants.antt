use Rattle.rng_chacha.proofs.Lanes.{Storing}
use Rattle.rng_chacha.proofs.put_lane.Given as goal

abbrev pub invariant-loop-j : goal.invariant-loop-j
invariant-loop-j l = Storing l.b l.j l.fn.t l.initial.s l.s
