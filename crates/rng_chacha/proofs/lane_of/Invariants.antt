use Rattle.std.proofs.Common.{◌≡◌, ◌+◌, ◌*◌, length}
use Rattle.lists.specs.Lists.{numbers}
use Rattle.lists.proofs.Listed.{writes}
use Rattle.rng_chacha.proofs.lane_of.Given as goal

abbrev pub invariant-loop-j : goal.invariant-loop-j
invariant-loop-j l = (length l.t ≡ 16) × (l.t ≡ writes (λ k. numbers l.s (l.b + 4 * k)) l.j l.initial.t)
