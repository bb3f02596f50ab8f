use Rattle.std.proofs.Common.{◌≡◌, length}
use Rattle.rng_chacha.specs.ChaCha.{plus}
use Rattle.lists.specs.Lists.{numbers}
use Rattle.lists.proofs.Listed.{writes}
use Rattle.rng_chacha.proofs.sum.Given as goal

abbrev pub invariant-loop-i : goal.invariant-loop-i
invariant-loop-i l = (length l.out ≡ 16) × (length l.t ≡ 16) × (l.out ≡ writes (λ k. plus (numbers l.fn.s k) (numbers l.t k)) l.i l.t)
