use Rattle.std.proofs.Common.{◌≡◌, ℕ, ◌<◌, ◌≤◌, length}
use Rattle.rng_chacha.specs.Four.{Each, lane_of}
use Rattle.rng_chacha.specs.ChaCha.{double_of}
use Rattle.rng_chacha.proofs.double_lanes.Given as goal

abbrev pub invariant-loop-b : goal.invariant-loop-b
invariant-loop-b l = (length l.s ≡ 64) × Each (λ a. double_of (lane_of a l.initial.s)) l.b l.s × ((a : ℕ) → l.b ≤ a → a < 4 → lane_of a l.s ≡ lane_of a l.initial.s)
