use Rattle.std.proofs.Common.{ℕ, ◌+◌, List, ◌∙◌}
use Rattle.rng_chacha.specs.Four.{lane_of}
use Rattle.rng_chacha.specs.ChaCha.{block_of, start_of, summed}
use Rattle.rng_chacha.proofs.Fours.{four_same}
use Rattle.rng_chacha.proofs.four_blocks.Goals as goal

pub returns : goal.returns
unfolding block_of
returns c =
    let a = c.args in
    let f : ℕ → List ℕ = λ b. start_of a.key (a.number + b) a.stream in
    c.sum_lanes.ensures
    ∙ four_same (λ b. summed (f b) (lane_of b _)) (λ b. block_of a.doubles (f b)) (λ b l. rw (c.round_lanes.ensures b l, c.start_lanes.ensures b l))
