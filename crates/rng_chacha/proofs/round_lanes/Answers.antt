use Rattle.std.proofs.Common.{refl, ◌∙◌, add-one}
use Rattle.rng_chacha.specs.ChaCha.{rounds_of}
use Rattle.rng_chacha.proofs.round_lanes.Goals as goal

pub loop-init : goal.loop-init
unfolding rounds_of
loop-init c = (c.requires, λ a l. refl)

pub loop-preserved : goal.loop-preserved
unfolding rounds_of
loop-preserved c =
    let v = c.loop.invariant in
    (c.double_lanes.auto.s ∙ v.0, λ a l. c.double_lanes.ensures a l ∙ rw (v.1 a l, add-one))
