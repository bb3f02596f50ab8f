use mathlib.Core.Path.{◌≡◌}
use Rattle.rng_std.specs.States.{Moved, key_in}
use Rattle.rng_std.specs.Words.{word_of}
use Rattle.lists.proofs.Listed.{writes}
use Rattle.plusplus_seeded.specs.Seeded.{place_of, rule_of}
use Rattle.plusplus_seeded.proofs.draw_all.Given as goal

abbrev pub invariant-loop-draw : goal.invariant-loop-draw
invariant-loop-draw l =
    (l.draws ≡ writes (λ k. (rule_of (word_of (key_in l.initial.rng)) l.total l.m (place_of (rule_of (word_of (key_in l.initial.rng)) l.total l.m) k l.first)).value) l.draw-index l.initial.draws)
    × (l.taken ≡ place_of (rule_of (word_of (key_in l.initial.rng)) l.total l.m) l.draw-index l.first) × Moved l.initial.rng l.taken l.rng
