use mathlib.Core.Path.{◌≡◌}
use Rattle.lists.proofs.Listed.{writes}
use Rattle.text_layout.specs.Layout.{start_of, value_of}
use Rattle.text_request.proofs.fill_draws.Given as goal

abbrev pub invariant-loop-x : goal.invariant-loop-x
invariant-loop-x l = (l.q ≡ start_of l.form l.text l.at l.x-index) × (l.out ≡ writes (value_of l.form l.text l.at) l.x-index l.initial.out)
