use mathlib.Core.Path.{◌≡◌}
use mathlib.Core.Bool.{true}
use Rattle.lists.specs.Sums.{all_to}
use Rattle.text_layout.specs.Layout.{start_of, field_ok}
use Rattle.text_layout.proofs.line_at.Given as goal

abbrev pub invariant-loop-t : goal.invariant-loop-t
invariant-loop-t l = (l.q ≡ start_of l.form l.text l.at l.t) × (all_to (field_ok l.form l.text l.at l.n) l.t ≡ true)
