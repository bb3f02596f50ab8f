use Prim.Native.Nat.{◌+◌, ◌-◌, ◌^◌, ◌<◌}
use mathlib.Core.Path.{◌≡◌}
use Rattle.text_digits.specs.Digits.{run_of, spelled}
use Rattle.text_layout.proofs.run_at.Given as goal

abbrev pub invariant-loop-k : goal.invariant-loop-k
invariant-loop-k l =
    (l.end ≡ l.at + l.k) × (l.value < l.base ^ l.k) × (l.value ≡ spelled l.base l.text l.at l.k)
    × (run_of l.base l.text l.at l.most ≡ l.k + run_of l.base l.text (l.at + l.k) (l.most - l.k))
