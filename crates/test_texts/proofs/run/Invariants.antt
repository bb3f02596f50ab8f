use Prim.Native.Nat.{ℕ, ◌-◌}
use mathlib.Core.Path.{◌≡◌}
use lib.ListN.{length}
use Rattle.test_counts.proofs.Counting.{Counted}
use Rattle.test_texts.specs.declared.Case.{Case}
use Rattle.test_texts.specs.Texts.{case_at, end_of, right_case}
use Rattle.test_texts.proofs.run.Given as goal

abbrev pub invariant-loop-at : goal.invariant-loop-at
invariant-loop-at l = (l.n ≡ length l.cases) × Counted (case_at l.cases) end_of (λ (i : ℕ) (x : Case). right_case l.cases x) l.n l.at l.counts

abbrev pub decreases-loop-at : goal.decreases-loop-at
decreases-loop-at l = l.n - l.at
