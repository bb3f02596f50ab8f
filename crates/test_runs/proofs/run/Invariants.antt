use Prim.Native.Nat.{◌-◌, ◌/◌}
use mathlib.Core.Path.{◌≡◌}
use lib.ListN.{length}
use Rattle.test_counts.proofs.Counting.{Counted}
use Rattle.test_run_cases.specs.declared.Case.{Case}
use Rattle.test_run_cases.specs.Cases.{case_at}
use Rattle.test_runs.specs.Runs.{right_case}
use Rattle.test_runs.proofs.run.Given as goal

abbrev pub invariant-loop-at : goal.invariant-loop-at
invariant-loop-at l = (l.words ≡ length l.text / 17) × Counted (case_at l.text) (λ (x : Case). x.next) (right_case l.text) l.words l.at l.counts

abbrev pub decreases-loop-at : goal.decreases-loop-at
decreases-loop-at l = l.words - l.at
