use native.Mathlib.Omega.{arith}
use Rattle.test_run_cases.specs.Cases.{case_at}
use Rattle.test_run_cases.proofs.read_case.Goals as goal

pub returns : goal.returns
unfolding case_at
returns c = record {
  value = rw (← c.size_from-cells.ensures.0, ← c.size_from-draws.ensures.0, ← c.size_from-order.ensures.0, ← c.size_from-sizes.ensures.0, ← c.size_from-scores.ensures.0, ← c.size_from-ordered.ensures.0, ← c.size_from.ensures.0, ← c.size_from-2.ensures.0, ← c.word_from.ensures, ← c.word_from-2.ensures, ← c.word_from-3.ensures, ← c.word_from-4.ensures);
  cells_bound = (c.size_from-cells.ensures.1, c.size_from-draws.ensures.1, c.size_from-order.ensures.1, c.size_from-sizes.ensures.1, c.size_from-scores.ensures.1, c.size_from-ordered.ensures.1, c.size_from.ensures.1, c.size_from-2.ensures.1, omega arith, omega arith);
}
