use native.Mathlib.Omega.{arith}
use Rattle.test_intake.specs.Cases.{case_at}
use Rattle.test_intake.proofs.read_case.Goals as goal

pub returns : goal.returns
unfolding case_at
returns c = record {
  value = rw (← c.size_from-cells.ensures.0, ← c.word_from.ensures, ← c.word_from-2.ensures);
  cells_bound = (c.size_from-cells.ensures.1, omega arith);
}
