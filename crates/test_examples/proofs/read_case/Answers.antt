use native.Mathlib.Omega.{arith}
use Rattle.test_examples.specs.Cases.{case_at}
use Rattle.test_examples.proofs.read_case.Goals as goal

pub returns : goal.returns
unfolding case_at
returns c = record {
  value = rw (← c.size_from-a.ensures.0, ← c.size_from-b.ensures.0, ← c.word_from.ensures, ← c.word_from-2.ensures, ← c.size_from.ensures.0, ← c.size_from-2.ensures.0, ← c.word_from-3.ensures, ← c.word_from-4.ensures, ← c.size_from-3.ensures.0);
  a_bound = (c.size_from-a.ensures.1, c.size_from-b.ensures.1, c.size_from.ensures.1, c.size_from-2.ensures.1, omega arith, omega arith);
}
