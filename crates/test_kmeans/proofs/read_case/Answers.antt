use native.Mathlib.Omega.{arith}
use Rattle.test_kmeans.specs.Cases.{case_at}
use Rattle.test_kmeans.proofs.read_case.Goals as goal

pub returns : goal.returns
unfolding case_at
returns c = record {
  value = rw (← c.size_from-points.ensures.0, ← c.size_from-list.ensures.0, ← c.size_from-out.ensures.0, ← c.size_from.ensures.0, ← c.size_from-2.ensures.0, ← c.word_from.ensures, ← c.word_from-2.ensures, ← c.word_from-3.ensures);
  points_bound = (c.size_from-points.ensures.1, c.size_from-list.ensures.1, c.size_from-out.ensures.1, c.size_from.ensures.1, c.size_from-2.ensures.1, omega arith, omega arith);
}
