use native.Mathlib.Omega.{arith}
use Rattle.test_texts.specs.Texts.{first_of}
use Rattle.test_texts.proofs.first_of.Goals as goal

pub returns : goal.returns
unfolding first_of
returns c = let h = c.min.ensures in (omega (arith, h), omega (arith, h), omega (arith, h))
