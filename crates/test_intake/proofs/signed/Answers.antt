use mathlib.Core.Path.{◌∙◌, ap, refl}
use native.Mathlib.Omega.{arith}
use mir.Syntax.{w64}
use mir.ValLaws.{to_z-of_z}
use lib.IntN.{pos}
use Rattle.lists.proofs.Listed.{writes, writes_done, writes_one}
use Rattle.test_intake.specs.Cases.{signed_of}
use Rattle.test_intake.proofs.signed.Goals as goal

pub loop-i-init : goal.loop-i-init
unfolding writes
loop-i-init c = refl

pub loop-i-preserved : goal.loop-i-preserved
loop-i-preserved c = writes_one _ _ _ c.loop-i.invariant (to_z-of_z w64 c.signed_of.result (record { sfits = c.signed_of.type_inv }) ∙ c.signed_of.ensures ∙ ap signed_of c.word_from.ensures)

pub returns : goal.returns
returns c = writes_done (pos 0) _ _ _ _ c.loop-i.invariant (omega arith) refl
