use mathlib.Core.Path.{◌∙◌, refl}
use native.Mathlib.Omega.{arith}
use mir.Syntax.{w64}
use mir.ValLaws.{to_z-of_z}
use lib.IntN.{pos}
use Rattle.lists.proofs.Listed.{writes, writes_done, writes_one}
use Rattle.test_intake.proofs.make_book.Goals as goal

pub loop-t-init : goal.loop-t-init
unfolding writes
loop-t-init c = refl

pub loop-t-preserved : goal.loop-t-preserved
loop-t-preserved c = writes_one _ _ _ c.loop-t.invariant (to_z-of_z w64 c.made_cell.result (record { sfits = c.made_cell.type_inv }) ∙ c.made_cell.ensures)

pub returns : goal.returns
returns c = writes_done (pos 0) _ _ _ _ c.loop-t.invariant (omega arith) c.requires.1
