use mathlib.Core.Path.{◌∙◌, refl}
use native.Mathlib.Omega.{arith}
use lib.ListN.{length-set}
use Rattle.lists.specs.Lists.{numbers}
use Rattle.lists.proofs.Listed.{listed_map, writes, writes_done, writes_one}
use Rattle.row_numbers.proofs.translate.Goals as goal

pub loop-i-init : goal.loop-i-init
unfolding writes
loop-i-init c = (omega arith, refl)

pub loop-i-preserved : goal.loop-i-preserved
loop-i-preserved c = (simp length-set c.loop-i.invariant.0, writes_one _ _ _ c.loop-i.invariant.1 c.mapped.ensures)

pub returns : goal.returns
returns c =
    let r = c.args.rows.now in
    let l = c.args.locals.now in
    writes_done 0 _ _ _ _ c.loop-i.invariant.1 (omega arith) (omega arith) ∙ listed_map (numbers r) 0 l
