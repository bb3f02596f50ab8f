use mathlib.Core.Path.{refl}
use native.Mathlib.Omega.{arith}
use lib.ListN.{length-set}
use Rattle.partition.proofs.Labels.{labelled_more, labelled_none}
use Rattle.partition.proofs.label_members.Goals as goal

pub loop-i-init : goal.loop-i-init
loop-i-init c = (refl, labelled_none c.args.members.now c.args.g c.args.labels.now)

pub loop-i-preserved : goal.loop-i-preserved
loop-i-preserved c =
    let a = c.args in
    let i = c.loop-i.i-index in
    (simp length-set c.loop-i.invariant.0, labelled_more a.members.now a.g a.labels.now i c.loop-i.invariant.1 (omega arith) (c.requires i (omega arith)))
