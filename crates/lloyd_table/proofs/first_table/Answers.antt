use Prim.Native.Nat.{◌<◌}
use native.Mathlib.Omega.{arith}
use lib.ListN.{length}
use Rattle.lloyd_table.proofs.Steps.{first_rows_more}
use Rattle.lloyd_table.proofs.Rows.{held_kept}
use Rattle.lloyd_table.proofs.first_table.Goals as goal

pub copy_row-requires : goal.copy_row-requires
copy_row-requires c =
    let g = c.requires.1.groups in
    (held_kept c.args.m c.loop-l.area c.args.area.now c.loop-l.auto.area c.loop-l.invariant.same c.requires.0, c.requires.1.items c.loop-l.l c.loop-l-test.true, omega (arith, c.loop-l-test.true))

pub loop-l-preserved : goal.loop-l-preserved
loop-l-preserved c =
    let g = c.requires.1.groups in
    let t : c.loop-l.l < length c.args.centres.now = c.loop-l-test.true in
    first_rows_more c.loop-l.invariant (omega (arith, c.requires.0.size)) (omega arith) c.copy_row.ensures
