use Prim.Native.Nat.{◌*◌}
use borrow.Author.Tests.{eq-eqb, le-ltb, lt-ltb, ne_eqb}
use Rattle.onc_checks.specs.Checks.{shape_of}
use Rattle.refusals.specs.Table.{refusal, unless, whenever}
use Rattle.onc_checks.proofs.check.Goals as goal
use Rattle.onc_checks.proofs.check.Goals.{then-rows-cols-via-then-rows-cols, then-rows-cols-via-else-rows-cols+then-rows-lt2, then-repeat-gt64-via-then-repeat-gt64, then-repeat-gt64-via-else-repeat-gt64+then-rows-gt256}

pub returns-then-repeat-eq0 : goal.returns-then-repeat-eq0
unfolding shape_of refusal whenever unless
returns-then-repeat-eq0 c = rw (eq-eqb c.args.repeat 0 c.if-repeat-eq0.true)

pub returns-then-rows-cols : goal.returns-then-rows-cols
unfolding shape_of refusal whenever unless
returns-then-rows-cols c =
    elim c.then-rows-cols.branch [
      | then-rows-cols-via-then-rows-cols w ↦ rw (ne_eqb c.args.repeat 0 c.if-repeat-eq0.false, ne_eqb c.args.rows c.args.cols w.if-rows-cols.true)
      | then-rows-cols-via-else-rows-cols+then-rows-lt2 w ↦
          rw (ne_eqb c.args.repeat 0 c.if-repeat-eq0.false, eq-eqb c.args.rows c.args.cols w.if-rows-cols.false, lt-ltb c.args.rows 2 w.if-rows-lt2.true)
    ]

pub returns-then-repeat-gt64 : goal.returns-then-repeat-gt64
unfolding shape_of refusal whenever unless
returns-then-repeat-gt64 c =
    rw (ne_eqb c.args.repeat 0 c.if-repeat-eq0.false, eq-eqb c.args.rows c.args.cols c.if-rows-cols.false, le-ltb c.args.rows 2 c.if-rows-lt2.false)
    (elim c.then-repeat-gt64.branch [
      | then-repeat-gt64-via-then-repeat-gt64 w ↦ rw (lt-ltb 64 c.args.repeat w.if-repeat-gt64.true)
      | then-repeat-gt64-via-else-repeat-gt64+then-rows-gt256 w ↦ rw (le-ltb 64 c.args.repeat w.if-repeat-gt64.false, lt-ltb 256 c.args.rows w.if-rows-gt256.true)
    ])

pub returns-then-cells-rows : goal.returns-then-cells-rows
unfolding shape_of refusal whenever unless
returns-then-cells-rows c = rw (ne_eqb c.args.repeat 0 c.if-repeat-eq0.false, eq-eqb c.args.rows c.args.cols c.if-rows-cols.false, le-ltb c.args.rows 2 c.if-rows-lt2.false, le-ltb 64 c.args.repeat c.if-repeat-gt64.false, le-ltb 256 c.args.rows c.if-rows-gt256.false, ne_eqb c.args.cells (c.args.rows * c.args.rows) c.if-cells-rows.true)

pub returns-then-not-fits : goal.returns-then-not-fits
unfolding shape_of refusal whenever unless
returns-then-not-fits c = rw (ne_eqb c.args.repeat 0 c.if-repeat-eq0.false, eq-eqb c.args.rows c.args.cols c.if-rows-cols.false, le-ltb c.args.rows 2 c.if-rows-lt2.false, le-ltb 64 c.args.repeat c.if-repeat-gt64.false, le-ltb 256 c.args.rows c.if-rows-gt256.false, eq-eqb c.args.cells (c.args.rows * c.args.rows) c.if-cells-rows.false, c.if-not-fits.true)

pub returns : goal.returns
unfolding shape_of refusal whenever unless
returns c = rw (ne_eqb c.args.repeat 0 c.if-repeat-eq0.false, eq-eqb c.args.rows c.args.cols c.if-rows-cols.false, le-ltb c.args.rows 2 c.if-rows-lt2.false, le-ltb 64 c.args.repeat c.if-repeat-gt64.false, le-ltb 256 c.args.rows c.if-rows-gt256.false, eq-eqb c.args.cells (c.args.rows * c.args.rows) c.if-cells-rows.false, c.if-not-fits.false)
