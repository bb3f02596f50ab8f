use Rattle.lloyd_members.proofs.Tallies.{marked, not_marked}
use Rattle.lloyd_members.proofs.mark.Goals as goal

pub returns-then-l-marks : goal.returns-then-l-marks
returns-then-l-marks c = marked c.args.marks.now c.args.l c.if-l-marks.true

pub returns-else-l-marks : goal.returns-else-l-marks
returns-else-l-marks c = not_marked c.args.marks.now c.args.l c.if-l-marks.false
