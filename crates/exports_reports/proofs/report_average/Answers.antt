use mathlib.Core.Path.{◌≡◌, refl}
use Rattle.std.proofs.Common.{Some, None, Ok, Err}
use Rattle.stats.specs.Average.{averaged_of}
use Rattle.exports_reports.proofs.Average.{answer_short, average_short, average_reported_lem, one_written, with_option}
use Rattle.exports_reports.proofs.report_average.Goals as goal
use Rattle.exports_reports.proofs.report_average.Goals.{then-average-ne1-via-then-average-ne1, then-average-ne1-via-else-average-ne1+then-answer-ne2}

pub returns-then-average-ne1 : goal.returns-then-average-ne1
returns-then-average-ne1 c =
    elim c.then-average-ne1.branch [
      | then-average-ne1-via-then-average-ne1 w ↦ average_short _ _ _ w.if-average-ne1.true c.average_refused.ensures
      | then-average-ne1-via-else-average-ne1+then-answer-ne2 w ↦ answer_short _ _ _ w.if-average-ne1.false w.if-answer-ne2.true c.average_refused.ensures
    ]

pub returns-in-Ok-Some : goal.returns-in-Ok-Some
returns-in-Ok-Some c =
    let e : c.args.a ≡ Ok (Some c.in-Ok-Some.x) = with_option c.args.a c.in-Ok-Some.field-0 (Some c.in-Ok-Some.x) c.in-Ok-Some.is (rw c.in-Ok-Some.is at c.in-Ok-Some.field-0-is) in
    rw e (average_reported_lem (averaged_of (Ok (Some _))) c.args.answer.now c.args.average.now c.if-average-ne1.false c.if-answer-ne2.false c.report_two.ensures.0 c.report_two.ensures.1 (one_written c.args.average.now _ c.if-average-ne1.false))

pub returns-in-Ok-None : goal.returns-in-Ok-None
returns-in-Ok-None c =
    let e : c.args.a ≡ Ok None = with_option c.args.a c.in-Ok-None.field-0 None c.in-Ok-None.is (rw c.in-Ok-None.is at c.in-Ok-None.field-0-is) in
    rw e (average_reported_lem (averaged_of (Ok None)) c.args.answer.now c.args.average.now c.if-average-ne1.false c.if-answer-ne2.false c.report_two-in-Ok-None.ensures.0 c.report_two-in-Ok-None.ensures.1 refl)

pub returns-in-Err : goal.returns-in-Err
returns-in-Err c = rw c.in-Err.is (average_reported_lem (averaged_of (Err _)) c.args.answer.now c.args.average.now c.if-average-ne1.false c.if-answer-ne2.false c.report_two-in-Err.ensures.0 c.report_two-in-Err.ensures.1 refl)
