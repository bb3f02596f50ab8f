use Rattle.text_digits.specs.Digits.{stop_of, byte_at}
use mathlib.Core.Path.{◌≡◌, refl, sym, ◌∙◌}
use native.Mathlib.Omega.{arith}
use Rattle.lists.specs.Sums.{all_to}
use Rattle.lists.proofs.Sums.{all_more}
use Rattle.text_layout.proofs.Fields.{field_short, field_unended, field_right, start_more, start_none, line_empty, no_line, line_ends}
use Rattle.text_layout.proofs.line_at.Goals as goal
use Rattle.text_layout.proofs.line_at.Goals.{Else-byte_at-stop_of}

ended : (c : Else-byte_at-stop_of) → byte_at c.args.text.now c.run_at-run.result.end ≡ stop_of c.loop-t.t c.args.n
ended c = sym c.byte_at.ensures ∙ c.if-byte_at-stop_of.false ∙ c.stop_of.ensures

pub returns-then-n-eq0 : goal.returns-then-n-eq0
returns-then-n-eq0 c = c.empty_at.ensures ∙ line_empty _ _ _ _ c.if-n-eq0.true

pub loop-t-init : goal.loop-t-init
unfolding all_to
loop-t-init c = (start_none _ _ _, refl)

pub returns-then-run-form : goal.returns-then-run-form
returns-then-run-form c = no_line _ _ _ _ c.loop-t.t c.if-n-eq0.false c.loop-t-test.true
    (field_short c.args.form c.args.text.now c.args.at c.args.n c.loop-t.t _ _ _ c.loop-t.invariant.0 c.run_at-run.ensures.1 c.run_at-run.ensures.2 c.if-run-form.true)

pub returns-then-byte_at-stop_of : goal.returns-then-byte_at-stop_of
returns-then-byte_at-stop_of c = no_line _ _ _ _ c.loop-t.t c.if-n-eq0.false c.loop-t-test.true
    (field_unended c.args.form c.args.text.now c.args.at c.args.n c.loop-t.t _ _ _ c.loop-t.invariant.0 c.run_at-run.ensures.1 c.run_at-run.ensures.2 c.if-run-form.false
    (λ z. c.if-byte_at-stop_of.true (c.byte_at.ensures ∙ z ∙ sym c.stop_of.ensures)))

pub loop-t-preserved : goal.loop-t-preserved
loop-t-preserved c = (
  start_more c.args.form c.args.text.now c.args.at c.args.n c.loop-t.t _ _ _ c.loop-t.invariant.0 c.run_at-run.ensures.1 c.run_at-run.ensures.2,
  all_more _ _ c.loop-t.invariant.1 (field_right c.args.form c.args.text.now c.args.at c.args.n c.loop-t.t _ _ _ c.loop-t.invariant.0 c.run_at-run.ensures.1 c.run_at-run.ensures.2 c.if-run-form.false (ended (goal.at.loop-t-preserved c).Else-byte_at-stop_of)),
)

pub returns : goal.returns
returns c =
    let e : c.loop-t.t ≡ c.args.n = omega arith in
    line_ends _ _ _ _ _ _ c.if-n-eq0.false e c.loop-t.invariant.0 c.loop-t.invariant.1
