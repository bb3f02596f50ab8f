use mathlib.Core.Path.{◌∙◌, ap, refl}
use native.Mathlib.Omega.{arith}
use lib.ListN.{length}
use lib.Ieee.{nan}
use Rattle.bits.specs.Bits.{double_of}
use Rattle.lists.specs.Lists.{listed}
use Rattle.lists.proofs.Listed.{writes, writes_done, writes_one}
use Rattle.text_layout.specs.Layout.{value_of}
use Rattle.text_layout.proofs.Fields.{field_inside, start_more, start_none, value-is}
use Rattle.text_layout.specs.declared.Form.{Form}
use Rattle.text_request.proofs.fill_cells.Goals as goal

pub loop-x-init : goal.loop-x-init
unfolding writes
loop-x-init c = (start_none _ _ _, refl)

pub overflow_add-q : goal.overflow_add-q
overflow_add-q c =
    let h = field_inside _ c.args.text.now c.args.at (length c.args.out.now) c.loop-x.x-index _ _ _ c.loop-x.invariant.0 c.run_at-run.ensures.1 c.run_at-run.ensures.2 (rw c.cell_form-form.ensures c.requires) (omega arith) in
    omega arith

pub loop-x-preserved : goal.loop-x-preserved
loop-x-preserved c = (
  start_more _ c.args.text.now c.args.at (length c.args.out.now) c.loop-x.x-index _ _ _ c.loop-x.invariant.0 c.run_at-run.ensures.1 c.run_at-run.ensures.2,
  writes_one _ _ _ c.loop-x.invariant.1 (c.double_of.ensures ∙ ap double_of (value-is _ c.args.text.now c.args.at (length c.args.out.now) c.loop-x.x-index _ _ _ c.loop-x.invariant.0 c.run_at-run.ensures.1 c.run_at-run.ensures.2 _ c.run_at-run.ensures.0)),
)

pub returns : goal.returns
returns c =
    writes_done nan _ _ _ _ c.loop-x.invariant.1 (omega arith) refl
    ∙ ap (λ (f : Form). listed (λ t. double_of (value_of f c.args.text.now c.args.at t)) (length c.args.out.now)) c.cell_form-form.ensures
