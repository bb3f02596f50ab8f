use mathlib.Core.Path.{refl}
use native.Mathlib.Omega.{arith}
use lib.ListN.{length}
use Rattle.lists.proofs.Listed.{writes, writes_done, writes_one}
use Rattle.text_layout.proofs.Fields.{field_inside, start_more, start_none, value-is}
use Rattle.text_request.proofs.fill_draws.Goals as goal

pub loop-x-init : goal.loop-x-init
unfolding writes
loop-x-init c = (start_none _ _ _, refl)

pub overflow_add-q : goal.overflow_add-q
overflow_add-q c =
    let h = field_inside _ c.args.text.now c.args.at (length c.args.out.now) c.loop-x.x-index _ _ _ c.loop-x.invariant.0 c.run_at-run.ensures.1 c.run_at-run.ensures.2 (rw c.draw_form-form.ensures c.requires) (omega arith) in
    omega arith

pub loop-x-preserved : goal.loop-x-preserved
loop-x-preserved c = (
  start_more _ c.args.text.now c.args.at (length c.args.out.now) c.loop-x.x-index _ _ _ c.loop-x.invariant.0 c.run_at-run.ensures.1 c.run_at-run.ensures.2,
  writes_one _ _ _ c.loop-x.invariant.1 (value-is _ c.args.text.now c.args.at (length c.args.out.now) c.loop-x.x-index _ _ _ c.loop-x.invariant.0 c.run_at-run.ensures.1 c.run_at-run.ensures.2 _ c.run_at-run.ensures.0),
)

pub returns : goal.returns
returns c = rw (← c.draw_form-form.ensures) (writes_done 0 _ _ _ _ c.loop-x.invariant.1 (omega arith) refl)
