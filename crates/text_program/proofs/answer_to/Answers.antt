use Prim.Native.Nat.{ℕ}
use mathlib.Core.Path.{◌∙◌, ap, sym}
use mathlib.Core.List.{List}
use native.Mathlib.Omega.{arith}
use native.Mathlib.Nat.{mul-le-mul}
use lib.Seq.{length-take-le}
use lib.ListN.{replicate}
use Rattle.std.specs.Prelude.{Err}
use Rattle.text_program.proofs.Answers.{zero_literal}
use Rattle.text_answer.specs.Answer.{refusal_fits, written_of}
use Rattle.text_program.proofs.Requests.{book_text_lem, cells_fit, draws_fit, fault_text, short_text, within}
use Rattle.text_program.proofs.answer_to.Goals as goal

pub overflow_mul-size : goal.overflow_mul-size
overflow_mul-size c = let w = within c.args.text.now (c.filled-cells.ensures ∙ ap (replicate 144) zero_literal) c.filled-draws.ensures c.read_request.result c.read_request.ensures c.in-Ok.request c.in-Ok.is in omega (arith, mul-le-mul w.names w.names)

pub slice_bounds-cells-end : goal.slice_bounds-cells-end
slice_bounds-cells-end c = cells_fit c.args.text.now (c.filled-cells.ensures ∙ ap (replicate 144) zero_literal) c.filled-draws.ensures c.read_request.result c.read_request.ensures c.in-Ok.request c.in-Ok.is c.read_request.auto.cells

pub slice_bounds-group-end : goal.slice_bounds-group-end
slice_bounds-group-end c = sym (length-take-le _ _ (cells_fit c.args.text.now (c.filled-cells.ensures ∙ ap (replicate 144) zero_literal) c.filled-draws.ensures c.read_request.result c.read_request.ensures c.in-Ok.request c.in-Ok.is c.read_request.auto.cells))

pub slice_bounds-draws-end : goal.slice_bounds-draws-end
slice_bounds-draws-end c = draws_fit c.args.text.now (c.filled-cells.ensures ∙ ap (replicate 144) zero_literal) c.filled-draws.ensures c.read_request.result c.read_request.ensures c.in-Ok.request c.in-Ok.is c.read_request.auto.draws

pub slice_bounds-group-end-in-Ok : goal.slice_bounds-group-end-in-Ok
slice_bounds-group-end-in-Ok c = sym (length-take-le _ _ (draws_fit c.args.text.now (c.filled-cells.ensures ∙ ap (replicate 144) zero_literal) c.filled-draws.ensures c.read_request.result c.read_request.ensures c.in-Ok.request c.in-Ok.is c.read_request.auto.draws))

pub group-requires : goal.group-requires
group-requires c = ((within c.args.text.now (c.filled-cells.ensures ∙ ap (replicate 144) zero_literal) c.filled-draws.ensures c.read_request.result c.read_request.ensures c.in-Ok.request c.in-Ok.is).names, length-take-le _ _ (cells_fit c.args.text.now (c.filled-cells.ensures ∙ ap (replicate 144) zero_literal) c.filled-draws.ensures c.read_request.result c.read_request.ensures c.in-Ok.request c.in-Ok.is c.read_request.auto.cells))

pub returns-in-Err-Fault : goal.returns-in-Err-Fault
returns-in-Err-Fault c = c.write_refusal.ensures ∙ ap (λ (t : List ℕ). written_of (refusal_fits c.args.out.now) t c.args.out.now) (fault_text c.args.text.now (c.filled-cells.ensures ∙ ap (replicate 144) zero_literal) c.filled-draws.ensures c.read_request.result c.read_request.ensures (c.in-Err-Fault.is ∙ ap Err c.in-Err-Fault.field-0-is))

pub returns-in-Err-ListLength : goal.returns-in-Err-ListLength
returns-in-Err-ListLength c = c.write_refusal-in-Err-ListLength.ensures ∙ ap (λ (t : List ℕ). written_of (refusal_fits c.args.out.now) t c.args.out.now) (short_text c.args.text.now (c.filled-cells.ensures ∙ ap (replicate 144) zero_literal) c.filled-draws.ensures c.read_request.result c.read_request.ensures (c.in-Err-ListLength.is ∙ ap Err c.in-Err-ListLength.field-0-is))

pub returns-in-Ok : goal.returns-in-Ok
returns-in-Ok c = c.group.ensures ∙ ap (λ (t : List ℕ). written_of (refusal_fits c.args.out.now) t c.args.out.now) (book_text_lem c.args.text.now (c.filled-cells.ensures ∙ ap (replicate 144) zero_literal) c.filled-draws.ensures c.read_request.result c.read_request.ensures c.in-Ok.request c.in-Ok.is)
