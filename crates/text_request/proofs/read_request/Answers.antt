use mathlib.Core.Path.{◌∙◌, ◌≡◌, ap, sym}
use native.Mathlib.Omega.{arith}
use Rattle.std.specs.Prelude.{Err, None, Result, Some}
use Rattle.std.specs.Result.{result_ok}
use Rattle.std.proofs.lemmas.Result.{err_from_is_err_and}
use Rattle.text_layout.specs.Layout.{cell_form, draw_form, layout_of}
use Rattle.text_layout.proofs.Found.{accepted, few_cells}
use Rattle.text_request.proofs.Gives.{as_few_cells, as_few_draws, as_lent, fault_gives, found_gives, read_all}
use Rattle.text_layout.specs.declared.Layout.{Layout}
use Rattle.text_request.specs.declared.RequestError.{RequestError}
use Rattle.text_request.specs.declared.RequestError.TheVariants.{Fault}
use Rattle.text_request.proofs.read_request.Goals as goal
use Rattle.text_request.proofs.read_request.Goals.{In_ok-layout}

-- the layout that was found
found_layout : (d : In_ok-layout) → layout_of d.args.text.now ≡ Some d.in_ok-layout.layout
found_layout d = sym d.layout_of.ensures ∙ d.ok_or.ensures.ok_part ∙ ap result_ok d.in_ok-layout.was

fault_is : {e : RequestError} → ◌≡◌ {A = Result Layout RequestError} (Err e) (Err Fault) → e ≡ Fault
fault_is h = cc

pub returns-in_err-layout : goal.returns-in_err-layout
returns-in_err-layout c =
    let p = err_from_is_err_and c.from_residual.result c.from_residual.ensures.1 in
    let n : c.layout_of.result ≡ None = c.ok_or.ensures.ok_part ∙ ap result_ok c.in_err-layout.was in
    let f = fault_is (sym c.in_err-layout.was ∙ c.ok_or.ensures.value ∙ rw n) in
    rw (p.1, p.2, f) (sym (fault_gives _ _ _ (sym c.layout_of.ensures ∙ n)))

pub overflow_mul-size : goal.overflow_mul-size
overflow_mul-size c = let h = few_cells _ (accepted _ _ _ _ _ _ (found_layout (goal.at.overflow_mul-size c).In_ok-layout)).sizes.names in omega arith

pub returns-then-cells-size : goal.returns-then-cells-size
returns-then-cells-size c = sym (found_gives _ _ _ _ _ _ _ _ (found_layout (goal.at.returns-then-cells-size c).In_ok-layout) ∙ as_few_cells _ _ _ _ _ _ _ c.if-cells-size.true)

pub returns-then-draws-count : goal.returns-then-draws-count
returns-then-draws-count c = sym (found_gives _ _ _ _ _ _ _ _ (found_layout (goal.at.returns-then-draws-count c).In_ok-layout) ∙ as_few_draws _ _ _ _ _ _ _ c.if-draws-count.true)

pub fill_cells-requires : goal.fill_cells-requires
fill_cells-requires c = as_lent cell_form _ _ _ _ c.if-cells-size.false (accepted _ _ _ _ _ _ (found_layout (goal.at.fill_cells-requires c).In_ok-layout)).cells

pub fill_draws-requires : goal.fill_draws-requires
fill_draws-requires c = as_lent draw_form _ _ _ _ c.if-draws-count.false (accepted _ _ _ _ _ _ (found_layout (goal.at.fill_draws-requires c).In_ok-layout)).draws

pub returns : goal.returns
returns c = read_all _ _ _ _ _ _ _ _ (found_layout (goal.at.returns c).In_ok-layout) c.if-cells-size.false c.if-draws-count.false _ _ c.fill_cells.ensures c.fill_draws.ensures
