use mathlib.Core.Path.{◌∙◌, sym}
use Rattle.lloyd_table.proofs.Steps.{mean_step, single_step, taken_step}
use Rattle.lists.specs.Lists.{numbers}
use Rattle.lloyd_mean.proofs.Members.{first_in}
use borrow.Author.Rules.{rules}
use Rattle.lloyd_table.proofs.refresh_group.Goals as goal

pub returns-then-n-eq0 : goal.returns-then-n-eq0
returns-then-n-eq0 c = taken_step c.requires.held _ _ c.requires.l_in_bounds.0 (sym c.requires.l_in_bounds.3 ∙ c.if-n-eq0.true) c.take_farthest.ensures.dists_after c.take_farthest.ensures.area_after

pub copy_row-requires : goal.copy_row-requires
copy_row-requires c =
    let f = first_in (numbers c.args.labels.now) _ c.args.l c.first_member-j.ensures (λ z. c.if-n-eq0.false (c.requires.l_in_bounds.3 ∙ z)) in
    (c.requires.held, f.0, c.requires.l_in_bounds.0)

pub returns-then-n-eq1 : goal.returns-then-n-eq1
returns-then-n-eq1 c =
    let f = first_in (numbers c.args.labels.now) _ c.args.l c.first_member-j.ensures (λ z. c.if-n-eq0.false (c.requires.l_in_bounds.3 ∙ z)) in
    single_step c.requires.held _ _ c.requires.l_in_bounds.0 c.first_member-j.result (search rules) (sym c.requires.l_in_bounds.3 ∙ c.if-n-eq1.true) f.0 f.1 c.copy_row.ensures

pub returns : goal.returns
returns c = mean_step c.requires.held _ _ c.requires.l_in_bounds.0 (λ z. c.if-n-eq0.false (c.requires.l_in_bounds.3 ∙ z)) (rw c.requires.l_in_bounds.3 at c.set_mean.ensures)
