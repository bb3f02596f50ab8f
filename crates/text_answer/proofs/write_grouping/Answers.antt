use mathlib.Core.Path.{◌∙◌, sym}
use Rattle.text_answer.proofs.Front.{grouped_room, not_written, written}
use Rattle.text_answer.proofs.write_grouping.Goals as goal

pub returns-then-not-grouping_fits : goal.returns-then-not-grouping_fits
returns-then-not-grouping_fits c = not_written _ _ _ (sym c.grouping_fits.ensures ∙ c.if-not-grouping_fits.true)

pub returns : goal.returns
returns c =
    let e = sym c.grouping_fits.ensures ∙ c.if-not-grouping_fits.false in
    written _ e c.put_grouping.ensures (grouped_room c.args.labels.now c.args.scores.now c.args.out.now c.args.groups c.args.draws e)
