use mathlib.Core.Path.{◌∙◌, ap}
use borrow.Author.Tests.{ne_eqb}
use Rattle.refusals.specs.Table.{Refusal}
use Rattle.exports_reports.specs.Book.{book_shape}
use Rattle.exports_reports.proofs.book_refused.Goals as goal

pub returns : goal.returns
unfolding book_shape
returns c = rw (ne_eqb _ 2 c.if-places-eq2.false) (c.number_of.ensures ∙ ap (λ (x : Refusal). x.number) c.check_shape.ensures)
