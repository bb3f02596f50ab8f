use Rattle.exports_statistics.proofs.Book.{book_refused_as, book_reported_lem, two_places}
use Rattle.exports_statistics.proofs.onc_check_book.Goals as goal

pub returns-then-refused-ne0 : goal.returns-then-refused-ne0
returns-then-refused-ne0 c = book_refused_as _ _ _ c.book_refused-refused.ensures c.if-refused-ne0.true

pub report_two-requires : goal.report_two-requires
report_two-requires c = two_places _ _ _ _ c.book_refused-refused.ensures c.if-refused-ne0.false

pub returns : goal.returns
returns c = book_reported_lem _ _ c.args.answer.now c.check_book-a.result (two_places _ _ _ _ c.book_refused-refused.ensures c.if-refused-ne0.false) c.check_book-a.ensures c.number_of-number.ensures c.place_of-place.ensures c.report_two.ensures.0 c.report_two.ensures.1
