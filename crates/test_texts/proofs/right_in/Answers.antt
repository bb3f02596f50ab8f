use mathlib.Core.Path.{sym, ◌∙◌}
use lib.Seq.{length-take-le}
use Rattle.test_texts.proofs.Laws.{printed, right_text_lem}
use Rattle.test_texts.proofs.right_in.Goals as goal

pub slice_bounds-same_bytes-end : goal.slice_bounds-same_bytes-end
slice_bounds-same_bytes-end c = (let a = c.answer_to-w in printed c.args.text.now c.args.out.now a.new.out a.result c.requires a.ensures c.bytes_of-n.ensures).within

pub slice_bounds-same_bytes-end-2 : goal.slice_bounds-same_bytes-end-2
slice_bounds-same_bytes-end-2 c = sym (length-take-le _ _ (let a = c.answer_to-w in printed c.args.text.now c.args.out.now a.new.out a.result c.requires a.ensures c.bytes_of-n.ensures).within)

pub slice_bounds-shown_text-end : goal.slice_bounds-shown_text-end
slice_bounds-shown_text-end c = (let a = c.answer_to-w in printed c.args.text.now c.args.out.now a.new.out a.result c.requires a.ensures c.bytes_of-n.ensures).within

pub slice_bounds-shown_text-end-2 : goal.slice_bounds-shown_text-end-2
slice_bounds-shown_text-end-2 c = sym (length-take-le _ _ (let a = c.answer_to-w in printed c.args.text.now c.args.out.now a.new.out a.result c.requires a.ensures c.bytes_of-n.ensures).within)

pub returns : goal.returns
returns c = let t = c.args in right_text_lem t.text.now t.answer.now (let a = c.answer_to-w in printed c.args.text.now c.args.out.now a.new.out a.result c.requires a.ensures c.bytes_of-n.ensures) (c.shown_text.ensures ∙ c.same_bytes-right.ensures)
