use Rattle.refusals.specs.Table.{refusal_of}
use Rattle.test_examples.proofs.Laws.{outcome_differs, floats_decide}
use Rattle.test_examples.proofs.right_leaf.Goals as goal

pub returns-then-not-same_outcome : goal.returns-then-not-same_outcome
returns-then-not-same_outcome c = outcome_differs c.args.text.now c.args.c (refusal_of c.call_list-answer.result) c.call_list-answer.new.out c.call_list-answer.new.floats c.call_list-answer.ensures c.same_outcome.ensures c.if-not-same_outcome.true

pub returns : goal.returns
returns c = floats_decide c.args.text.now c.args.c (refusal_of c.call_list-answer.result) c.call_list-answer.new.out c.call_list-answer.new.floats c.call_list-answer.ensures c.same_outcome.ensures c.if-not-same_outcome.false c.number_of.ensures c.names_of.ensures c.names_wiped-names.ensures c.front.ensures c.left_doubles.ensures
