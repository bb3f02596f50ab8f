use Rattle.text_writing.proofs.Counting.{count_more, count_ends}
use Rattle.text_writing.proofs.places.Goals as goal

pub loop-rest-preserved : goal.loop-rest-preserved
loop-rest-preserved c = count_more c.loop-rest.invariant c.loop-rest-test.true

pub returns : goal.returns
returns c = count_ends c.loop-rest.invariant c.loop-rest-test.false
