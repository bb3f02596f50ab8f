use mathlib.Core.Path.{refl}
use Rattle.text_writing.proofs.Stores.{wrote_as}
use Rattle.text_answer.proofs.Lines.{line_ends, line_more, line_empty, line_starts}
use Rattle.text_answer.proofs.put_labels.Goals as goal

pub returns-then-n-eq0 : goal.returns-then-n-eq0
returns-then-n-eq0 c = wrote_as _ c.put_byte.ensures (line_empty _ _ c.if-n-eq0.true)

pub loop-t-init : goal.loop-t-init
loop-t-init c = line_starts 10 _ _ _ _ refl

pub loop-t-preserved : goal.loop-t-preserved
loop-t-preserved c = line_more c.loop-t.invariant c.loop-t-test.true refl c.put_entry-p.ensures

pub returns : goal.returns
returns c = line_ends c.loop-t.invariant c.loop-t-test.false c.if-n-eq0.false
