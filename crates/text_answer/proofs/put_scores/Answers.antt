use mathlib.Core.Path.{◌∙◌, sym}
use mathlib.Core.List.{map}
use lib.ListN.{length-map}
use Rattle.bits.specs.Bits.{bits_of}
use Rattle.text_writing.proofs.Stores.{wrote_as}
use Rattle.text_answer.proofs.Lines.{line_ends, line_more, line_empty, line_starts, score_at_lem}
use Rattle.text_answer.proofs.put_scores.Goals as goal

pub returns-then-n-eq0 : goal.returns-then-n-eq0
returns-then-n-eq0 c = wrote_as _ c.put_byte.ensures (line_empty 16 (map bits_of c.args.scores.now) (length-map c.args.scores.now bits_of ∙ c.if-n-eq0.true))

pub loop-t-init : goal.loop-t-init
loop-t-init c = line_starts 16 _ _ _ _ (sym (length-map c.args.scores.now bits_of))

pub loop-t-preserved : goal.loop-t-preserved
loop-t-preserved c = line_more c.loop-t.invariant c.loop-t-test.true (c.bits_of.ensures ∙ sym (score_at_lem c.args.scores.now c.loop-t.t c.loop-t-test.true)) c.put_entry-p.ensures

pub returns : goal.returns
returns c = line_ends c.loop-t.invariant c.loop-t-test.false c.if-n-eq0.false
