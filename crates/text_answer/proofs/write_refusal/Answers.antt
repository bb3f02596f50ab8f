use borrow.Author.Tests.{le-leb, lt-leb}
use Rattle.text_answer.proofs.Front.{not_written, written}
use Rattle.text_answer.proofs.Texts.{refused_room}
use Rattle.text_answer.proofs.write_refusal.Goals as goal

pub returns-then-out-lt-ROOM : goal.returns-then-out-lt-ROOM
returns-then-out-lt-ROOM c = not_written _ _ _ (lt-leb _ _ c.if-out-lt-ROOM.true)

pub returns : goal.returns
returns c = written _ (le-leb _ _ c.if-out-lt-ROOM.false) c.put_refused.ensures (refused_room c.args.number c.args.place c.if-out-lt-ROOM.false)
