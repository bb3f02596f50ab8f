use Prim.Native.Nat.{◌≤◌, ℕ}
use mathlib.Core.Path.{◌≡◌, sym}
use mathlib.Core.Bool.{true}
use mathlib.Core.List.{List}
use native.Mathlib.Omega.{arith}
use lib.ListN.{length}
use lib.Seq.{length-take-le}
use Rattle.text_program.specs.Program.{program_of}
use Rattle.text_written.specs.Answers.{Written, bytes_of, refusal_of}
use Rattle.text_answer.specs.Answer.{Writing, refusal_fits, written_of}
use Rattle.text_answer.proofs.Front.{in_front, refusal_fits_lem}
use Rattle.grouping.proofs.respond.Goals as goal

room : (old : List ℕ) → 4096 ≡ length old → refusal_fits old ≡ true
room old e = refusal_fits_lem old (omega (arith, e))

-- what was written is within the buffer
within : (text old new : List ℕ) (w : Written) {k : ℕ} → 4096 ≡ length old
    → ◌≡◌ {A = Writing} (record { refused = refusal_of w; count = bytes_of w; out = new }) (written_of (refusal_fits old) (program_of text) old) → k ≡ bytes_of w → k ≤ length new
within text old new w e h b = rw b (in_front (refusal_of w) (bytes_of w) new (refusal_fits old) (program_of text) old h (room old e)).within

pub slice_bounds-out-end : goal.slice_bounds-out-end
slice_bounds-out-end c = within c.args.text.now c.buffer-out.result c.answer_to-written.new.out c.answer_to-written.result c.buffer-out.ensures c.answer_to-written.ensures c.bytes_of-count.ensures

pub slice_bounds-write_all-end : goal.slice_bounds-write_all-end
slice_bounds-write_all-end c = sym (length-take-le _ _ (within c.args.text.now c.buffer-out.result c.answer_to-written.new.out c.answer_to-written.result c.buffer-out.ensures c.answer_to-written.ensures c.bytes_of-count.ensures))
