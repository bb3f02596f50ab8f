use Prim.Native.Nat.{ℕ}
use mathlib.Core.Path.{◌∙◌, ap}
use mathlib.Core.List.{List}
use Rattle.onc_run.specs.Run.{Lists}
use Rattle.text_answer.specs.Answer.{refusal_fits, written_of}
use Rattle.text_program.proofs.Answers.{Lent, lent_by, refused_text_lem, told_asks, told_text}
use Rattle.text_program.proofs.group_with.Goals as goal
use Rattle.text_program.proofs.group_with.Goals.{Start}

-- the lists as they were lent
abbrev lists_of : Start → Lists
lists_of c = record { order = c.args.order.now; sizes = c.args.sizes.now; scores = c.args.scores.now; ordered = c.args.ordered.now; floats = c.args.floats.now; numbers = c.args.numbers.now }

lent : (c : Start) → Lent c.args.n c.args.book.now (lists_of c)
lent c = lent_by c.args.n c.args.book.now (lists_of c) c.requires

pub write_groups-requires : goal.write_groups-requires
write_groups-requires c = let s = (goal.at.write_groups-requires c).Start in told_asks c.args.n c.args.repeats c.args.book.now c.args.draws.now (lists_of s) c.get_onc_clusters_with_draws-answer.result c.get_onc_clusters_with_draws-answer.ensures (lent s) c.in-Ok.is

pub returns-in-Ok : goal.returns-in-Ok
returns-in-Ok c = let s = (goal.at.returns-in-Ok c).Start in c.write_groups.ensures ∙ ap (λ (t : List ℕ). written_of (refusal_fits c.args.out.now) t c.args.out.now) (told_text c.args.n c.args.repeats c.args.book.now c.args.draws.now (lists_of s) c.get_onc_clusters_with_draws-answer.result c.get_onc_clusters_with_draws-answer.ensures (lent s) c.in-Ok.is)

pub returns-in-Err : goal.returns-in-Err
returns-in-Err c = let s = (goal.at.returns-in-Err c).Start in c.write_refusal.ensures ∙ ap (λ (t : List ℕ). written_of (refusal_fits c.args.out.now) t c.args.out.now) (refused_text_lem c.args.n c.args.repeats c.args.book.now c.args.draws.now (lists_of s) c.get_onc_clusters_with_draws-answer.result c.get_onc_clusters_with_draws-answer.ensures (lent s) c.number_of-number.ensures c.place_of-place.ensures c.in-Err.is)
