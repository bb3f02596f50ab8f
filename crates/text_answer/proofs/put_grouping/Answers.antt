use native.Mathlib.Omega.{arith}
use Rattle.text_answer.proofs.Front.{grouping_wrote, labels_room, scores_room}
use Rattle.text_answer.proofs.put_grouping.Goals as goal

pub put_labels-q-requires : goal.put_labels-q-requires
put_labels-q-requires c = labels_room c.args.labels.now c.args.scores.now c.args.groups c.args.draws c.requires c.put_sizes-p.ensures

pub put_scores-requires : goal.put_scores-requires
put_scores-requires c =
    -- room behind the labels is room from every place in front of that too
    let room = scores_room c.args.labels.now c.args.scores.now c.args.groups c.args.draws c.requires c.put_sizes-p.ensures c.put_labels-q.ensures in
    omega (arith, room, c.put_labels-q.ensures.end)

pub returns : goal.returns
returns c = grouping_wrote c.args.labels.now c.args.scores.now c.args.groups c.args.draws c.put_sizes-p.ensures c.put_labels-q.ensures c.put_scores.ensures
