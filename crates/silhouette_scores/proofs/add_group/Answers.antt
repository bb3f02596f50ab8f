use mathlib.Core.Path.{◌∙◌, sym}
use Rattle.lists.proofs.Listed.{listed_length}
use Rattle.silhouette_scores.proofs.Turns.{midway_length, midway_more, midway_skip}
use Rattle.silhouette_scores.proofs.add_group.Goals as goal

pub returns-then-count-eq0 : goal.returns-then-count-eq0
returns-then-count-eq0 c = midway_skip c.args.across.now c.args.labels.now c.args.l c.requires.midway c.add_members-count.result c.add_members-count.ensures.value c.if-count-eq0.true

pub keep_least-requires : goal.keep_least-requires
keep_least-requires c = listed_length _ _ c.take_means.ensures.sums_after ∙ sym (midway_length c.args.across.now c.args.labels.now c.args.l c.requires.midway)

pub returns : goal.returns
returns c = midway_more c.args.across.now c.args.labels.now c.args.l c.requires.midway c.add_members-count.result c.add_members-count.ensures.value c.if-count-eq0.false c.add_members-count.ensures.sums_after c.take_means.ensures.own_after c.take_means.ensures.sums_after c.keep_least.ensures
