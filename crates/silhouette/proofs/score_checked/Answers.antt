use Rattle.silhouette.proofs.Called.{whole_scores, whole_wiped}
use Rattle.silhouette.proofs.score_checked.Goals as goal

pub returns : goal.returns
returns c = record {
  scores_after = whole_scores c.args.pairwise.now c.args.n c.args.labels.now c.args.floats.now c.requires.n_nonzero.3 c.requires.n_nonzero.5 c.transpose.ensures c.score_across.ensures;
  floats_after = whole_wiped c.args.pairwise.now c.args.n c.args.labels.now c.args.floats.now c.requires.n_nonzero.3 c.requires.n_nonzero.5 c.transpose.ensures c.wipe_doubles.ensures;
}
