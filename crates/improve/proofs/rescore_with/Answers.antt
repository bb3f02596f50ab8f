use Prim.Native.Nat.{ℕ}
use mathlib.Core.Path.{◌∙◌, ◌≡◌}
use mathlib.Core.List.{List}
use lib.ListN.{length}
use Rattle.distance.specs.Distance.{dist_at}
use Rattle.lists.specs.Lists.{listed}
use Rattle.partition.specs.Partition.{label_of}
use Rattle.partition.specs.Orders.{cut}
use Rattle.silhouette_areas.proofs.Laws.{book_round}
use Rattle.improve.proofs.Laws.{book_labels, book_scores}
use Rattle.improve.proofs.rescore_with.Goals as goal

pub scores_in-requires : goal.scores_in-requires
scores_in-requires c =
    let m : ℕ = length c.args.rows.now in
    let ll : length c.labels_from_clusters.new.labels ≡ m = c.labels_from_clusters.auto.labels ∙ c.requires.labels_long in
    let l : ◌≡◌ {A = List ℕ} c.labels_from_clusters.new.labels (listed (label_of (cut c.args.count c.args.sizes.now c.args.order.now)) m) = rw c.requires.labels_long at c.labels_from_clusters.ensures in
    (book_round (dist_at c.args.book.now c.args.n c.args.rows.now) (length c.args.rows.now) c.args.area.now c.book_pairs.ensures c.requires.some c.requires.readable.few_read c.requires.size, ll, c.requires.scores_long, c.requires.groups.sized.groups, book_labels c.requires.groups c.requires.some l)

pub returns : goal.returns
returns c =
    let m : ℕ = length c.args.rows.now in
    let l : ◌≡◌ {A = List ℕ} c.labels_from_clusters.new.labels (listed (label_of (cut c.args.count c.args.sizes.now c.args.order.now)) m) = rw c.requires.labels_long at c.labels_from_clusters.ensures in
    book_scores (dist_at c.args.book.now c.args.n c.args.rows.now) (length c.args.rows.now) c.args.area.now c.book_pairs.ensures (cut c.args.count c.args.sizes.now c.args.order.now) l c.scores_in.ensures
