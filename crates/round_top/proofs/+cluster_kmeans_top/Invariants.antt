-- The measure is the rounds left.
use Rattle.round_top.proofs.+cluster_kmeans_top.Given as goal

abbrev pub decreases-cluster_kmeans_top : goal.decreases-cluster_kmeans_top
decreases-cluster_kmeans_top l = l.left
