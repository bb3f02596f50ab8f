-- What the steps of the leaf of the labels make together: the answer of the draws.
use Prim.Native.Nat.{ℕ, ◌+◌, ◌-◌, ◌<◌}
use mathlib.Core.Path.{◌≡◌, ◌∙◌}
use mathlib.Core.List.{List}
use native.Mathlib.Omega.{arith}
use lib.ListN.{length, drop}
use lib.Ieee.{Float}
use Rattle.draws.specs.Counts.{seeding_of}
use Rattle.draws.specs.declared.Stop.{Stop}
use Rattle.lloyd_pass.specs.declared.Ended.{Ended}
use Rattle.kmeans.specs.Clustering.{kmeans_of}
use Rattle.kmeans.specs.Steps.{clustered, ClusteredBy}
use Rattle.kmeans.proofs.Laws.{kmeans_done, kmeans_stopped}
use Rattle.std.specs.Prelude.{Ok, Err}
use Rattle.kmeans_answers.specs.declared.KmeansError.TheVariants.{Stopped}
use Rattle.kmeans_answers.specs.Leaf.{took_of}
use Rattle.kmeans_answers.proofs.Runs.{ran, counted_back}
use Rattle.kmeans_labels.specs.Leaves.{labels_of}

-- the labels, by what k-means answered
module _ (x : ℕ → ℕ → Float) (m k : ℕ) (z : 0 < m) (one_of_lem : 0 < k) (ds old new : List ℕ) where
  pub labels_stopped : {w : Stop} → ClusteredBy (kmeans_of x m k 0 ds) (0 + seeding_of k) old (Err w) new
      → ran (Err (Stopped w)) new ≡ took_of ds (labels_of (kmeans_of x m k 0 ds)) old
  labels_stopped c = let v = kmeans_stopped x m k z one_of_lem 0 ds (0 + seeding_of k) old new c in rw (v.5, v.1, v.2)

  pub labels_done : {n : ℕ} {e : Ended} → ClusteredBy (kmeans_of x m k 0 ds) (0 + seeding_of k) old (clustered n e) new
      → ran (Ok n) new ≡ took_of ds (labels_of (kmeans_of x m k 0 ds)) old
  labels_done {n} {e} c =
      let v = kmeans_done x m k z one_of_lem 0 ds (0 + seeding_of k) old new c in
      let b : length ds - length (drop (seeding_of k) ds) ≡ n = counted_back (seeding_of k) ds v.4 ∙ omega (arith, v.0) in
      rw (v.3, b)
