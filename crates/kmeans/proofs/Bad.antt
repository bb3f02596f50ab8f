-- A draw that ends k-means is out of range, where there are draws enough; and a draw out of range ends it, there or in front of it.
use Prim.Native.Nat.{ℕ, ◌+◌, ◌<◌, ◌≤◌}
use mathlib.Core.List.{List}
use lib.ListN.{length, drop}
use lib.Ieee.{Float}
use Rattle.distance_columns.specs.Pair.{squared_at}
use Rattle.draws.specs.Counts.{seeding_of}
use Rattle.draws.specs.Draws.{Drawn, drawn, refused, and_then}
use Rattle.draws.proofs.Bad.{Reads, Stops, then_stops}
use Rattle.plusplus.specs.Seeding.{seeding}
use Rattle.plusplus.specs.Ranges.{OutOfRange}
use Rattle.plusplus.proofs.Bad.{seeding_bad, seeding_out}
use Rattle.kmeans.specs.Clustering.{kmeans_of}

reads_made : {S U : Type 0} (draws : List ℕ) (next : ℕ) (Q : ℕ → Type 0) (D : Drawn S) (f : S → U) → Reads draws next Q D → Reads draws next Q (and_then D (λ s rest. drawn (f s) rest))
reads_made draws next Q (drawn s rest) f h = h
reads_made draws next Q (refused p) f h = h

pub kmeans_bad : (x : ℕ → ℕ → Float) (m k : ℕ) (draws : List ℕ) (at : ℕ) → at + seeding_of k ≤ length draws
    → Reads draws (at + seeding_of k) (OutOfRange (squared_at x m) m k at draws) (kmeans_of x m k at (drop at draws))
unfolding kmeans_of
kmeans_bad x m k draws at l =
    reads_made draws (at + seeding_of k) (OutOfRange (squared_at x m) m k at draws) (seeding (squared_at x m) m k at (drop at draws)) _ (seeding_bad (squared_at x m) m k draws at l)

pub kmeans_out : (x : ℕ → ℕ → Float) (m k : ℕ) (draws : List ℕ) (at : ℕ) → 0 < m → {p : ℕ} → OutOfRange (squared_at x m) m k at draws p
    → Stops p (kmeans_of x m k at (drop at draws))
unfolding kmeans_of
kmeans_out x m k draws at z {p} o = then_stops p (seeding (squared_at x m) m k at (drop at draws)) _ (seeding_out (squared_at x m) m k draws at z o)
