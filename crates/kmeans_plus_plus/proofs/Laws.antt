-- What the steps of the leaf of the centres make together: the answer of the draws.
use Prim.Native.Nat.{ℕ, ◌+◌, ◌-◌, ◌<◌}
use mathlib.Core.Path.{◌≡◌, ◌∙◌}
use mathlib.Core.List.{List}
use native.Mathlib.Omega.{arith}
use lib.ListN.{length, drop}
use lib.Ieee.{Float}
use Rattle.draws.specs.Counts.{seeding_of}
use Rattle.draws.specs.declared.Stop.{Stop}
use Rattle.plusplus.specs.Seeding.{seeding, SeededBy}
use Rattle.plusplus.proofs.Seeds.{seed_done, seed_stopped}
use Rattle.std.specs.Prelude.{Ok, Err}
use Rattle.kmeans_answers.specs.declared.KmeansError.TheVariants.{Stopped}
use Rattle.kmeans_answers.specs.Leaf.{took_of}
use Rattle.kmeans_answers.proofs.Runs.{ran, counted_back}

-- the centres, by what the seeding answered
module _ (q : ℕ → ℕ → Float) (m k : ℕ) (z : 0 < m) (one_of_lem : 0 < k) (ds : List ℕ) (found old : List ℕ) where
  pub centres_stopped : {w : Stop} → SeededBy (seeding q m k 0 ds) (0 + seeding_of k) (Err w) found → ran (Err (Stopped w)) old ≡ took_of ds (seeding q m k 0 ds) old
  centres_stopped s = let v = seed_stopped q m k z one_of_lem 0 ds (0 + seeding_of k) found s in rw (v.1, v.2)

  pub centres_done : {n : ℕ} {out : List ℕ} → SeededBy (seeding q m k 0 ds) (0 + seeding_of k) (Ok n) found → out ≡ found → ran (Ok n) out ≡ took_of ds (seeding q m k 0 ds) old
  centres_done {n} {out} s e =
      let v = seed_done q m k z one_of_lem 0 ds (0 + seeding_of k) found s in
      let c : length ds - length (drop (seeding_of k) ds) ≡ n = counted_back (seeding_of k) ds v.4 ∙ omega (arith, v.0) in
      rw (v.3, c, e)
