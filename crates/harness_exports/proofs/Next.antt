-- The place of the next draw, by the answer.
use Prim.Native.Nat.{ℕ, ◌<◌}
use mathlib.Core.Path.{◌≡◌, refl, ◌∙◌, ap}
use mathlib.Core.List.{List}
use lib.Ieee.{Float}
use Rattle.std.specs.Prelude.{Result, Ok, Err}
use Rattle.draws.specs.Draws.{Drawn, drawn, refused}
use Rattle.draws.specs.declared.Stop.{Stop}
use Rattle.plusplus.specs.Seeding.{SeededBy, answer_of}
use Rattle.lloyd_pass.specs.declared.Ended.{Ended}
use Rattle.kmeans.specs.Clustering.{kmeans_of}
use Rattle.kmeans.specs.Steps.{clustered, ClusteredBy}
use Rattle.kmeans.proofs.Laws.{kmeans_done, kmeans_stopped}
use Rattle.harness_exports.specs.Next.{next_after}

module _ (x : ℕ → ℕ → Float) (m k : ℕ) (z : 0 < m) (one_of_lem : 0 < k) (at : ℕ) (ds : List ℕ) (next : ℕ) (old new : List ℕ) where
  pub next_done : {n : ℕ} {e : Ended} → ClusteredBy (kmeans_of x m k at ds) next old (clustered n e) new → n ≡ next_after next (kmeans_of x m k at ds)
  next_done c = let v = kmeans_done x m k z one_of_lem at ds next old new c in rw v.3 v.0

  pub next_stopped : {w : Stop} → ClusteredBy (kmeans_of x m k at ds) next old (Err w) new → 0 ≡ next_after next (kmeans_of x m k at ds)
  next_stopped c = let v = kmeans_stopped x m k z one_of_lem at ds next old new c in rw v.2

-- the same where centres alone are asked for
abbrev place_in : Result ℕ Stop → ℕ
place_in (Ok n) = n
place_in (Err w) = 0

place_in_lem : (next : ℕ) (d : Drawn (List ℕ)) → place_in (answer_of next d) ≡ next_after next d
place_in_lem next (drawn cs rest) = refl
place_in_lem next (refused p) = refl

module _ (d : Drawn (List ℕ)) (next : ℕ) (cs : List ℕ) where
  pub next_seeded : {n : ℕ} → SeededBy d next (Ok n) cs → n ≡ next_after next d
  next_seeded s = ap place_in s.answer_is ∙ place_in_lem next d

  pub next_unseeded : {w : Stop} → SeededBy d next (Err w) cs → 0 ≡ next_after next d
  next_unseeded s = ap place_in s.answer_is ∙ place_in_lem next d
