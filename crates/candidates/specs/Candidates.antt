-- The candidates of a round of m items, and the best of them. López de Prado, MLAM (2020) section 4.4, snippet 4.1 (base clustering).
-- x i c is item i's column c, its distance to item c. Definitions only.
use Rattle.std.specs.Prelude.{ℕ, zero, suc, ◌+◌, true, cond, List, length, Float}
use Rattle.std.specs.Float.{inf}
use Rattle.std.specs.Float.Ieee.{lt}
use Rattle.lists.specs.Lists.{cells, numbers}
use Rattle.tstat.specs.Tstat.{tstat_of, plain_mean}
use Rattle.draws.specs.Counts.{seeding_of, tries, count_of}
use Rattle.draws.specs.Draws.{Drawn, drawn, and_then}
use Rattle.choice.specs.Replaces.{replaces}
use Rattle.kmeans.specs.Clustering.{kmeans_of}
use Rattle.silhouette_areas.specs.Scoring.{scores_of}

-- a candidate: the label and the score of each item, the scores' t-stat and their plain mean
pub record Candidate : Type 0 where
  pub labels : List ℕ
  pub scores : List Float
  pub stat : Float
  pub mean : Float

abbrev pub candidate : List ℕ → List Float → Candidate
candidate labels scores =
    record {
      labels = labels;
      scores = scores;
      stat = tstat_of (cells scores) (length scores);
      mean = plain_mean (cells scores) (length scores);
    }

abbrev pub candidate_of : (ℕ → ℕ → Float) → ℕ → List ℕ → Candidate
candidate_of x m labels = candidate labels (scores_of x m (numbers labels))

-- the candidate with k groups; `at` is the place of the first draw
unfoldable pub candidate_from : (ℕ → ℕ → Float) → ℕ → ℕ → ℕ → List ℕ → Drawn Candidate
candidate_from x m k at ds = and_then (kmeans_of x m k at ds) (λ g rest. drawn (candidate_of x m g.labels) rest)

-- the best candidate so far, if there is one
pub data Best : Type 0 where
  nothing : Best
  found : Candidate → Best

-- the first one need only be above -infinity
abbrev pub keep : Candidate → Best → Best
keep c nothing = cond (lt (inf true) c.stat) (found c) nothing
keep c (found b) = cond (replaces c.stat c.mean b.stat b.mean) (found c) (found b)

-- the best after j candidates more, with k, k + 1, .. groups; `at` is the place of the first draw
unfoldable pub tries_from : (ℕ → ℕ → Float) → ℕ → ℕ → ℕ → Best → ℕ → List ℕ → Drawn Best
tries_from x m k zero best at ds = drawn best ds
tries_from x m k (suc j) best at ds =
    and_then (kmeans_of x m k at ds) (λ g rest. tries_from x m (suc k) j (keep (candidate_of x m g.labels) best) (at + seeding_of k) rest)

-- the best after r repeats more
unfoldable pub repeats_from : (ℕ → ℕ → Float) → ℕ → ℕ → Best → ℕ → List ℕ → Drawn Best
repeats_from x m zero best at ds = drawn best ds
repeats_from x m (suc r) best at ds = and_then (tries_from x m 2 (tries m) best at ds) (λ b rest. repeats_from x m r b (at + count_of m) rest)

-- the best of all candidates of a round
unfoldable pub best_of : (ℕ → ℕ → Float) → ℕ → ℕ → ℕ → List ℕ → Drawn Best
best_of x m repeats at ds = repeats_from x m repeats nothing at ds
