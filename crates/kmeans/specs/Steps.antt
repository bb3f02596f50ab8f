-- What the steps of k-means answer and leave. Definitions only.
use Rattle.std.specs.Prelude.{ℕ, ◌≤◌, ◌≡◌, List, Result, Ok, Err, Float}
use Rattle.distance_columns.specs.Pair.{squared_at}
use Rattle.draws.specs.Counts.{seeding_of}
use Rattle.plusplus_seeded.specs.declared.Source.{Source}
use Rattle.plusplus_seeded.specs.Sources.{given, moved_on, Supplies, seed_draws, seed_next}
use Rattle.draws.specs.Draws.{Drawn, drawn, refused}
use Rattle.draws.specs.declared.Stop.{Stop}
use Rattle.draws.specs.declared.Stop.TheVariants.{DrawOutOfRange}
use Rattle.kmeans.specs.declared.Clustered.{Clustered}
use Rattle.kmeans.specs.declared.Labelled.{Labelled}
use Rattle.lloyd_pass.specs.declared.Ended.{Ended}
use Rattle.kmeans.specs.Clustering.{Grouped}

-- the answers of calls that no draw stopped
abbrev pub clustered : ℕ → Ended → Result Clustered Stop
clustered at ended = Ok (record { at = at; ended = ended })

abbrev pub labelled : Source → Ended → Result Labelled Stop
labelled source ended = Ok (record { source = source; ended = ended })

-- the answer: the place of the next draw, which is `next`, and how the passes ended; or the place of a draw out of range
abbrev pub clustered_of : ℕ → Drawn Grouped → Result Clustered Stop
clustered_of next (drawn g rest) = clustered next g.ended
clustered_of next (refused p) = Err (DrawOutOfRange p)

-- the labels after the call; a draw out of range leaves them as they were
abbrev pub labels_after : Drawn Grouped → List ℕ → List ℕ
labels_after (drawn g rest) old = g.labels
labels_after (refused p) old = old

pub record ClusteredBy (g : Drawn Grouped) (next : ℕ) (labels : List ℕ) (r : Result Clustered Stop) (labels' : List ℕ) : Type 0 where
  pub answer_is : r ≡ clustered_of next g
  pub labels_are : labels' ≡ labels_after g labels

-- k groups of m items, and a source with the draws for them
pub record MayCluster (m k : ℕ) (draws : List ℕ) (src : Source) : Type 0 where
  pub two : 2 ≤ k
  pub names : k ≤ m
  pub supplies : Supplies src draws (seeding_of k)

-- the draws of one seeding, from a list or a generator, and the source behind them
abbrev pub seed_given : (ℕ → ℕ → Float) → ℕ → ℕ → Source → List ℕ → List ℕ
seed_given x m k src draws = given src draws (seed_draws src (squared_at x m) m k)

abbrev pub seed_moved : (ℕ → ℕ → Float) → ℕ → ℕ → Source → Source
seed_moved x m k src = moved_on src (seeding_of k) (seed_next src (squared_at x m) m k)

-- the answer: the source behind the draws, which is `next`, and how the passes ended; or the place of a draw out of range
abbrev pub labelled_of : Source → Drawn Grouped → Result Labelled Stop
labelled_of next (drawn g rest) = labelled next g.ended
labelled_of next (refused p) = Err (DrawOutOfRange p)

pub record LabelledBy (g : Drawn Grouped) (next : Source) (labels : List ℕ) (r : Result Labelled Stop) (labels' : List ℕ) : Type 0 where
  pub answer_is : r ≡ labelled_of next g
  pub labels_are : labels' ≡ labels_after g labels
