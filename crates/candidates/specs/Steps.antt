-- What the steps of the search ask and leave. Definitions only.
use Rattle.std.specs.Prelude.{ℕ, ◌*◌, ◌≤◌, ◌≡◌, List, Option, Some, None, Result, Ok, Err, length, Float}
use Rattle.draws.specs.Counts.{count_of}
use Rattle.draws.specs.Draws.{Drawn, drawn, refused}
use Rattle.draws.specs.declared.Stop.{Stop}
use Rattle.draws.specs.declared.Stop.TheVariants.{DrawOutOfRange}
use Rattle.plusplus_seeded.specs.declared.Source.{Source}
use Rattle.plusplus_seeded.specs.Sources.{RngOf, Supplies}
use Rattle.choice.specs.declared.Kept.{Kept}
use Rattle.candidates.specs.declared.Searched.{Searched}
use Rattle.candidates.specs.declared.Tried.{Tried}
use Rattle.candidates.specs.Candidates.{Best, nothing, found}
use Rattle.candidates.specs.Candidates as candidates

-- a candidate that is kept
abbrev pub kept_by : Float → Float → Option Kept
kept_by stat mean = Some (record { stat = stat; mean = mean })

-- the answers of calls that no draw stopped
abbrev pub made : Source → Float → Float → Result Tried Stop
made source stat mean = Ok (record { source = source; stat = stat; mean = mean })

abbrev pub searched : Source → Option Kept → Result Searched Stop
searched source kept = Ok (record { source = source; kept = kept })

-- the t-stat and the mean of the best
abbrev pub kept_of : Best → Option Kept
kept_of nothing = None
kept_of (found c) = kept_by c.stat c.mean

-- the best, by what is kept and by the lists
abbrev pub best_from : Option Kept → List ℕ → List Float → Best
best_from None labels scores = nothing
best_from (Some k) labels scores = found (record { labels = labels; scores = scores; stat = k.stat; mean = k.mean })

-- the lists have the labels and the scores of the best, where there is one
abbrev pub Holds : Best → List ℕ → List Float → Type 0
Holds nothing labels scores = Unit
Holds (found c) labels scores = (labels ≡ c.labels) × (scores ≡ c.scores)

-- the answer on one candidate: the source behind its draws, which is `next`, its t-stat and its mean; or the place of a draw out of range
abbrev pub tried_of : Source → Drawn candidates.Candidate → Result Tried Stop
tried_of next (drawn c rest) = made next c.stat c.mean
tried_of next (refused p) = Err (DrawOutOfRange p)

-- the lists have its labels and its scores
abbrev pub Written : Drawn candidates.Candidate → List ℕ → List Float → Type 0
Written (drawn c rest) labels scores = (labels ≡ c.labels) × (scores ≡ c.scores)
Written (refused p) labels scores = Unit

pub record TriedBy (D : Drawn candidates.Candidate) (next : Source) (r : Result Tried Stop) (labels' : List ℕ) (scores' : List Float) : Type 0 where
  pub answer_is : r ≡ tried_of next D
  pub written : Written D labels' scores'

-- the answer: the source behind the draws, which is `next`, and what is kept; or the place of a draw out of range
abbrev pub searched_of : Source → Drawn Best → Result Searched Stop
searched_of next (drawn b rest) = searched next (kept_of b)
searched_of next (refused p) = Err (DrawOutOfRange p)

abbrev pub Leaves : Drawn Best → List ℕ → List Float → Type 0
Leaves (drawn b rest) labels scores = Holds b labels scores
Leaves (refused p) labels scores = Unit

pub record SearchedBy (D : Drawn Best) (next : Source) (r : Result Searched Stop) (labels' : List ℕ) (scores' : List Float) : Type 0 where
  pub answer_is : r ≡ searched_of next D
  pub leaves : Leaves D labels' scores'

-- the generator of the source behind the draws
abbrev pub RngBehind : Result Searched Stop → List ℕ → Type 0
RngBehind (Ok f) rng = RngOf f.source rng
RngBehind (Err s) rng = Unit

-- the labels and the scores of the best, and those of a candidate, for m items
pub record Lists (m : ℕ) (labels : List ℕ) (scores : List Float) (newLabels : List ℕ) (newScores : List Float) : Type 0 where
  pub labels_long : length labels ≡ m
  pub scores_long : length scores ≡ m
  pub new_labels_long : length newLabels ≡ m
  pub new_scores_long : length newScores ≡ m

-- m items, and a source with draws enough for all repeats
pub record Enough (m repeats : ℕ) (draws : List ℕ) (src : Source) : Type 0 where
  pub two : 2 ≤ m
  pub some : 1 ≤ repeats
  pub times : repeats ≤ 64
  pub supplies : Supplies src draws (repeats * count_of m)
