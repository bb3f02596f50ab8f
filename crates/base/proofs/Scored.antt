-- The scores of a base are the silhouettes of its items under the labels of its own groups.
use Prim.Native.Nat.{ℕ, ◌<◌}
use mathlib.Core.Path.{◌≡◌, sym, ◌∙◌, ap}
use lib.Ieee.{Float}
use Rattle.lists.specs.Lists.{numbers}
use Rattle.silhouette_areas.specs.Scoring.{scores_of}
use Rattle.partition.specs.Partition.{occupied, groups_of, label_of, State}
use Rattle.candidates.specs.Candidates.{Candidate, found}
use Rattle.base.specs.Base.{base_of}
use Rattle.silhouette_areas.proofs.Laws.{scores_ranked}
use Rattle.partition.proofs.Ranks.{label_occupied, label_ranked}
use Rattle.candidates.proofs.Laws.{Found}

-- the labels of the groups of labels give the scores of the labels
pub scores_renumbered : (x : ℕ → ℕ → Float) (m : ℕ) (label : ℕ → ℕ) → ((i : ℕ) → i < m → label i < m) → scores_of x m (label_of (groups_of label m m)) ≡ scores_of x m label
scores_renumbered x m label h =
    scores_ranked x m label (label_of (groups_of label m m)) (occupied label m) h (label_occupied label m) (label_ranked label m h)

-- the scores of m items, whose columns are x, under the labels of the groups
abbrev pub Scored : (ℕ → ℕ → Float) → ℕ → State → Type 0
Scored x m s = s.scores ≡ scores_of x m (label_of s.groups)

pub base_scored : (x : ℕ → ℕ → Float) (m : ℕ) (c : Candidate) → Found x m (found c) → Scored x m (base_of m c)
base_scored x m c h = ap (λ (k : Candidate). k.scores) h.2 ∙ sym (scores_renumbered x m (numbers c.labels) h.1)
