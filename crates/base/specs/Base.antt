-- The base of a round: the groups of its best candidate, and what `cluster_kmeans_base` asks and leaves. López de Prado, MLAM (2020) section 4.4, snippet 4.1
-- (base clustering). Definitions only.
use Rattle.std.specs.Prelude.{ℕ, ◌≡◌, List, Result, Ok, Err, length, Float}
use Rattle.lists.specs.Lists.{numbers}
use Rattle.draws.specs.Draws.{Drawn, drawn, refused}
use Rattle.draws.specs.declared.Stop.{Stop}
use Rattle.draws.specs.declared.Stop.TheVariants.{DrawOutOfRange, ClusteringFailed}
use Rattle.plusplus_seeded.specs.declared.Source.{Source}
use Rattle.partition.specs.Partition.{groups_of, joined, State}
use Rattle.partition.specs.Orders.{sizes_of}
use Rattle.candidates.specs.Candidates.{Candidate, Best, nothing, found}
use Rattle.base.specs.declared.Based.{Based}

-- the groups of a candidate of m items, numbered from 0 in label order without empty ones, and its scores
abbrev pub base_of : ℕ → Candidate → State
base_of m c = record { groups = groups_of (numbers c.labels) m m; scores = c.scores }

-- the answer of a call that nothing stopped
abbrev pub based : ℕ → Source → Result Based Stop
based groups source = Ok (record { groups = groups; source = source })

-- the answer: how many groups, and the source behind the draws, which is `next`; or what ends the run. A round without a candidate
-- would end it, but no call has one (certain_runs/specs/Certain.antt)
abbrev pub based_of : ℕ → Source → Drawn Best → Result Based Stop
based_of m next (drawn nothing rest) = Err ClusteringFailed
based_of m next (drawn (found c) rest) = based (length (base_of m c).groups) next
based_of m next (refused p) = Err (DrawOutOfRange p)

-- a partition of m items stands in the lists
pub record Stands (m : ℕ) (s : State) (order sizes : List ℕ) (scores : List Float) : Type 0 where
  pub ordered : order ≡ joined s.groups
  pub sized : sizes ≡ sizes_of m s.groups
  pub scored : scores ≡ s.scores

abbrev pub Leaves : ℕ → Drawn Best → List ℕ → List ℕ → List Float → Type 0
Leaves m (drawn nothing rest) order sizes scores = Unit
Leaves m (drawn (found c) rest) order sizes scores = Stands m (base_of m c) order sizes scores
Leaves m (refused p) order sizes scores = Unit

pub record BasedBy (m : ℕ) (D : Drawn Best) (next : Source) (r : Result Based Stop) (order' sizes' : List ℕ) (scores' : List Float) : Type 0 where
  pub answer_is : r ≡ based_of m next D
  pub leaves : Leaves m D order' sizes' scores'
