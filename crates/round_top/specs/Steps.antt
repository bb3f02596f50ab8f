-- What a round asks and leaves. Definitions only. Where things stand in the two lists of the run: crates/round_lists/specs/Steps.antt.
use Rattle.std.specs.Prelude.{ℕ, ◌+◌, ◌*◌, ◌≤◌, ◌≡◌, List, Result, Ok, Err, length, drop, Float}
use Rattle.partition.specs.Partition.{joined}
use Rattle.partition.specs.Orders.{sizes_of}
use Rattle.plusplus_seeded.specs.declared.Source.{Source}
use Rattle.round.specs.Round.{Run, done, ended}
use Rattle.round.specs.Steps.{RoundInput}
use Rattle.round_top.specs.declared.Top.{Top}
use Rattle.draws.specs.declared.Stop.{Stop}

-- the answer of a round that nothing stopped
abbrev pub top_done : ℕ → ℕ → Result Top Stop
top_done groups read = Ok (record { groups = groups; read = read })

-- the answer of a round, and what it leaves in the outputs: a run that ended leaves them as they were
abbrev pub top_of : Run → Result Top Stop
top_of (done s ms read rest) = top_done (length s.groups) read
top_of (ended s ms) = Err s

abbrev pub order_after : Run → List ℕ → List ℕ
order_after (done s ms read rest) old = joined s.groups
order_after (ended s ms) old = old

abbrev pub sizes_after : ℕ → Run → List ℕ → List ℕ
sizes_after m (done s ms read rest) old = sizes_of m s.groups
sizes_after m (ended s ms) old = old

abbrev pub scores_after : Run → List Float → List Float
scores_after (done s ms read rest) old = s.scores
scores_after (ended s ms) old = old

-- what a round asks
pub record Ready (book : List Float) (n repeats : ℕ) (draws : List ℕ) (src : Source) (left : ℕ) (order sizes : List ℕ) (scores : List Float) (wi : List ℕ) (wf : List Float) : Type 0 where
  pub reads : RoundInput book n (length order) repeats draws src left wi
  pub level : left ≤ 32
  pub same_sizes : length sizes ≡ length order
  pub same_scores : length scores ≡ length order
  pub room : 3 * (left * n) + n ≤ length wi
  pub space : left * n + 5 * (n * n) ≤ length wf

-- what it leaves
pub record RoundLeaves (r : Run) (n left : ℕ) (a : Result Top Stop) (order order' sizes sizes' : List ℕ) (scores scores' : List Float) (wi wi' : List ℕ) (wf wf' : List Float) : Type 0 where
  pub answer_is : a ≡ top_of r
  pub ordered : order' ≡ order_after r order
  pub sized : sizes' ≡ sizes_after (length order) r sizes
  pub scored : scores' ≡ scores_after r scores
  pub behind : drop (3 * (left * n) + n) wi' ≡ drop (3 * (left * n) + n) wi
  pub beyond : drop (left * n + 5 * (n * n)) wf' ≡ drop (left * n + 5 * (n * n)) wf
