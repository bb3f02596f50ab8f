-- What the functions of the end of a round ask and leave. Definitions only.
-- The round's lists are laid out as crates/round_lists/specs/Steps.antt says: rows, order and sizes of the base in the numbers, n places each; its
-- scores at the front of the doubles, and the areas at left * n.
use Rattle.std.specs.Prelude.{ℕ, ◌+◌, ◌*◌, ◌≤◌, ◌≡◌, List, length, take, drop, Float}
use Rattle.lists.specs.Lists.{part}
use Rattle.distance.specs.Distance.{Readable}
use Rattle.partition.specs.Partition.{State, joined}
use Rattle.partition.specs.Orders.{sizes_of, cut}
use Rattle.improve_merge.specs.Merging.{weak_items}
use Rattle.improve_merge.specs.Steps.{state_of, Improvable}

-- a round whose inner round has ended: its base stands in its places, and the inner partition of `inner` groups at the front of the outputs
pub record InnerEnded (book : List Float) (n left count inner w : ℕ) (order sizes : List ℕ) (scores : List Float) (wi : List ℕ) (wf : List Float) : Type 0 where
  pub readable : Readable book n (take (length order) wi)
  pub items : length order ≤ n
  pub few : n ≤ 256
  pub room : 3 * n ≤ length wi
  pub front : n ≤ length wf
  pub one : 1 ≤ left
  pub level : left ≤ 32
  pub space : left * n + 5 * (n * n) ≤ length wf
  pub same_sizes : length sizes ≡ length order
  pub same_scores : length scores ≡ length order
  pub fewer : w ≤ length order
  pub improvable : Improvable (length order) count (part n (length order) wi) (part (2 * n) (length order) wi) (take (length order) wf)
      (weak_items (state_of count (part (2 * n) (length order) wi) (part n (length order) wi) (take (length order) wf)))
      inner (take w order) (take w sizes)
  pub weak : w ≡ length (weak_items (state_of count (part (2 * n) (length order) wi) (part n (length order) wi) (take (length order) wf)))
  -- the sizes are those of the base's groups, and 0 behind them
  pub plain : part (2 * n) (length order) wi ≡ sizes_of (length order) (cut count (part (2 * n) (length order) wi) (part n (length order) wi))

-- lists of m places to work in
pub record WorkLists (m : ℕ) (oldScores : List Float) (items newOrder newSizes : List ℕ) (newScores : List Float) : Type 0 where
  pub old_scores : length oldScores ≡ m
  pub items_long : length items ≡ m
  pub new_order : length newOrder ≡ m
  pub new_sizes : length newSizes ≡ m
  pub new_scores : length newScores ≡ m

-- the partition s is the answer
pub record RoundEnded (s : State) (n left r m : ℕ) (order sizes : List ℕ) (scores : List Float) (wf wf' : List Float) : Type 0 where
  pub groups_are : r ≡ length s.groups
  pub ordered : order ≡ joined s.groups
  pub sized : sizes ≡ sizes_of m s.groups
  pub scored : scores ≡ s.scores
  pub beyond : drop (left * n + 5 * (n * n)) wf' ≡ drop (left * n + 5 * (n * n)) wf
