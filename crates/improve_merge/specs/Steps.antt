-- What the functions ask and leave. Definitions only.
use Rattle.std.specs.Prelude.{ℕ, ◌+◌, ◌<◌, ◌≤◌, ◌≡◌, List, ◌++◌, map, length, take, drop, Float}
use Rattle.lists.specs.Lists.{numbers, put}
use Rattle.partition.specs.Partition.{State, Partition, joined}
use Rattle.partition.specs.Orders.{sizes_of, cut, Sized}
use Rattle.quality.specs.Quality.{qualities_of, weak_count, weak_mean}
use Rattle.improve_merge.specs.Merging.{weak_items}

-- the partition that stands in the lists
abbrev pub state_of : ℕ → List ℕ → List ℕ → List Float → State
state_of count sizes order scores = record { groups = cut count sizes order; scores = scores }

-- the weak groups of s, and their items at the front of a list
pub record WeakListed (s : State) (groups items : ℕ) (mean : Float) (list list' : List ℕ) : Type 0 where
  pub groups_are : groups ≡ weak_count (qualities_of s.scores s.groups)
  pub items_are : items ≡ length (weak_items s)
  pub mean_is : mean ≡ weak_mean (qualities_of s.scores s.groups)
  pub listed_are : list' ≡ weak_items s ++ drop (length (weak_items s)) list

-- groups at the front of an order and of its sizes
pub record Kept (gs : List (List ℕ)) (groups items : ℕ) (out out' counts' : List ℕ) : Type 0 where
  pub groups_are : groups ≡ length gs
  pub items_are : items ≡ length (joined gs)
  pub front : out' ≡ joined gs ++ drop (length (joined gs)) out
  pub sized : counts' ≡ sizes_of (length out) gs

-- `count` groups of an inner book have room behind `groups` groups of `items` items
pub record Behind (items order sizes : List ℕ) (count groups from : ℕ) (out counts : List ℕ) : Type 0 where
  pub few : length out ≤ 256
  pub below : (j : ℕ) → j < length order → numbers order j < length items
  pub room : from + length order ≤ length out
  pub some : count ≤ length sizes
  pub places : groups + count ≤ length counts
  pub long : length counts ≡ length out

pub record Appended (items order sizes : List ℕ) (count groups from : ℕ) (out out' counts counts' : List ℕ) : Type 0 where
  pub ordered : out' ≡ put from (length order) out (map (numbers items) order)
  pub sized : counts' ≡ put groups count counts (take count sizes)

-- a partition stands in an order and its sizes
pub record PartitionLists (m count : ℕ) (order sizes : List ℕ) : Type 0 where
  pub sized : Sized m count order sizes
  pub parts : Partition m (cut count sizes order)

-- a base with its weak items, and a partition of the book that these make
pub record Improvable (m count : ℕ) (order sizes : List ℕ) (scores : List Float) (items : List ℕ) (inner : ℕ) (innerOrder innerSizes : List ℕ) : Type 0 where
  pub base : PartitionLists m count order sizes
  pub inside : PartitionLists (length items) inner innerOrder innerSizes
  pub weak : items ≡ weak_items (state_of count sizes order scores)
  pub any : 0 < m

-- groups of m items stand in the lists
pub record Merged (gs : List (List ℕ)) (m groups : ℕ) (out counts : List ℕ) : Type 0 where
  pub groups_are : groups ≡ length gs
  pub ordered : out ≡ joined gs
  pub sized : counts ≡ sizes_of m gs
