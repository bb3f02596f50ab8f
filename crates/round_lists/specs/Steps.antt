-- What the functions ask and leave. Definitions only.
-- A round with `left` rounds left works in the rest of the run's two working lists, behind what the rounds before it keep: wi has whole numbers, wf
-- doubles. Numbers: its rows, its base's order, its base's sizes, n places each, then what the inner round works in. Doubles: its base's scores, n
-- places, then what the inner round works in; the areas stand behind the scores of all rounds, at left * n.
use Rattle.std.specs.Prelude.{ℕ, ◌*◌, ◌<◌, ◌≤◌, ◌≡◌, List, length, take, drop, Float}
use Rattle.lists.specs.Lists.{numbers, part}
use Rattle.partition.specs.Partition.{State}
use Rattle.quality.specs.Quality.{qualities_of, weak_count}
use Rattle.row_numbers.specs.Rows.{rows_of}
use Rattle.improve_merge.specs.Merging.{weak_items}

-- places for the base in the numbers and the doubles of a round over m items
pub record Room (n m : ℕ) (wi : List ℕ) (wf : List Float) : Type 0 where
  pub items : m ≤ n
  pub few : n ≤ 256
  pub room : 3 * n ≤ length wi
  pub space : n ≤ length wf

-- the base has been put there; of the places between its parts, behind the items, nothing is said, and nothing else was touched
pub record Stored (n : ℕ) (order sizes : List ℕ) (scores : List Float) (wi wi' : List ℕ) (wf wf' : List Float) : Type 0 where
  pub rows-kept : take n wi' ≡ take n wi
  pub order_at : part n (length order) wi' ≡ order
  pub sizes_at : part (2 * n) (length order) wi' ≡ sizes
  pub scores_at : take (length order) wf' ≡ scores
  pub behind : drop (3 * n) wi' ≡ drop (3 * n) wi
  pub beyond : drop n wf' ≡ drop n wf

-- items of a round over m, and a place for their rows
pub record StoresRows (n m : ℕ) (items wi : List ℕ) : Type 0 where
  pub within : m ≤ n
  pub few : n ≤ 256
  pub fewer : length items ≤ n
  pub below : (j : ℕ) → j < length items → numbers items j < m
  pub room : 4 * n ≤ length wi

pub record RowsStored (n m : ℕ) (items wi wi' : List ℕ) : Type 0 where
  pub rows_at : part (3 * n) (length items) wi' ≡ rows_of (take m wi) items
  pub front : take (3 * n) wi' ≡ take (3 * n) wi
  pub behind : drop (4 * n) wi' ≡ drop (4 * n) wi

-- the weak groups of s, their items, and the rows of these
pub record WeakFound (n m : ℕ) (s : State) (groups items : ℕ) (wi wi' : List ℕ) : Type 0 where
  pub groups_are : groups ≡ weak_count (qualities_of s.scores s.groups)
  pub items_are : items ≡ length (weak_items s)
  pub rows_at : part (3 * n) (length (weak_items s)) wi' ≡ rows_of (take m wi) (weak_items s)
  pub front : take (3 * n) wi' ≡ take (3 * n) wi
  pub behind : drop (4 * n) wi' ≡ drop (4 * n) wi
