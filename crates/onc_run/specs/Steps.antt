-- What the rounds of a run leave. Definitions only.
use Rattle.std.specs.Prelude.{ℕ, ◌≡◌, List, Result, drop, Float}
use Rattle.draws.specs.declared.Stop.{Stop}
use Rattle.refusals.specs.Table.{work_doubles, work_numbers}
use Rattle.round_top.specs.declared.Top.{Top}
use Rattle.round.specs.Round.{Run}
use Rattle.round_top.specs.Steps.{top_of, order_after, sizes_after, scores_after}

-- what the rounds leave
pub record Ran (r : Run) (n : ℕ) (a : Result Top Stop) (order order' sizes sizes' : List ℕ) (scores scores' floats floats' : List Float) (numbers numbers' : List ℕ) : Type 0 where
  pub answer_is : a ≡ top_of r
  pub ordered : order' ≡ order_after r order
  pub sized : sizes' ≡ sizes_after n r sizes
  pub scored : scores' ≡ scores_after r scores
  pub behind : drop (work_numbers n) numbers' ≡ drop (work_numbers n) numbers
  pub beyond : drop (work_doubles n) floats' ≡ drop (work_doubles n) floats
