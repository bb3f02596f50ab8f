-- One centre more of k-means++ (Arthur and Vassilvitskii 2007), the best of its trials: w i is item i's weight, its least squared distance to a centre,
-- q p i its squared distance to item p, and there are m items. A trial is that of plusplus_pick/specs/Potentials.antt. Definitions only.
use Rattle.std.specs.Prelude.{ℕ, ◌-◌, ◌+◌, ◌*◌, ◌≤◌, ◌<◌, ◌≡◌, List, Result, Ok, Err, length, Float}
use Rattle.lists.specs.Lists.{cells, row}
use Rattle.lists.specs.Sums.{sum_to}
use Rattle.draws.specs.declared.Stop.{Stop}
use Rattle.draws.specs.declared.Stop.TheVariants.{DrawOutOfRange}
use Rattle.draws.specs.Draws.{Drawn, drawn, refused, takes, one_draw, and_then}
use Rattle.plusplus_pick.specs.declared.Trial.{Trial}
use Rattle.plusplus_pick.specs.Potentials.{limit, trial, better}

-- the better of b and the trial of the draw d
abbrev pub against : (ℕ → ℕ → Float) → (ℕ → Float) → Float → ℕ → Trial → ℕ → Trial
against q w total m b d = better b (trial q w total m d)

-- the best of one trial and `more`; the first stands whatever its potential is
unfoldable pub best_trial : (ℕ → ℕ → Float) → (ℕ → Float) → Float → ℕ → ℕ → ℕ → List ℕ → Drawn Trial
best_trial q w total m more at ds =
    and_then (one_draw (limit total m) at ds)
    (λ d rest. takes (limit total m) (against q w total m) more (trial q w total m d) (at + 1) rest)

-- the best of t trials, with the weights in ws, whose total is their sum by rising row
abbrev pub next_of : (ℕ → ℕ → Float) → ℕ → ℕ → List Float → ℕ → List ℕ → Drawn Trial
next_of q m t ws at ds = best_trial q (cells ws) (sum_to (cells ws) m) m (t - 1) at ds

-- the squared distances from item p, in a table of m rows of m cells
abbrev pub table : List Float → ℕ → ℕ → ℕ → Float
table squares m p = cells (row squares m p)

-- the answer of a search for the best trial
abbrev pub tried_of : Drawn Trial → Result Trial Stop
tried_of (drawn b rest) = Ok b
tried_of (refused p) = Err (DrawOutOfRange p)

-- a table of the items that the weights are of
pub record Weighed (squares ws : List Float) : Type 0 where
  pub few : length ws ≤ 256
  pub some : 0 < length ws
  pub square : length squares ≡ length ws * length ws
