-- The search for one centre more needs the squared distances between items alone: tables that agree there give the same search.
use Prim.Native.Nat.{ℕ, ◌+◌, ◌-◌, ◌<◌, ◌≤◌}
use mathlib.Core.Path.{◌≡◌, ap}
use mathlib.Core.List.{List}
use lib.ListN.{length, drop}
use lib.Ieee.{Float}
use Rattle.lists.specs.Lists.{cells}
use Rattle.lists.specs.Sums.{sum_to}
use Rattle.lists.proofs.Sums.{sum_same}
use Rattle.draws.specs.Draws.{takes, one_draw}
use Rattle.draws.proofs.Taken.{one_took, takes_same, then_same}
use Rattle.plusplus_pick.specs.Potentials.{running, lesser_number, with, limit, pick, tried, better, trial}
use Rattle.plusplus_trials.specs.Trials.{against, best_trial, next_of}
use Rattle.plusplus_pick.proofs.Picks.{pick_below}
use Rattle.plusplus_trials.proofs.Centring.{limit_some}

module _ (q q' : ℕ → ℕ → Float) (m : ℕ) (z : 0 < m) (same : (p i : ℕ) → p < m → i < m → q p i ≡ q' p i) where
  tried_same : (w : ℕ → Float) (p : ℕ) → p < m → tried q w m p ≡ tried q' w m p
  tried_same w p h =
      ap (λ (x : Float). record { potential = x; pick = p }) (sum_same (with q w p) (with q' w p) m (λ i l. ap (lesser_number (w i)) (same p i h l)))

  trial_same : (w : ℕ → Float) (total : Float) (d : ℕ) → d < limit total m → trial q w total m d ≡ trial q' w total m d
  trial_same w total d l = tried_same w (pick w total m d) (pick_below (running w) total m d z l)

  best_same : (w : ℕ → Float) (total : Float) (more at : ℕ) (ds : List ℕ) → best_trial q w total m more at ds ≡ best_trial q' w total m more at ds
  unfolding best_trial
  best_same w total more at ds =
      then_same (λ d rest. (d < limit total m) × (rest ≡ drop 1 ds) × (1 ≤ length ds)) (λ p. (at ≤ p) × (p < at + 1)) (one_draw (limit total m) at ds)
      (λ d rest. takes (limit total m) (against q w total m) more (trial q w total m d) (at + 1) rest)
      (λ d rest. takes (limit total m) (against q' w total m) more (trial q' w total m d) (at + 1) rest)
      (one_took (limit total m) at ds (limit_some total m z))
      (λ d rest h.
      rw (trial_same w total d h.0)
      (takes_same (limit total m) (against q w total m) (against q' w total m) (λ b e l. ap (better b) (trial_same w total e l)) more (trial q' w total m d) (at + 1) rest))

  pub next_same : (t : ℕ) (ws : List Float) (at : ℕ) (ds : List ℕ) → next_of q m t ws at ds ≡ next_of q' m t ws at ds
  next_same t ws at ds = best_same (cells ws) (sum_to (cells ws) m) (t - 1) at ds
