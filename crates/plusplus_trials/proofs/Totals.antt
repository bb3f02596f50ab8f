-- The potential of the trial that wins is the total of the weights with its pick as a centre too, and the lists of those weights and of their running weights.
use Prim.Native.Nat.{ℕ, suc, ◌+◌, ◌-◌, ◌<◌, ◌≤◌}
use mathlib.Core.Path.{◌≡◌, refl, sym, ◌∙◌, ap}
use mathlib.Core.Bool.{Bool, true, false, cond}
use mathlib.Core.List.{List}
use native.Mathlib.Omega.{arith}
use lib.ListN.{length, drop}
use lib.Ieee.{Float, nan, lt}
use Rattle.lists.specs.Lists.{cells, listed}
use Rattle.lists.specs.Sums.{sum_to}
use Rattle.lists.proofs.Listed.{get_d_listed, listed_length, listed_same}
use Rattle.lists.proofs.Sums.{sum_same}
use Rattle.draws.specs.Draws.{takes, one_draw}
use Rattle.draws.proofs.Taken.{Ends, took, then_ends, ends_map, one_took}
use Rattle.plusplus_pick.specs.declared.Trial.{Trial}
use Rattle.plusplus_pick.specs.Potentials.{running, with, limit, trial, RunningSums}
use Rattle.plusplus_trials.specs.Trials.{against, best_trial, next_of}
use Rattle.plusplus_trials.proofs.Centring.{limit_some}

-- a list of weights by an index function has its sums
pub total_listed : (f : ℕ → Float) (n k : ℕ) {ws : List Float} → ws ≡ listed f n → k ≤ n → sum_to (cells ws) k ≡ sum_to f k
total_listed f n k {ws} e h = sum_same (cells ws) f k (λ i l. ap (λ (x : List Float). cells x i) e ∙ get_d_listed f n i nan (omega arith))

pub running_listed : (f : ℕ → Float) (n : ℕ) {sums ws : List Float} → ws ≡ listed f n → sums ≡ listed (running f) n → RunningSums sums ws
running_listed f n {sums} {ws} e h =
    let l : length ws ≡ n = listed_length f n e in
    rw l (h ∙ listed_same nan (running f) (running (cells ws)) n (λ k m. sym (total_listed f n (suc k) e (omega arith))))

-- its potential is the total of the weights with its pick
abbrev pub Weighs : (ℕ → ℕ → Float) → (ℕ → Float) → ℕ → Trial → Type 0
Weighs q w m b = b.potential ≡ sum_to (with q w b.pick) m

module _ (q : ℕ → ℕ → Float) (w : ℕ → Float) (m : ℕ) where
  -- whichever of two wins
  better_weighs : (t b : Trial) (x : Bool) → Weighs q w m t → Weighs q w m b → Weighs q w m (cond x t b)
  better_weighs t b true h l = h
  better_weighs t b false h l = l

  best_weighs : (total : Float) → 0 < m → (more at : ℕ) (ds : List ℕ) → Ends (λ b rest. Weighs q w m b) (λ p. Unit) (best_trial q w total m more at ds)
  unfolding best_trial
  best_weighs total z more at ds =
      then_ends (λ d rest. (d < limit total m) × (rest ≡ drop 1 ds) × (1 ≤ length ds)) (λ p. (at ≤ p) × (p < at + 1)) (λ b rest. Weighs q w m b) (λ p. Unit)
      (one_draw (limit total m) at ds) (λ d rest. takes (limit total m) (against q w total m) more (trial q w total m d) (at + 1) rest)
      (one_took (limit total m) at ds (limit_some total m z))
      (λ d rest h.
      ends_map (λ b r. Weighs q w m b × (r ≡ drop more rest) × (more ≤ length rest)) (λ p. (at + 1 ≤ p) × (p < at + 1 + more)) (λ b r. Weighs q w m b) (λ p. Unit)
      (takes (limit total m) (against q w total m) more (trial q w total m d) (at + 1) rest)
      (took (limit total m) (against q w total m) (Weighs q w m)
      (λ b e l g. better_weighs (trial q w total m e) b (lt (trial q w total m e).potential b.potential) refl l) more (trial q w total m d) (at + 1) rest refl)
      (λ b r k. k.0) (λ p k. tt))
      (λ p k. tt)

-- the search for one centre more
pub next_weighs : (q : ℕ → ℕ → Float) (m t : ℕ) → 0 < m → (ws : List Float) (at : ℕ) (ds : List ℕ) → Ends (λ b rest. Weighs q (cells ws) m b) (λ p. Unit) (next_of q m t ws at ds)
next_weighs q m t z ws at ds = best_weighs q (cells ws) m (sum_to (cells ws) m) z (t - 1) at ds

-- the total of the weights afterwards
pub total_after : (q : ℕ → ℕ → Float) (w : ℕ → Float) (m : ℕ) (b : Trial) {ws : List Float} → Weighs q w m b → ws ≡ listed (with q w b.pick) m
    → b.potential ≡ sum_to (cells ws) (length ws)
total_after q w m b {ws} h e =
    let l : length ws ≡ m = listed_length (with q w b.pick) m e in
    rw l (h ∙ sym (total_listed (with q w b.pick) m m e (omega arith)))
