-- A draw that ends the search for a centre is not below 2 ^ 53 where the total is above 0, and else not below m, where there are draws enough; and such a draw
-- ends it.
use Prim.Native.Nat.{ℕ, ◌+◌, ◌-◌, ◌<◌, ◌≤◌}
use mathlib.Core.Path.{◌≡◌, sym, ◌∙◌, subst}
use mathlib.Core.List.{List}
use mathlib.Core.Logic.{by_cases}
use native.Mathlib.Decide.{dec_lt}
use native.Mathlib.Omega.{arith}
use lib.ListN.{length, drop}
use lib.Seq.{drop-drop}
use lib.Ieee.{Float}
use Rattle.lists.specs.Lists.{cells}
use Rattle.lists.specs.Sums.{sum_to}
use Rattle.draws.specs.Draws.{takes, one_draw}
use Rattle.draws.proofs.Taken.{then_ends, took}
use Rattle.draws.proofs.Bad.{Reads, Above, reads_map, then_reads, takes_bad, Stops, then_stops, takes_out}
use Rattle.plusplus_pick.specs.Potentials.{limit, trial}
use Rattle.plusplus_trials.specs.Trials.{against, best_trial, next_of}

pub next_bad : (q : ℕ → ℕ → Float) (m t : ℕ) → 0 < t → (ws : List Float) (draws : List ℕ) (at : ℕ) → at + t ≤ length draws
    → Reads draws (at + t) (Above (limit (sum_to (cells ws) m) m) at t draws) (next_of q m t ws at (drop at draws))
unfolding best_trial
next_bad q m t some ws draws at l =
    let total = sum_to (cells ws) m in
    let most = limit total m in
    then_reads draws (at + 1) (at + t) (Above most at 1 draws) (Above most at t draws)
    (one_draw most at (drop at draws)) (λ d rest. takes most (against q (cells ws) total m) (t - 1) (trial q (cells ws) total m d) (at + 1) rest)
    (takes_bad most (λ s d. d) draws 1 0 at (omega arith))
    (λ d e.
    reads_map draws (at + 1 + (t - 1)) (at + t) (Above most (at + 1) (t - 1) draws) (Above most at t draws)
    (takes most (against q (cells ws) total m) (t - 1) (trial q (cells ws) total m d) (at + 1) (drop (at + 1) draws))
    (takes_bad most (against q (cells ws) total m) draws (t - 1) (trial q (cells ws) total m d) (at + 1) (omega arith))
    (omega arith) (λ p b. (omega (arith, b.0), omega (arith, b.1), b.2)))
    (λ p b. (b.0, omega (arith, b.1), b.2))

pub next_out : (q : ℕ → ℕ → Float) (m t : ℕ) (ws : List Float) (draws : List ℕ) (at p : ℕ) → Above (limit (sum_to (cells ws) m) m) at t draws p
    → Stops p (next_of q m t ws at (drop at draws))
unfolding best_trial
next_out q m t ws draws at p b =
    by_cases (dec_lt at p)
    (λ l.
    then_ends (λ d rest. Unit × (rest ≡ drop 1 (drop at draws)) × (1 ≤ length (drop at draws))) (λ y. (at ≤ y) × (y < at + 1)) (λ x rest. ⊥) (λ y. y ≤ p)
    (one_draw most at (drop at draws)) (λ d rest. takes most (against q (cells ws) total m) (t - 1) (trial q (cells ws) total m d) (at + 1) rest)
    (took most (λ s d. d) (λ d. Unit) (λ s d h g. tt) 1 0 at (drop at draws) tt)
    (λ d rest h.
    subst (λ (r : List ℕ). Stops p (takes most (against q (cells ws) total m) (t - 1) (trial q (cells ws) total m d) (at + 1) r)) (sym (h.1 ∙ drop-drop 1 at draws))
    (takes_out most (against q (cells ws) total m) draws (t - 1) (trial q (cells ws) total m d) (at + 1) p (omega arith, omega (arith, b.1), b.2)))
    (λ y h. omega (arith, h.1)))
    (λ n.
    then_stops p (one_draw most at (drop at draws)) (λ d rest. takes most (against q (cells ws) total m) (t - 1) (trial q (cells ws) total m d) (at + 1) rest)
    (takes_out most (λ s d. d) draws 1 0 at p (b.0, omega arith, b.2)))
  where
    total : Float
    total = sum_to (cells ws) m

    most : ℕ
    most = limit (sum_to (cells ws) m) m
