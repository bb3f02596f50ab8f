-- Laws of the search for one centre more: its steps, its count of draws, that its pick is an item, and that no draw behind those that it takes matters.
use Prim.Native.Nat.{ℕ, ◌+◌, ◌-◌, ◌<◌, ◌≤◌}
use mathlib.Core.Path.{◌≡◌, refl, ◌∙◌, ap, subst}
use mathlib.Core.Bool.{Bool, true, false, cond}
use mathlib.Core.List.{List, ◌++◌}
use native.Mathlib.Omega.{arith}
use lib.ListN.{length, drop, length-drop}
use lib.Seq.{drop-drop}
use lib.Ieee.{Float, lt}
use Rattle.lists.specs.Lists.{cells}
use Rattle.lists.specs.Sums.{zero64, sum_to}
use Rattle.std.specs.Prelude.{Ok, Err}
use Rattle.draws.specs.declared.Stop.{Stop}
use Rattle.draws.specs.declared.Stop.TheVariants.{DrawOutOfRange}
use Rattle.plusplus_pick.specs.declared.Trial.{Trial}
use Rattle.draws.specs.Stops.{draw_of}
use Rattle.draws.specs.Draws.{Drawn, drawn, refused, takes, one_draw, shares}
use Rattle.plusplus_pick.specs.Potentials.{running, limit, trial}
use Rattle.plusplus_trials.specs.Trials.{against, best_trial, next_of, tried_of}
use Rattle.plusplus_pick.proofs.Picks.{pick_below}
use Rattle.draws.proofs.Taken.{Ends, behind, took, take_behind, then_ends, then_behind, ends_map, one_took, draw_value, draw_stopped}

better_below : (t b : Trial) (m : ℕ) (x : Bool) → t.pick < m → b.pick < m → (cond x t b).pick < m
better_below t b m true h l = h
better_below t b m false h l = l

limit_cond : (x : Bool) (m : ℕ) → 0 < m → 0 < cond x shares m
limit_cond true m z = omega arith
limit_cond false m z = z

pub limit_some : (total : Float) (m : ℕ) → 0 < m → 0 < limit total m
limit_some total m z = limit_cond (lt zero64 total) m z

module _ (q : ℕ → ℕ → Float) (w : ℕ → Float) (total : Float) (m : ℕ) where
  -- the first draw, at place i of a list, by its answer
  pub best_value : (more : ℕ) (draws : List ℕ) (i : ℕ) {d : ℕ} → i < length draws → draw_of (one_draw (limit total m) i (drop i draws)) ≡ Ok d
      → best_trial q w total m more i (drop i draws) ≡ takes (limit total m) (against q w total m) more (trial q w total m d) (i + 1) (drop (i + 1) draws)
  unfolding best_trial
  best_value more draws i l e = rw (draw_value (limit total m) draws i l e).1

  pub best_stopped : (more : ℕ) (draws : List ℕ) (i : ℕ) {s : Stop} → i < length draws → draw_of (one_draw (limit total m) i (drop i draws)) ≡ Err s
      → (best_trial q w total m more i (drop i draws) ≡ refused i) × (s ≡ DrawOutOfRange i)
  unfolding best_trial
  best_stopped more draws i l e = let v = draw_stopped (limit total m) draws i l e in (rw v.1 refl, v.0)

  keeps : 0 < m → (b : Trial) (d : ℕ) → b.pick < m → d < limit total m → (against q w total m b d).pick < m
  keeps z b d h g = better_below (trial q w total m d) b m (lt (trial q w total m d).potential b.potential) (pick_below (running w) total m d z g) h

  -- it takes one draw and `more`, and picks an item
  pub best_took : 0 < m → (more at : ℕ) (ds : List ℕ)
      → Ends (λ b rest. (b.pick < m) × (rest ≡ drop (1 + more) ds) × (1 + more ≤ length ds)) (λ p. (at ≤ p) × (p < at + (1 + more))) (best_trial q w total m more at ds)
  unfolding best_trial
  best_took z more at ds =
      then_ends (λ d rest. (d < limit total m) × (rest ≡ drop 1 ds) × (1 ≤ length ds)) (λ p. (at ≤ p) × (p < at + 1))
      (λ b rest. (b.pick < m) × (rest ≡ drop (1 + more) ds) × (1 + more ≤ length ds)) (λ p. (at ≤ p) × (p < at + (1 + more)))
      (one_draw (limit total m) at ds) (λ d rest. takes (limit total m) (against q w total m) more (trial q w total m d) (at + 1) rest)
      (one_took (limit total m) at ds (limit_some total m z))
      (λ d rest h.
      ends_map (λ b r. (b.pick < m) × (r ≡ drop more rest) × (more ≤ length rest)) (λ p. (at + 1 ≤ p) × (p < at + 1 + more))
      (λ b r. (b.pick < m) × (r ≡ drop (1 + more) ds) × (1 + more ≤ length ds)) (λ p. (at ≤ p) × (p < at + (1 + more)))
      (takes (limit total m) (against q w total m) more (trial q w total m d) (at + 1) rest)
      (took (limit total m) (against q w total m) (λ b. b.pick < m) (keeps z) more (trial q w total m d) (at + 1) rest (pick_below (running w) total m d z h.0))
      (λ b r k. (k.0, k.1 ∙ ap (drop more) h.1 ∙ drop-drop more 1 ds, omega (arith, k.2, h.2, ap length h.1 ∙ length-drop 1 ds)))
      (λ p k. (omega (arith, k.0), omega (arith, k.1))))
      (λ p k. (k.0, omega (arith, k.1)))

  pub best_behind : 0 < m → (more at : ℕ) (p b : List ℕ) → 1 + more ≤ length p → best_trial q w total m more at (p ++ b) ≡ behind b (best_trial q w total m more at p)
  unfolding best_trial
  best_behind z more at p b l =
      rw (take_behind (limit total m) (λ s d. d) 1 0 at p b (omega arith))
      (then_behind (λ d rest. (d < limit total m) × (rest ≡ drop 1 p) × (1 ≤ length p)) (λ x. (at ≤ x) × (x < at + 1))
      (one_draw (limit total m) at p) (λ d rest. takes (limit total m) (against q w total m) more (trial q w total m d) (at + 1) rest) b
      (one_took (limit total m) at p (limit_some total m z))
      (λ d rest h. take_behind (limit total m) (against q w total m) more (trial q w total m d) (at + 1) rest b (omega (arith, ap length h.1 ∙ length-drop 1 p))))

-- what one centre takes
pub next_took : (q : ℕ → ℕ → Float) (m t : ℕ) → 0 < m → 0 < t → (ws : List Float) (at : ℕ) (ds : List ℕ)
    → Ends (λ b rest. (b.pick < m) × (rest ≡ drop t ds) × (t ≤ length ds)) (λ p. (at ≤ p) × (p < at + t)) (next_of q m t ws at ds)
next_took q m t z some ws at ds =
    let e : 1 + (t - 1) ≡ t = omega arith in
    rw e at (best_took q (cells ws) (sum_to (cells ws) m) m z (t - 1) at ds)

pub next_behind : (q : ℕ → ℕ → Float) (m t : ℕ) → 0 < m → 0 < t → (ws : List Float) (at : ℕ) (p b : List ℕ) → t ≤ length p
    → next_of q m t ws at (p ++ b) ≡ behind b (next_of q m t ws at p)
next_behind q m t z some ws at p b l = best_behind q (cells ws) (sum_to (cells ws) m) m z (t - 1) at p b (omega arith)

-- what an answer says of the search that gave it
pub search_stopped : (D : Drawn Trial) {s : Stop} → tried_of D ≡ Err s → (p : ℕ) × (D ≡ refused p) × (s ≡ DrawOutOfRange p)
search_stopped (drawn b rest) e = let z : ◌≡◌ {A = ℕ} 0 1 = cc in absurd (omega arith)
search_stopped (refused r) {s} e = let q : s ≡ DrawOutOfRange r = cc in (r, refl, q)

pub search_best : (P : Trial → List ℕ → Type 0) (Q : ℕ → Type 0) (R : Type 0) (D : Drawn Trial) {b : Trial} → tried_of D ≡ Ok b → Ends P Q D
    → ((rest : List ℕ) → D ≡ drawn b rest → P b rest → R) → R
search_best P Q R (drawn s rest) {b} e h k = let q : s ≡ b = cc in k rest (ap (λ (x : Trial). drawn x rest) q) (subst (λ (x : Trial). P x rest) q h)
search_best P Q R (refused p) e h k = let z : ◌≡◌ {A = ℕ} 0 1 = cc in absurd (omega arith)
