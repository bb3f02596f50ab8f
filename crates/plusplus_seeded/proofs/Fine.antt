-- Draws that are all in range are taken, at whatever place, and what they make does not depend on the place.
use mathlib.Core.Path.{◌≡◌, refl, ap}
use mathlib.Core.List.{List, [], ◌∷◌, ◌++◌, foldl}
use Prim.Native.Nat.{ℕ, suc, ◌+◌, ◌-◌, ◌<◌}
use native.Mathlib.Omega.{arith}
use borrow.Author.Tests.{lt-ltb}
use lib.ListN.{length}
use lib.Ieee.{Float}
use Rattle.lists.specs.Lists.{cells, numbers}
use Rattle.lists.specs.Sums.{sum_to}
use Rattle.draws.specs.Draws.{drawn, takes}
use Rattle.plusplus_pick.specs.declared.Trial.{Trial}
use Rattle.plusplus_pick.specs.Potentials.{limit, trial}
use Rattle.plusplus_trials.specs.Trials.{against, best_trial, next_of}
use Rattle.plusplus_seeded.specs.Seeded.{pick_of}

-- every draw of a list is below the limit
abbrev pub Fine : ℕ → List ℕ → Type 0
Fine top ds = (i : ℕ) → i < length ds → numbers ds i < top

fine_rest : (top d : ℕ) (ds : List ℕ) → Fine top (d ∷ ds) → Fine top ds
fine_rest top d ds h i l = h (suc i) (omega arith)

module _ {S : Type 0} (top : ℕ) (step : S → ℕ → S) where
  pub takes_fine : (ds rest : List ℕ) (s : S) (at : ℕ) → Fine top ds → takes top step (length ds) s at (ds ++ rest) ≡ drawn (foldl step s ds) rest
  unfolding takes
  takes_fine [] rest s at h = refl
  takes_fine (d ∷ ds) rest s at h = rw (lt-ltb d top (h 0 (omega arith))) (takes_fine ds rest (step s d) (at + 1) (fine_rest top d ds h))

module _ (q : ℕ → ℕ → Float) (w : ℕ → Float) (total : Float) (m : ℕ) where
  -- the best of the trials of these draws
  abbrev pub best_by : ℕ → List ℕ → Trial
  best_by d ds = foldl (against q w total m) (trial q w total m d) ds

  pub best_fine : (d : ℕ) (ds rest : List ℕ) (at : ℕ) → Fine (limit total m) (d ∷ ds)
      → best_trial q w total m (length ds) at (d ∷ (ds ++ rest)) ≡ drawn (best_by d ds) rest
  unfolding best_trial takes
  best_fine d ds rest at h =
      rw (lt-ltb d (limit total m) (h 0 (omega arith)))
      (takes_fine (limit total m) (against q w total m) ds rest (trial q w total m d) (at + 1) (fine_rest (limit total m) d ds h))

-- a search by t draws in range: what it finds, at whatever place, whatever stands behind them
pub next_fine : (q : ℕ → ℕ → Float) (m t : ℕ) (ws : List Float) (ds : List ℕ) → 0 < t → length ds ≡ t → Fine (limit (sum_to (cells ws) m) m) ds
    → (b : Trial) × ((at : ℕ) (rest : List ℕ) → next_of q m t ws at (ds ++ rest) ≡ drawn b rest)
next_fine q m t ws [] some long h = absurd (omega arith)
next_fine q m t ws (d ∷ ds) some long h =
    let e : t - 1 ≡ length ds = omega arith in (
      best_by q (cells ws) (sum_to (cells ws) m) m d ds,
      λ at rest. rw e (best_fine q (cells ws) (sum_to (cells ws) m) m d ds rest at h),
    )

pub append_none : {A : Type 0} (l : List A) → l ++ [] ≡ l
append_none [] = refl
append_none (x ∷ l) = ap (λ r. x ∷ r) (append_none l)

-- so the pick of the search is that of any place
pub pick_fine : (q : ℕ → ℕ → Float) (m t : ℕ) (ws : List Float) (ds : List ℕ) → 0 < t → length ds ≡ t → Fine (limit (sum_to (cells ws) m) m) ds
    → (b : Trial) × (next_of q m t ws 0 ds ≡ drawn b []) × (pick_of (next_of q m t ws 0 ds) ≡ b.pick) × ((at : ℕ) (rest : List ℕ) → next_of q m t ws at (ds ++ rest) ≡ drawn b rest)
pick_fine q m t ws ds some long h =
    let f = next_fine q m t ws ds some long h in
    let e : next_of q m t ws 0 ds ≡ drawn f.0 [] = rw (append_none ds) at (f.1 0 []) in
    (f.0, e, ap pick_of e, f.1)
