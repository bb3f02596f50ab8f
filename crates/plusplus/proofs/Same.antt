-- A seeding needs the squared distances between items alone: tables that agree there give the same seeding.
use Prim.Native.Nat.{ℕ, zero, suc, ◌+◌, ◌-◌, ◌<◌, ◌≤◌}
use mathlib.Core.Path.{◌≡◌, refl, ◌∙◌, ap}
use mathlib.Core.List.{List, [], ◌∷◌, ◌++◌}
use lib.ListN.{length, drop}
use lib.Ieee.{Float, nan}
use Rattle.lists.specs.Lists.{cells, listed, matrix_of}
use Rattle.lists.proofs.Listed.{listed_same}
use Rattle.lists.proofs.Matrix.{row_cell, in_matrix}
use Rattle.draws.specs.Counts.{trials_of}
use Rattle.draws.specs.Draws.{one_draw}
use Rattle.draws.proofs.Counting.{trials_some}
use Rattle.draws.proofs.Taken.{one_took, then_same}
use Rattle.plusplus_pick.specs.Potentials.{lesser_number, with}
use Rattle.plusplus_trials.specs.Trials.{next_of, table}
use Rattle.plusplus_trials.proofs.Centring.{next_took}
use Rattle.plusplus_trials.proofs.Agree.{next_same}
use Rattle.plusplus.specs.Seeding.{centres_of, seeding}

module _ (q q' : ℕ → ℕ → Float) (m : ℕ) (z : 0 < m) (same : (p i : ℕ) → p < m → i < m → q p i ≡ q' p i) where
  centres_same : (t : ℕ) → 0 < t → (j : ℕ) (ws : List Float) (cs : List ℕ) (at : ℕ) (ds : List ℕ) → centres_of q m t j ws cs at ds ≡ centres_of q' m t j ws cs at ds
  unfolding centres_of
  centres_same t some zero ws cs at ds = refl
  centres_same t some (suc j) ws cs at ds =
      rw (next_same q q' m z same t ws at ds)
      (then_same (λ x rest. (x.pick < m) × (rest ≡ drop t ds) × (t ≤ length ds)) (λ p. (at ≤ p) × (p < at + t)) (next_of q' m t ws at ds)
      (λ b rest. centres_of q m t j (listed (with q (cells ws) b.pick) m) (cs ++ (b.pick ∷ [])) (at + t) rest)
      (λ b rest. centres_of q' m t j (listed (with q' (cells ws) b.pick) m) (cs ++ (b.pick ∷ [])) (at + t) rest)
      (next_took q' m t z some ws at ds)
      (λ b rest h.
      rw (listed_same nan (with q (cells ws) b.pick) (with q' (cells ws) b.pick) m (λ i l. ap (lesser_number (cells ws i)) (same b.pick i h.0 l)))
      (centres_same t some j (listed (with q' (cells ws) b.pick) m) (cs ++ (b.pick ∷ [])) (at + t) rest)))

  pub seeding_same : (k at : ℕ) (ds : List ℕ) → seeding q m k at ds ≡ seeding q' m k at ds
  unfolding seeding
  seeding_same k at ds =
      then_same (λ d rest. (d < m) × (rest ≡ drop 1 ds) × (1 ≤ length ds)) (λ p. (at ≤ p) × (p < at + 1)) (one_draw m at ds)
      (λ c rest. centres_of q m (trials_of k) (k - 1) (listed (q c) m) (c ∷ []) (at + 1) rest)
      (λ c rest. centres_of q' m (trials_of k) (k - 1) (listed (q' c) m) (c ∷ []) (at + 1) rest)
      (one_took m at ds z)
      (λ c rest h.
      rw (listed_same nan (q c) (q' c) m (λ i l. same c i h.0 l))
      (centres_same (trials_of k) (trials_some k) (k - 1) (listed (q' c) m) (c ∷ []) (at + 1) rest))

-- a table that is a matrix by its cells gives the seeding of that matrix
pub seeding_matrix : (x : ℕ → ℕ → Float) (m k at : ℕ) (ds : List ℕ) {squares : List Float} → 0 < m → squares ≡ matrix_of x m
    → seeding (table squares m) m k at ds ≡ seeding x m k at ds
seeding_matrix x m k at ds {squares} z e =
    seeding_same (table squares m) x m z (λ p i h l. row_cell nan squares m p i l ∙ in_matrix x m p i nan e h l) k at ds
