-- The draws and the centres of a seeding by a generator need the squared distances between items alone: tables that agree there give the same.
use Prim.Native.Nat.{ℕ, zero, suc, ◌+◌, ◌-◌, ◌^◌, ◌<◌, ◌≤◌}
use mathlib.Core.Path.{◌≡◌, refl, ◌∙◌, ap, subst}
use mathlib.Core.List.{List, [], ◌∷◌}
use lib.ListN.{length, drop}
use lib.Ieee.{Float, nan}
use Rattle.lists.specs.Lists.{cells, listed, matrix_of}
use Rattle.lists.proofs.Listed.{listed_same}
use Rattle.lists.proofs.Matrix.{row_cell, in_matrix}
use Rattle.draws.specs.Counts.{trials_of}
use Rattle.draws.proofs.Counting.{trials_some}
use Rattle.draws.proofs.Taken.{Ends}
use Rattle.plusplus_pick.specs.Potentials.{lesser_number, with}
use Rattle.plusplus_trials.specs.Trials.{table}
use Rattle.plusplus_trials.proofs.Centring.{next_took}
use Rattle.plusplus_trials.proofs.Agree.{next_same}
use Rattle.rng_std.specs.Words.{index_from}
use Rattle.rng_std.proofs.Ranges.{index_below}
use Rattle.plusplus_seeded.specs.Seeded.{place_of, pick_of, onto, centre_rule, centre_draws, centre_of, more_made, seed_made}
use Rattle.plusplus_seeded.proofs.Fine.{pick_fine}
use Rattle.plusplus_seeded.proofs.Made.{centre_long, centre_fine}

module _ (w : ℕ → ℕ) (small : (i : ℕ) → w i < 2 ^ 32) (m : ℕ) (z : 0 < m) where
  -- a centre is an item
  pub centre_below : (q : ℕ → ℕ → Float) (t : ℕ) → 0 < t → (ws : List Float) (i : ℕ) → centre_of w q m t ws i < m
  centre_below q t some ws i =
      let ds = centre_draws w q m t ws i in
      let f = pick_fine q m t ws ds some (centre_long w small q m t z some ws i) (centre_fine w small q m t z some ws i) in
      let h = subst (Ends (λ b rest. (b.pick < m) × (rest ≡ drop t ds) × (t ≤ length ds)) (λ p. (0 ≤ p) × (p < 0 + t))) f.1 (next_took q m t z some ws 0 ds) in
      rw f.2 h.0

  module _ (q q' : ℕ → ℕ → Float) (same : (p i : ℕ) → p < m → i < m → q p i ≡ q' p i) where
    centre_same : (t : ℕ) (ws : List Float) (i : ℕ) → centre_of w q m t ws i ≡ centre_of w q' m t ws i
    centre_same t ws i = ap pick_of (next_same q q' m z same t ws 0 (centre_draws w q m t ws i))

    weights_same : (ws : List Float) (p : ℕ) → p < m → listed (with q (cells ws) p) m ≡ listed (with q' (cells ws) p) m
    weights_same ws p h = listed_same nan (with q (cells ws) p) (with q' (cells ws) p) m (λ i l. ap (lesser_number (cells ws i)) (same p i h l))

    more_same : (t : ℕ) → 0 < t → (j : ℕ) (ws : List Float) (i : ℕ) → more_made w q m t j ws i ≡ more_made w q' m t j ws i
    unfolding more_made
    more_same t some zero ws i = refl
    more_same t some (suc j) ws i =
        let c = centre_of w q m t ws i in
        let n = place_of (centre_rule w q m t ws) t i in
        ap (λ (l : List Float). onto (centre_draws w q m t ws i) c (more_made w q m t j l n)) (weights_same ws c (centre_below q t some ws i))
        ∙ ap (onto (centre_draws w q m t ws i) c) (more_same t some j (listed (with q' (cells ws) c) m) n)
        ∙ ap (λ (p : ℕ). onto (centre_draws w q m t ws i) p (more_made w q' m t j (listed (with q' (cells ws) p) m) n)) (centre_same t ws i)

    pub seed_same : (k i : ℕ) → seed_made w q m k i ≡ seed_made w q' m k i
    unfolding seed_made
    seed_same k i =
        let d = index_from w m i in
        ap (λ (l : List Float). onto (d.value ∷ []) d.value (more_made w q m (trials_of k) (k - 1) l d.next))
        (listed_same nan (q d.value) (q' d.value) m (λ j l. same d.value j (index_below w small m z i) l))
        ∙ ap (onto (d.value ∷ []) d.value) (more_same (trials_of k) (trials_some k) (k - 1) (listed (q' d.value) m) d.next)

  -- a table that is a matrix by its cells gives what that matrix gives
  pub seed_matrix : (x : ℕ → ℕ → Float) (k i : ℕ) {squares : List Float} → squares ≡ matrix_of x m → seed_made w (table squares m) m k i ≡ seed_made w x m k i
  seed_matrix x k i {squares} e = seed_same (table squares m) x (λ p i h l. row_cell nan squares m p i l ∙ in_matrix x m p i nan e h l) k i
