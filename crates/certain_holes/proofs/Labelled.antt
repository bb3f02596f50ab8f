-- The labels of k-means, whichever items have holes: every score is within -1..1, so that the t-stat is above -infinity.
use Prim.Native.Nat.{ℕ, ◌≤◌, ◌<◌, zero-le}
use mathlib.Core.Path.{◌≡◌, sym, ◌∙◌, subst}
use mathlib.Core.Logic.{inl, inr, ⊎_elim}
use mathlib.Core.Bool.{true}
use native.Mathlib.Omega.{arith}
use lib.ListN.{length}
use lib.Ieee.{Float, inf, lt}
use Rattle.lists.specs.Lists.{cells, numbers}
use Rattle.silhouette_areas.specs.Scoring.{scores_of}
use Rattle.silhouette_areas.proofs.Laws.{scores_length}
use Rattle.lloyd_pass.specs.Passes.{lloyd_labels}
use Rattle.tstat.specs.Tstat.{tstat_of}
use Rattle.certain_ranges.specs.Ranges.{Bounded}
use Rattle.certain_holes.specs.Holes.{Distances, Hole, Whole}
use Rattle.certain_holes.proofs.Rounds.{score_zero, hole_zero, score_beside}
use Rattle.certain_holes.proofs.Choices.{somewhere, hole_or_whole}
use Rattle.certain_holes.proofs.Stats.{stat_above}
use Rattle.certain_holes.proofs.Passes.{Split, lloyd_split}

module _ (x : ℕ → ℕ → Float) (m : ℕ) (D : Distances x) (M : m ≤ 256) where
  -- one group, or the items with a hole in a group of their own
  split_scores : (label : ℕ → ℕ) → Split x m D M label → (i : ℕ) → i < m → Bounded 1 (cells (scores_of x m label) i)
  split_scores label (inl z) i h = subst (Bounded 1) (sym (score_zero x m D M label i h (λ j g n. absurd (n (z j g ∙ sym (z i h)))))) zero-le
  split_scores label (inr s) i h = ⊎_elim
      (λ (p : Hole (x i) m × (label i ≡ 0)). subst (Bounded 1) (sym (hole_zero x m D M label i h p.0)) zero-le)
      (λ (p : Whole (x i) m × (label i ≡ 0 → ⊥)). score_beside x m D M label i h (λ j g e n. ⊎_elim
      (λ (q : Hole (x j) m × (label j ≡ 0)). absurd (p.1 (sym e ∙ q.1)))
      (λ (q : Whole (x j) m × (label j ≡ 0 → ⊥)). q.0)
      (s j g)))
      (s i h)

  pub kmeans_scores : (k : ℕ) → 0 < k → (centre : ℕ → ℕ) (i : ℕ) → i < m → Bounded 1 (cells (scores_of x m (numbers (lloyd_labels x m k centre))) i)
  kmeans_scores k some centre i h = ⊎_elim
      (λ (s : (j : ℕ) × (j < m) × Hole (x j) m). split_scores (numbers (lloyd_labels x m k centre)) (lloyd_split x m D M k some centre s.0 s.1 s.2) i h)
      (λ (w : (j : ℕ) → j < m → Whole (x j) m). score_beside x m D M (numbers (lloyd_labels x m k centre)) i h (λ j g e n. w j g))
      (somewhere (λ j. Hole (x j) m) (λ j. Whole (x j) m) (λ j. hole_or_whole (x j) m) m)

  pub kmeans_stat : (k : ℕ) → 0 < k → (centre : ℕ → ℕ) → 0 < m
      → lt (inf true) (tstat_of (cells (scores_of x m (numbers (lloyd_labels x m k centre)))) (length (scores_of x m (numbers (lloyd_labels x m k centre))))) ≡ true
  kmeans_stat k some centre P =
      rw (scores_length x m (numbers (lloyd_labels x m k centre)))
      (stat_above (cells (scores_of x m (numbers (lloyd_labels x m k centre)))) m P (omega arith) (kmeans_scores k some centre))
