-- The scores of a round's items, worked out afresh under any labels.
use Prim.Native.Nat.{ℕ, ◌≤◌, ◌<◌, zero-le}
use mathlib.Core.Path.{◌≡◌, refl, sym, ap, ◌∙◌, subst}
use mathlib.Core.Logic.{⊎_elim}
use mathlib.Core.Bool.{true, not}
use native.Mathlib.Omega.{arith}
use borrow.Author.Tests.{eqb-true, eqb-false, eq-eqb, ne_eqb, not-true}
use lib.Dec.{eqb}
use lib.Ieee.{Float, nan, binary64, div}
use Rattle.lists.specs.Lists.{cells}
use Rattle.lists.specs.Sums.{zero64, counted}
use Rattle.lists.proofs.Listed.{get_d_listed}
use Rattle.lists.proofs.Sums.{count_some}
use Rattle.lists.proofs.Tests.{both}
use Rattle.distance_columns.specs.Pair.{pair_at}
use Rattle.silhouette_scores.specs.Scores.{member, group_sum, group_count, silhouette}
use Rattle.silhouette_areas.specs.Scoring.{scores_of}
use Rattle.certain_ranges.specs.Ranges.{Bounded, UpTo, OrNan}
use Rattle.certain_ranges.proofs.Operations.{nan_div}
use Rattle.certain_ranges.proofs.Totals.{sum_if_nan}
use Rattle.certain_holes.specs.Holes.{Distances, Hole, Whole}
use Rattle.certain_holes.proofs.Choices.{hole_or_whole, count_witness}
use Rattle.certain_holes.proofs.Pairs.{pair_nan, pair_nan', pair_range, pair_whole}
use Rattle.certain_holes.proofs.Scores.{silhouette_range, silhouette_number, silhouette_zero, silhouette_nan}

module _ (x : ℕ → ℕ → Float) (m : ℕ) (D : Distances x) (M : m ≤ 256) (label : ℕ → ℕ) where
  score_at_lem : (i : ℕ) → i < m → silhouette (pair_at x m i) label m i ≡ cells (scores_of x m label) i
  unfolding scores_of
  score_at_lem i h = sym (get_d_listed (λ i. silhouette (pair_at x m i) label m i) m i nan h)

  pub score_range : (i : ℕ) → i < m → OrNan (Bounded 1) (cells (scores_of x m label) i)
  score_range i h =
      subst (OrNan (Bounded 1)) (score_at_lem i h)
      (silhouette_range 16 (pair_at x m i) label m i (omega arith) (omega arith) (omega arith) (λ j g. pair_range x m i j D M))

  score_number : (i : ℕ) → i < m → ((j : ℕ) → j < m → label j ≡ label i → (j ≡ i → ⊥) → Whole (x i) m × Whole (x j) m) → Bounded 1 (cells (scores_of x m label) i)
  score_number i h W =
      subst (Bounded 1) (score_at_lem i h)
      (silhouette_number 16 (pair_at x m i) label m i (omega arith) (omega arith) (omega arith) (λ j g. pair_range x m i j D M) own)
    where
      own : (j : ℕ) → j < m → member label i (label i) j ≡ true → UpTo 16 (pair_at x m i j)
      own j g t =
          let b = both (eqb (label j) (label i)) (not (eqb j i)) t in
          let w = W j g (eqb-true (label j) (label i) b.0) (eqb-false j i (not-true (eqb j i) b.1)) in
          pair_whole x m i j D M w.0 w.1

  -- 0, where every other group has an item whose distance to i is a NaN
  nans_zero : (i : ℕ) → i < m
      → ((k : ℕ) → k < m → label k < m → (label k ≡ label i → ⊥) → (c : ℕ) × (c < m) × (label c ≡ label k) × (pair_at x m i c ≡ nan)) → cells (scores_of x m label) i ≡ zero64
  nans_zero i h W =
      sym (score_at_lem i h) ∙ silhouette_zero 16 (pair_at x m i) label m i (omega arith) (omega arith) (omega arith) other
    where
      other : (g : ℕ) → g < m → (g ≡ label i → ⊥) → 0 < group_count label m i g
          → div binary64 (group_sum (pair_at x m i) label m i g) (counted (group_count label m i g)) ≡ nan
      other g l n c =
          let w = count_witness (member label i g) m c in
          let t : label w.0 ≡ g = eqb-true (label w.0) g (both (eqb (label w.0) g) (not (eqb w.0 i)) w.2).0 in
          let s = W w.0 w.1 (subst (λ (z : ℕ). z < m) (sym t) l) (λ e. n (sym t ∙ e)) in
          let u : label s.0 ≡ g = s.2 ∙ t in
          rw (sum_if_nan (member label i g) (pair_at x m i) m s.0 s.1 (rw (eq-eqb (label s.0) g u, ne_eqb s.0 i (λ q. n (sym u ∙ ap label q)))) s.3)
          (nan_div (counted (group_count label m i g)))

  -- so too where all its items have, and where one of its items has a hole
  pub score_zero : (i : ℕ) → i < m → ((j : ℕ) → j < m → (label j ≡ label i → ⊥) → pair_at x m i j ≡ nan) → cells (scores_of x m label) i ≡ zero64
  score_zero i h W = nans_zero i h (λ k l b o. (k, l, refl, W k l o))

  pub holes_zero : (i : ℕ) → i < m
      → ((k : ℕ) → k < m → label k < m → (label k ≡ label i → ⊥) → (c : ℕ) × (c < m) × (label c ≡ label k) × Hole (x c) m) → cells (scores_of x m label) i ≡ zero64
  holes_zero i h W = nans_zero i h (λ k l b o. let s = W k l b o in (s.0, s.1, s.2, pair_nan' x m i s.0 s.3))

  -- so an item with a hole scores 0, and an item is scored within 1 where no other item of its group has one
  pub hole_zero : (i : ℕ) → i < m → Hole (x i) m → cells (scores_of x m label) i ≡ zero64
  hole_zero i h H = score_zero i h (λ j g n. pair_nan x m i j H)

  pub score_beside : (i : ℕ) → i < m → ((j : ℕ) → j < m → label j ≡ label i → (j ≡ i → ⊥) → Whole (x j) m) → Bounded 1 (cells (scores_of x m label) i)
  score_beside i h W = ⊎_elim
      (λ (H : Hole (x i) m). subst (Bounded 1) (sym (hole_zero i h H)) zero-le)
      (λ (U : Whole (x i) m). score_number i h (λ j g e n. (U, W j g e n)))
      (hole_or_whole (x i) m)

  -- a NaN, where another item of its group has a hole, and it has none, nor has any item of some other group
  pub score_nan : (i : ℕ) → i < m → Whole (x i) m → (j : ℕ) → j < m → label j ≡ label i → (j ≡ i → ⊥) → Hole (x j) m
      → (k : ℕ) → k < m → label k < m → (label k ≡ label i → ⊥) → ((c : ℕ) → c < m → label c ≡ label k → Whole (x c) m) → cells (scores_of x m label) i ≡ nan
  score_nan i h U j l e n H k b g o W =
      sym (score_at_lem i h)
      ∙ silhouette_nan 16 (pair_at x m i) label m i (omega arith) (omega arith) (omega arith) (λ c r. pair_range x m i c D M) j l
      (rw (eq-eqb (label j) (label i) e, ne_eqb j i n)) (pair_nan' x m i j H)
      (label k) g o
      (count_some (member label i (label k)) m k b (rw (eq-eqb (label k) (label k) refl, ne_eqb k i (λ q. o (ap label q)))))
      (λ c r t. pair_whole x m i c D M U (W c r (eqb-true (label c) (label k) (both (eqb (label c) (label k)) (not (eqb c i)) t).0)))
