-- Laws of the scores of a round: what they depend on, and that the fourth area gives them; and of the areas that a round asks for.
use Prim.Native.Nat.{ℕ, ◌*◌, ◌<◌, ◌≤◌}
use mathlib.Core.Path.{◌≡◌, sym, ◌∙◌, ap}
use mathlib.Core.Bool.{Bool, true}
use mathlib.Core.List.{List, ◌++◌}
use native.Mathlib.Omega.{arith}
use lib.ListN.{length, take, drop, length-drop}
use lib.Ieee.{Float, nan}
use Rattle.lists.specs.Lists.{numbers, part, matrix_of, cell_at}
use Rattle.lists.specs.Sums.{count_if}
use Rattle.lists.proofs.Listed.{listed_same, length-listed}
use Rattle.lists.proofs.Matrix.{in_matrix, matrix_same}
use Rattle.lists.proofs.Parts.{part_front, part_length}
use Rattle.distance_columns.specs.Pair.{pair_at}
use Rattle.distance_columns.specs.Columns.{points_at}
use Rattle.distance_columns.proofs.Steps.{pair_same}
use Rattle.distance_columns.proofs.Flip.{pair_flip}
use Rattle.silhouette_scores.specs.Scores.{silhouette}
use Rattle.silhouette_scores.specs.Groups.{distance, Shape, scores_across}
use Rattle.silhouette_scores.proofs.Least.{score_same, score_labels}
use Rattle.silhouette_scores.proofs.Renumbered.{score_renumbered}
use Rattle.areas.specs.Pairs.{pairs_area}
use Rattle.lloyd_table.proofs.Rows.{points_kept, held_kept}
use Rattle.kmeans.proofs.Laws.{pairs_points, pairs_held, fourth_is}
use Rattle.silhouette_areas.specs.Scoring.{scores_of, Prepared}

-- items whose columns agree below m, under labels that agree below m, are scored alike
pub scores_same : (x y : ℕ → ℕ → Float) (m : ℕ) (f g : ℕ → ℕ) → ((i c : ℕ) → i < m → c < m → x i c ≡ y i c) → ((i : ℕ) → i < m → f i ≡ g i) → scores_of x m f ≡ scores_of y m g
unfolding scores_of
scores_same x y m f g agree labels =
    listed_same nan (λ i. silhouette (pair_at x m i) f m i) (λ i. silhouette (pair_at y m i) g m i) m
    (λ i q.
    score_same (pair_at x m i) (pair_at y m i) f m i (λ j b. pair_same x y m i j agree q b)
    ∙ score_labels (pair_at y m i) f g m i q labels)

-- labels f numbered anew by g, from 0 in their order without those that are not used, score the items alike
pub scores_ranked : (x : ℕ → ℕ → Float) (m : ℕ) (f g : ℕ → ℕ) (used : ℕ → Bool) → ((i : ℕ) → i < m → f i < m) → ((i : ℕ) → i < m → used (f i) ≡ true)
    → ((i : ℕ) → i < m → g i ≡ count_if used (f i)) → scores_of x m g ≡ scores_of x m f
unfolding scores_of
scores_ranked x m f g used below of-items ranks =
    listed_same nan (λ i. silhouette (pair_at x m i) g m i) (λ i. silhouette (pair_at x m i) f m i) m
    (λ i q. score_renumbered (pair_at x m i) f g used m below of-items ranks i q)

-- a score for each item
pub scores_length : (x : ℕ → ℕ → Float) (m : ℕ) (label : ℕ → ℕ) → length (scores_of x m label) ≡ m
unfolding scores_of
scores_length x m label = length-listed (λ i. silhouette (pair_at x m i) label m i) m

-- the fourth area, as the code lends it: it is its own mirror, so its rows read as columns
module _ {area : List Float} {m : ℕ} (r : Prepared area m) (n : ℕ) (e : n ≡ m * m) where
  pub fourth_length : length (part (3 * (m * m)) n area) ≡ m * m
  fourth_length = rw e (part_length (3 * (m * m)) (m * m) area (omega (arith, r.held.size)))

  pub fourth_shape : (labels : List ℕ) → length labels ≡ m → Shape (part (3 * (m * m)) n area) labels
  fourth_shape labels l = record { few = rw l r.held.few; square = rw l fourth_length }

  pub fourth_scores : (labels : List ℕ) → length labels ≡ m → {out : List Float} → out ≡ scores_across (part (3 * (m * m)) n area) labels → out ≡ scores_of (points_at area m) m (numbers labels)
  unfolding scores_of
  fourth_scores labels l q =
      let is : part (3 * (m * m)) n area ≡ matrix_of (pair_at (points_at area m) m) m = rw e r.pairs in
      (rw l at q)
      ∙ listed_same nan (λ i. silhouette (distance (part (3 * (m * m)) n area) m i) (numbers labels) m i) (λ i. silhouette (pair_at (points_at area m) m i) (numbers labels) m i) m
      (λ i h.
      score_same (distance (part (3 * (m * m)) n area) m i) (pair_at (points_at area m) m i) (numbers labels) m i
      (λ j b. in_matrix (pair_at (points_at area m) m) m j i nan is b h ∙ pair_flip (points_at area m) m j i))

-- the four areas that `book_pairs` leaves, and a fifth, are those of a round
pub round_areas : (x : ℕ → ℕ → Float) (m : ℕ) (back : List Float) → 0 < m → m ≤ 256 → length back ≡ m * m → Prepared (pairs_area x m ++ back) m
round_areas x m back some few l =
    record {
      held = pairs_held x m back some few l;
      pairs =
          fourth_is x m back
          ∙ matrix_same nan (pair_at x m) (pair_at (points_at (pairs_area x m ++ back) m) m) m
          (λ i j h c. pair_same x (points_at (pairs_area x m ++ back) m) m i j (λ a b u v. sym (pairs_points x m back a b u v)) h c);
    }

-- and their points are x
pub round_points : (x : ℕ → ℕ → Float) (m : ℕ) (back : List Float) (i c : ℕ) → i < m → c < m → points_at (pairs_area x m ++ back) m i c ≡ x i c
round_points x m back = pairs_points x m back

-- the same of a list of five areas, over whose front the four were written
module _ (x : ℕ → ℕ → Float) (m : ℕ) (area : List Float) {front : List Float} (e : front ≡ pairs_area x m) where
  pub book_points : (i c : ℕ) → i < m → c < m → points_at (front ++ drop (4 * (m * m)) area) m i c ≡ x i c
  book_points i c a b = rw e (round_points x m (drop (4 * (m * m)) area) i c a b)

  pub book_round : 0 < m → m ≤ 256 → length area ≡ 5 * (m * m) → Prepared (front ++ drop (4 * (m * m)) area) m
  book_round some few size =
      let back : length (drop (4 * (m * m)) area) ≡ m * m = simp length-drop (omega (arith, size)) in
      rw e (round_areas x m (drop (4 * (m * m)) area) some few back)

-- where the first four areas are as they were, the points are, and so is what a round asks for
module _ (m : ℕ) (a d : List Float) (e : take (4 * (m * m)) a ≡ take (4 * (m * m)) d) where
  pub points_stay : points_at a m ≡ points_at d m
  points_stay = ap (λ (p : List Float). cell_at p m) (points_kept m a d e)

  pub round_kept : length a ≡ length d → Prepared d m → Prepared a m
  round_kept l r =
      record {
        held = held_kept m a d l e r.held;
        pairs =
            part_front (4 * (m * m)) (3 * (m * m)) (m * m) a d (omega arith) e ∙ r.pairs
            ∙ ap (λ (p : List Float). matrix_of (pair_at (cell_at p m) m) m) (sym (points_kept m a d e));
      }
