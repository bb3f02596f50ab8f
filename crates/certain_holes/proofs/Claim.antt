-- What is certain of scores that are worked out afresh (specs/Claim.antt).
use Prim.Native.Nat.{ℕ, ◌<◌}
use mathlib.Core.Path.{◌≡◌}
use mathlib.Core.Logic.{◌⊎◌, inl, inr, ⊎_elim}
use mathlib.Core.List.{List}
use lib.ListN.{length}
use lib.Ieee.{Float}
use Rattle.lists.specs.Lists.{cells}
use Rattle.distance.specs.Distance.{cell_through, dist_at}
use Rattle.silhouette_areas.specs.Scoring.{scores_of}
use Rattle.certain_ranges.proofs.Ratios.{bounded_one}
use Rattle.certain_holes.specs.Holes.{Hole}
use Rattle.certain_holes.specs.Claim.{HasHole, NoHole, GroupWithoutHole, AfreshClaim}
use Rattle.certain_holes.proofs.Choices.{somewhere, hole_or_whole, number_or_not}
use Rattle.certain_holes.proofs.Distances.{book_distances, book_hole, book_whole}
use Rattle.certain_holes.proofs.Rounds.{score_range, score_beside, hole_zero, holes_zero, score_nan}

-- a name of a group with a hole, or none of them has one
some_hole : (book : List Float) (n : ℕ) (rows : List ℕ) (label : ℕ → ℕ) (g : ℕ)
    → ((c : ℕ) × (c < length rows) × (label c ≡ g) × HasHole book n rows c) ⊎ ((c : ℕ) → c < length rows → label c ≡ g → NoHole book n rows c)
some_hole book n rows label g = ⊎_elim
    (λ (s : (c : ℕ) × (c < length rows) × ((label c ≡ g) × HasHole book n rows c)). inl (s.0, s.1, s.2.0, s.2.1))
    (λ w. inr (λ c l e. w c l e))
    (somewhere (λ c. (label c ≡ g) × HasHole book n rows c) (λ c. label c ≡ g → NoHole book n rows c) each (length rows))
  where
    each : (c : ℕ) → ((label c ≡ g) × HasHole book n rows c) ⊎ (label c ≡ g → NoHole book n rows c)
    each c = ⊎_elim
        (λ (e : label c ≡ g). ⊎_elim (λ (h : HasHole book n rows c). inl (e, h)) (λ (w : NoHole book n rows c). inr (λ q. w)) (hole_or_whole (cell_through book n rows c) (length rows)))
        (λ (d : label c ≡ g → ⊥). inr (λ e. absurd (d e)))
        (number_or_not (label c) g)

module _ (book : List Float) (n : ℕ) (rows : List ℕ) (label : ℕ → ℕ) where
  -- no other group is without a hole: each has a name with one
  each_hole : (i : ℕ) → (GroupWithoutHole book n rows label i → ⊥) → (k : ℕ) → k < length rows → label k < length rows → (label k ≡ label i → ⊥)
      → (c : ℕ) × (c < length rows) × (label c ≡ label k) × Hole (dist_at book n rows c) (length rows)
  each_hole i none k l b o = ⊎_elim
      (λ (s : (c : ℕ) × (c < length rows) × (label c ≡ label k) × HasHole book n rows c). (s.0, s.1, s.2, book_hole book n rows (length rows) s.0 s.3))
      (λ w. absurd (none (k, l, b, o, w)))
      (some_hole book n rows label (label k))

pub afresh : AfreshClaim
afresh book n rows label few =
    record {
      or_nan = λ i h. ⊎_elim (λ e. inl e) (λ w. inr (bounded_one (cells (scores_of (dist_at book n rows) (length rows) label) i) w))
          (score_range (dist_at book n rows) (length rows) (book_distances book n rows) few label i h);
      number = λ i h W. bounded_one (cells (scores_of (dist_at book n rows) (length rows) label) i)
          (score_beside (dist_at book n rows) (length rows) (book_distances book n rows) few label i h (λ j g e d. book_whole book n rows (length rows) j (W j g e d)));
      hole = λ i h H. hole_zero (dist_at book n rows) (length rows) (book_distances book n rows) few label i h (book_hole book n rows (length rows) i H);
      all_holes = λ i h none. holes_zero (dist_at book n rows) (length rows) (book_distances book n rows) few label i h (each_hole book n rows label i none);
      beside = λ i j h l U e d H g. score_nan (dist_at book n rows) (length rows) (book_distances book n rows) few label i h (book_whole book n rows (length rows) i U)
          j l e d (book_hole book n rows (length rows) j H) g.0 g.1 g.2 g.3 (λ c r t. book_whole book n rows (length rows) c (g.4 c r t));
    }
