-- What is certain of scores that are worked out afresh, under any labels, whatever the book holds. `afresh` (proofs/Claim.antt) proves it. Definitions only.
use Rattle.std.specs.Prelude.{ℕ, ◌<◌, ◌≤◌, ◌≡◌, ◌⊎◌, true, List, length, Float}
use Rattle.std.specs.Float.{nan}
use Rattle.std.specs.Float.Ieee.{le}
use Rattle.lists.specs.Lists.{cells}
use Rattle.lists.specs.Sums.{zero64, one64}
use Rattle.distance.specs.Distance.{minus_one64, cell_through, dist_at}
use Rattle.silhouette_areas.specs.Scoring.{scores_of}
use Rattle.certain_holes.specs.Holes.{Hole, Whole}

-- a score is from -1 to 1, which a NaN is not
abbrev pub FromTo : Float → Type 0
FromTo s = (le minus_one64 s ≡ true) × (le s one64 ≡ true)

-- name i has a hole: a NaN among the cells of its row in the book that the rows make; and it has none
abbrev pub HasHole : List Float → ℕ → List ℕ → ℕ → Type 0
HasHole book n rows i = Hole (cell_through book n rows i) (length rows)

abbrev pub NoHole : List Float → ℕ → List ℕ → ℕ → Type 0
NoHole book n rows i = Whole (cell_through book n rows i) (length rows)

-- another group than that of name i, with a label below the number of names, none of whose names has a hole. b is sought among such labels alone
abbrev pub GroupWithoutHole : List Float → ℕ → List ℕ → (ℕ → ℕ) → ℕ → Type 0
GroupWithoutHole book n rows label i =
    (k : ℕ) × (k < length rows) × (label k < length rows) × (label k ≡ label i → ⊥) × ((c : ℕ) → c < length rows → label c ≡ label k → NoHole book n rows c)

-- The scores of the names that the rows pick, at most 256 of them, under any labels: each is a NaN or from -1 to 1. It is from -1 to 1 where no other name of
-- the group has a hole. Where one has, it is 0 if the name itself has a hole or if there is no `GroupWithoutHole`, and else a NaN. So a score is a NaN only
-- beside a name with holes.
pub record Afresh (book : List Float) (n : ℕ) (rows : List ℕ) (label : ℕ → ℕ) : Type 0 where
  pub or_nan : (i : ℕ) → i < length rows
      → (cells (scores_of (dist_at book n rows) (length rows) label) i ≡ nan) ⊎ FromTo (cells (scores_of (dist_at book n rows) (length rows) label) i)
  pub number : (i : ℕ) → i < length rows → ((j : ℕ) → j < length rows → label j ≡ label i → (j ≡ i → ⊥) → NoHole book n rows j)
      → FromTo (cells (scores_of (dist_at book n rows) (length rows) label) i)
  pub hole : (i : ℕ) → i < length rows → HasHole book n rows i → cells (scores_of (dist_at book n rows) (length rows) label) i ≡ zero64
  pub all_holes : (i : ℕ) → i < length rows → (GroupWithoutHole book n rows label i → ⊥) → cells (scores_of (dist_at book n rows) (length rows) label) i ≡ zero64
  pub beside : (i j : ℕ) → i < length rows → j < length rows → NoHole book n rows i → label j ≡ label i → (j ≡ i → ⊥) → HasHole book n rows j
      → GroupWithoutHole book n rows label i → cells (scores_of (dist_at book n rows) (length rows) label) i ≡ nan

abbrev pub AfreshClaim : Type 0
AfreshClaim = (book : List Float) (n : ℕ) (rows : List ℕ) (label : ℕ → ℕ) → length rows ≤ 256 → Afresh book n rows label
