-- The mean of the members of a group, and the squared distances of all items to a centroid. Definitions only.
-- There are m items: x i c is column c of item i, and label i is its group.
use Rattle.std.specs.Prelude.{ℕ, ◌*◌, ◌≤◌, ◌≡◌, List, length, Float}
use Rattle.std.specs.Float.Ieee.{mul, div}
use Rattle.std.specs.Float.{binary64}
use Rattle.lists.specs.Lists.{listed, cell_at, matrix_of}
use Rattle.lists.specs.Sums.{one64, counted, sum_if, in_group, group_size}
use Rattle.distance_columns.specs.Pair.{squared}

-- column c of the mean of the n members of group l: their sum by rising row, times 1 / n
abbrev pub mean_over : (ℕ → ℕ → Float) → (ℕ → ℕ) → ℕ → ℕ → ℕ → ℕ → Float
mean_over x label m n l c = mul binary64 (sum_if (in_group label l) (λ i. x i c) m) (div binary64 one64 (counted n))

abbrev pub mean : (ℕ → ℕ → Float) → (ℕ → ℕ) → ℕ → ℕ → ℕ → Float
mean x label m l = mean_over x label m (group_size label m l) l

-- the squared distance of each item to a centroid
abbrev pub distances : (ℕ → ℕ → Float) → ℕ → (ℕ → Float) → List Float
distances x m centroid = listed (λ i. squared (x i) centroid m) m

-- m items of m columns, and their transpose
pub record Items (points across : List Float) (m : ℕ) : Type 0 where
  pub few : m ≤ 256
  pub size : length points ≡ m * m
  pub turned : across ≡ matrix_of (λ i j. cell_at points m j i) m
