-- What one column, and what four, make of the sums, and what all of them make.
use Prim.Native.Nat.{ℕ, suc, ◌+◌, ◌-◌, ◌*◌, ◌<◌, ◌≤◌}
use mathlib.Core.Path.{◌≡◌, ◌∙◌, sym, ap}
use mathlib.Core.List.{List}
use native.Mathlib.Omega.{arith}
use lib.ListN.{length, replicate}
use lib.Ieee.{Float, nan, add, binary64}
use Rattle.sqrt.specs.Root.{root}
use Rattle.lists.specs.Lists.{listed, cells, part, matrix_of}
use Rattle.lists.specs.Sums.{sum_to, square_from, zero64}
use Rattle.lists.proofs.Sums.{sum_more, sum_same}
use Rattle.lists.proofs.Listed.{get_d_listed, listed_same, listed_const, listed_length, length-listed}
use Rattle.lists.proofs.Matrix.{in_matrix}
use Rattle.lists.proofs.Rows.{row_end}
use Rattle.lists.proofs.Parts.{get_d_part, part_length}
use Rattle.distance_columns.specs.Pair.{squared_at, pair_at}
use Rattle.distance_columns.specs.Columns.{added, added_four, column_at, sums_from}

sum_four : (f : ℕ → Float) (c : ℕ) {s : Float} → s ≡ sum_to f c
    → add binary64 (add binary64 (add binary64 (add binary64 s (f c)) (f (c + 1))) (f (c + 2))) (f (c + 3)) ≡ sum_to f (c + 4)
unfolding sum_to
sum_four f c e =
    let a : c + 1 ≡ suc c = omega arith in
    let b : c + 2 ≡ suc (suc c) = omega arith in
    let d : c + 3 ≡ suc (suc (suc c)) = omega arith in
    let g : c + 4 ≡ suc (suc (suc (suc c))) = omega arith in
    rw (a, b, d, g, e)

module _ (own across : List Float) (from : ℕ) where
  abbrev m : ℕ
  m = length own

  -- the terms of the sum of item from + j
  abbrev terms : ℕ → ℕ → Float
  terms j k = square_from (column_at across m (from + j) k) (cells own k)

  -- a column, as it is lent
  abbrev column : ℕ → List Float
  column c = part (c * m + from) (m - from) across

  column_cell : (c j : ℕ) → j < m - from → cells (column c) j ≡ column_at across m (from + j) c
  column_cell c j l = let e : c * m + from + j ≡ c * m + (from + j) = omega arith in get_d_part (c * m + from) (m - from) across j nan l ∙ ap (cells across) e

  sum_at : (c : ℕ) {sums : List Float} → sums ≡ sums_from own across from c → (j : ℕ) → j < m - from → cells sums j ≡ sum_to (terms j) c
  sum_at c e j l = rw e (get_d_listed (λ i. sum_to (terms i) c) (m - from) j nan l)

  pub column_added : (c : ℕ) {sums a : List Float} → sums ≡ sums_from own across from c → a ≡ column c
      → listed (λ j. added (cells sums j) (cells a j) (cells own c)) (length sums) ≡ sums_from own across from (c + 1)
  column_added c {sums} {a} e p =
      rw (listed_length (λ i. sum_to (terms i) c) (m - from) e)
      (listed_same nan (λ j. added (cells sums j) (cells a j) (cells own c)) (λ j. sum_to (terms j) (c + 1)) (m - from)
      (λ j l. rw (p, column_cell c j l) (sum_more (terms j) c (sum_at c e j l))))

  pub four_added : (c : ℕ) {sums a b u v : List Float} → sums ≡ sums_from own across from c
      → a ≡ column c → b ≡ column (c + 1) → u ≡ column (c + 2) → v ≡ column (c + 3)
      → listed (λ j. added_four (cells sums j) (cells a j) (cells b j) (cells u j) (cells v j) (cells own c) (cells own (c + 1)) (cells own (c + 2)) (cells own (c + 3))) (length sums)
      ≡ sums_from own across from (c + 4)
  four_added c {sums} {a} {b} {u} {v} e p q r s =
      rw (listed_length (λ i. sum_to (terms i) c) (m - from) e)
      (listed_same nan
      (λ j. added_four (cells sums j) (cells a j) (cells b j) (cells u j) (cells v j) (cells own c) (cells own (c + 1)) (cells own (c + 2)) (cells own (c + 3)))
      (λ j. sum_to (terms j) (c + 4)) (m - from)
      (λ j l.
      rw (p, q, r, s, column_cell c j l, column_cell (c + 1) j l, column_cell (c + 2) j l, column_cell (c + 3) j l)
      (sum_four (terms j) c (sum_at c e j l))))

  pub no_column : {sums : List Float} {n : ℕ} → sums ≡ replicate n zero64 → n ≡ m - from → sums ≡ sums_from own across from 0
  unfolding sum_to
  no_column {sums} {n} e h = e ∙ sym (listed_const zero64 n) ∙ ap (λ (k : ℕ). listed (λ j. zero64) k) h

  -- a column has a cell for each sum
  pub column_length : length across ≡ m * m → from ≤ m → (c : ℕ) → c < m → length (column c) ≡ m - from
  column_length s w c h = part_length (c * m + from) (m - from) across (omega (arith, row_end c m h, s))

-- all the columns give the squared distances of the item that `own` is
pub all_columns : (x : ℕ → ℕ → Float) (m i from : ℕ) {own across : List Float} → own ≡ listed (x i) m → across ≡ matrix_of (λ a b. x b a) m → i < m
    → sums_from own across from (length own) ≡ listed (λ j. squared_at x m i (from + j)) (m - from)
unfolding squared_at
all_columns x m i from {own} {across} p q h =
    rw (p, length-listed (x i) m)
    (listed_same nan (λ j. sum_to (λ k. square_from (column_at across m (from + j) k) (cells (listed (x i) m) k)) m) (λ j. sum_to (λ k. square_from (x (from + j) k) (x i k)) m) (m - from)
    (λ j l.
    let w : from + j < m = omega arith in
    sum_same (λ k. square_from (column_at across m (from + j) k) (cells (listed (x i) m) k)) (λ k. square_from (x (from + j) k) (x i k)) m
    (λ k r. rw (in_matrix (λ a b. x b a) m k (from + j) nan q r w, get_d_listed (x i) m k nan r))))

-- squared distances, and distances, of items whose columns agree
module _ (x y : ℕ → ℕ → Float) (m i j : ℕ) (e : (a b : ℕ) → a < m → b < m → x a b ≡ y a b) (h : i < m) (l : j < m) where
  pub squared_same : squared_at x m i j ≡ squared_at y m i j
  unfolding squared_at
  squared_same = sum_same (λ k. square_from (x j k) (x i k)) (λ k. square_from (y j k) (y i k)) m (λ k r. rw (e j k l r, e i k h r))

  pub pair_same : pair_at x m i j ≡ pair_at y m i j
  unfolding pair_at
  pair_same = ap root squared_same
