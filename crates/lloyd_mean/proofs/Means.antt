-- What one member makes of the sums, what scaling makes of them, and the distances to a mean that stands in a list.
use Prim.Native.Nat.{◌+◌, ◌-◌, ℕ}
use mathlib.Core.Path.{◌∙◌, ◌≡◌, ap, sym}
use mathlib.Core.Bool.{Bool, false, true}
use mathlib.Core.List.{List}
use native.Mathlib.Omega.{arith}
use lib.ListN.{length, replicate}
use lib.Ieee.{Float, add, binary64, mul, nan}
use Rattle.lists.specs.Sums.{fold_if, square_from, sum_if, sum_to, zero64}
use Rattle.lists.specs.Lists.{cell_at, cells, matrix_of, listed, row}
use Rattle.distance_columns.specs.Columns.{column_at, sums_from}
use Rattle.lists.proofs.Sums.{fold_in, fold_out, sum_same}
use Rattle.lists.proofs.Listed.{get_d_listed, length-listed, listed_const, listed_length, listed_same}
use Rattle.lists.proofs.Matrix.{in_matrix, row_cell}
use Rattle.distance_columns.proofs.Flip.{square_flip}
use Rattle.lloyd_mean.specs.Groups.{distances}
use Rattle.distance_columns.specs.Pair.{squared}

-- no member yet
pub members_none : (p : ℕ → Bool) (f : ℕ → ℕ → Float) (m : ℕ) {n : ℕ} {xs : List Float} → xs ≡ replicate n zero64 → n ≡ m → xs ≡ listed (λ c. sum_if p (λ k. f k c) 0) m
unfolding fold_if
members_none p f m {n} e h = e ∙ rw h (sym (listed_const zero64 m))

-- one more item, which is in the group, and one which is not
pub members_in : (p : ℕ → Bool) (points : List Float) (i m : ℕ) {xs r : List Float} → xs ≡ listed (λ c. sum_if p (λ k. cell_at points m k c) i) m → r ≡ row points m i → p i ≡ true
    → listed (λ c. add binary64 (cells xs c) (cells r c)) m ≡ listed (λ c. sum_if p (λ k. cell_at points m k c) (i + 1)) m
members_in p points i m {xs} {r} e q h =
    listed_same nan (λ c. add binary64 (cells xs c) (cells r c)) (λ c. sum_if p (λ k. cell_at points m k c) (i + 1)) m
    (λ c l.
    ap (λ y. add binary64 y (cells r c)) (ap (λ z. cells z c) e ∙ get_d_listed (λ c. sum_if p (λ k. cell_at points m k c) i) m c nan l)
    ∙ ap (λ y. add binary64 (sum_if p (λ k. cell_at points m k c) i) y) (ap (λ z. cells z c) q ∙ row_cell nan points m i c l)
    ∙ sym (fold_in p (λ s k. add binary64 s (cell_at points m k c)) zero64 i h))

pub members_out : (p : ℕ → Bool) (f : ℕ → ℕ → Float) (i m : ℕ) {xs : List Float} → xs ≡ listed (λ c. sum_if p (λ k. f k c) i) m → p i ≡ false → xs ≡ listed (λ c. sum_if p (λ k. f k c) (i + 1)) m
members_out p f i m e h =
    e ∙ listed_same nan (λ c. sum_if p (λ k. f k c) i) (λ c. sum_if p (λ k. f k c) (i + 1)) m (λ c l. sym (fold_out p (λ s k. add binary64 s (f k c)) zero64 i h))

-- each cell times x
pub scaled : (f : ℕ → Float) (n : ℕ) (x : Float) {xs : List Float} → xs ≡ listed f n → listed (λ i. mul binary64 (cells xs i) x) (length xs) ≡ listed (λ i. mul binary64 (f i) x) n
scaled f n x {xs} e =
    rw (listed_length f n e)
    (listed_same nan (λ i. mul binary64 (cells xs i) x) (λ i. mul binary64 (f i) x) n
    (λ i h. ap (λ y. mul binary64 y x) (ap (λ z. cells z i) e ∙ get_d_listed f n i nan h)))

-- all the columns give the squared distances to the centroid that `own` is
pub to_centroid : (x : ℕ → ℕ → Float) (h : ℕ → Float) (m : ℕ) {own across : List Float} → own ≡ listed h m → across ≡ matrix_of (λ a b. x b a) m → sums_from own across 0 (length own) ≡ distances x m h
to_centroid x h m {own} {across} p q =
    let n : m - 0 ≡ m = omega arith in
    rw (p, length-listed h m, n)
    (listed_same nan (λ j. sum_to (λ k. square_from (column_at across m (0 + j) k) (cells (listed h m) k)) m) (λ j. squared (x j) h m) m
    (λ j l.
    let z : 0 + j ≡ j = omega arith in
    rw z
    (sum_same (λ k. square_from (column_at across m j k) (cells (listed h m) k)) (λ k. square_from (h k) (x j k)) m
    (λ k r. rw (in_matrix (λ a b. x b a) m k j nan q r l, get_d_listed h m k nan r) (square_flip (h k) (x j k))))))
