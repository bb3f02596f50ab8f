-- Rows of the areas, and a row of the table that is put anew.
use Prim.Native.Nat.{◌*◌, ◌+◌, ◌<◌, ◌≤◌, ℕ}
use mathlib.Core.Path.{◌∙◌, ◌≡◌, ap, sym}
use mathlib.Core.Logic.{by_cases}
use mathlib.Core.List.{List}
use native.Mathlib.Omega.{arith}
use native.Mathlib.Nat.{mul-le-mul_right, suc-mul}
use native.Mathlib.Decide.{dec_lt}
use lib.ListN.{drop, get_or, length, take}
use lib.Seq.{get_or-take, length-take-le, take-take}
use lib.Ieee.{Float, binary64, fits, nan}
use lib.Dec.{T}
use Rattle.lloyd_nearest.specs.Nearest.{nearest_to}
use Rattle.lloyd_mean.specs.Groups.{Items, distances}
use Rattle.lists.specs.Lists.{cell_at, cells, matrix_of, listed, part, row}
use Rattle.distance_columns.specs.Pair.{squared_at}
use Rattle.distance_columns.specs.Columns.{points_at}
use Rattle.lloyd_nearest.proofs.Steps.{nearest-same}
use Rattle.lists.proofs.Parts.{part_drop, part_front, put_after, put_before, put_part, put_take}
use Rattle.lists.proofs.Areas.{listed_part}
use Rattle.lists.proofs.Listed.{listed_same}
use Rattle.lists.proofs.Matrix.{cell_below, row_matrix}
use Rattle.lists.proofs.Rows.{row_end}
use Rattle.distance_columns.proofs.Flip.{squared_flip}
use Rattle.lloyd_table.specs.Area.{Held, table_row, with_row}

-- row l of a part of the list
pub row_part : (b n m l : ℕ) (area : List Float) → l * m + m ≤ n → row (part b n area) m l ≡ part (b + l * m) m area
row_part b n m l area h =
    part_front n (l * m) m (part b n area) (drop b area) h (take-take n n (drop b area) (omega arith)) ∙ part_drop b (l * m) m area

-- the first area lies before the table
pub points_kept : (m : ℕ) (a d : List Float) → take (4 * (m * m)) a ≡ take (4 * (m * m)) d → take (m * m) a ≡ take (m * m) d
points_kept m a d e =
    sym (take-take (m * m) (4 * (m * m)) a (omega arith)) ∙ ap (λ (x : List Float). take (m * m) x) e ∙ take-take (m * m) (4 * (m * m)) d (omega arith)

-- where all but the table is as it was, what is lent is as it was
pub held_kept : (m : ℕ) (a d : List Float) → length a ≡ length d → take (4 * (m * m)) a ≡ take (4 * (m * m)) d → Held d m → Held a m
held_kept m a d l e h =
    let f = points_kept m a d e in
    record {
      some = h.some;
      few = h.few;
      size = l ∙ h.size;
      across = part_front (4 * (m * m)) (m * m) (m * m) a d (omega arith) e ∙ h.across ∙ ap (λ (p : List Float). matrix_of (λ i j. cell_at p m j i) m) (sym f);
      squares = part_front (4 * (m * m)) (2 * (m * m)) (m * m) a d (omega arith) e ∙ h.squares ∙ ap (λ (p : List Float). matrix_of (squared_at (cell_at p m) m) m) (sym f);
    }

module _ {area : List Float} {m : ℕ} (h : Held area m) where
  -- the points and their transpose, as the code lends them
  pub items : (k : ℕ) → k ≡ m * m → Items (take (m * m) area) (part (m * m) k area) m
  items k e =
      record {
        few = h.few;
        size = length-take-le (m * m) area (omega (arith, h.size));
        turned = rw e h.across;
      }

  -- a row of the squared pair distances has the distances to that item
  pair_row : (j : ℕ) → j < m → part (2 * (m * m) + j * m) m area ≡ distances (points_at area m) m (points_at area m j)
  unfolding squared_at
  pair_row j l =
      sym (row_part (2 * (m * m)) (m * m) m j area (row_end j m l))
      ∙ row_matrix nan (squared_at (points_at area m) m) m j h.squares l
      ∙ listed_same nan (squared_at (points_at area m) m j) (λ i. squared_at (points_at area m) m i j) m (λ i q. squared_flip (points_at area m) m j i)

  -- the same by its cells, one after the other
  pub pair_cells : (j : ℕ) → j < m → listed (λ i. cells area (2 * (m * m) + j * m + i * 1)) m ≡ distances (points_at area m) m (points_at area m j)
  pair_cells j l =
      listed_same nan (λ i. cells area (2 * (m * m) + j * m + i * 1)) (λ i. cells area (2 * (m * m) + j * m + i)) m
      (λ i q. let e : 2 * (m * m) + j * m + i * 1 ≡ 2 * (m * m) + j * m + i = omega arith in ap (cells area) e)
      ∙ listed_part nan (2 * (m * m) + j * m) m area (omega (arith, row_end j m l, h.size))
      ∙ pair_row j l

  -- the cells of the list are doubles, so those of the points are
  pub points_fit : ((i : ℕ) → T (fits binary64 (get_or area i nan))) → (j c : ℕ) → j < m → c < m → T (fits binary64 (points_at area m j c))
  points_fit g j c p q = rw (get_or-take (m * m) area (j * m + c) nan (cell_below j c m p q)) (g (j * m + c))

-- row l of the table lies within the list
pub row_fits : (m l : ℕ) (area : List Float) → length area ≡ 5 * (m * m) → l < m → 4 * (m * m) + l * m + m ≤ length area
row_fits m l area e h = omega (arith, row_end l m h)

rows_apart : (j l m : ℕ) → j < l → j * m + m ≤ l * m
rows_apart j l m h = omega (arith, mul-le-mul_right m h, suc-mul j m)

-- row l has been put anew
module _ (m l : ℕ) (area r : List Float) {area' : List Float} (s : length area ≡ 5 * (m * m)) (h : l < m) (e : area' ≡ with_row area m l r) (n : length r ≡ m) where
  pub row_own : table_row area' m l ≡ r
  row_own = rw e (put_part (4 * (m * m) + l * m) m area r (row_fits m l area s h) n)

  pub row_other : (j : ℕ) → (j ≡ l → ⊥) → table_row area' m j ≡ table_row area m j
  row_other j d =
      rw e
      (by_cases (dec_lt j l)
      (λ q. put_before (4 * (m * m) + l * m) m area r (row_fits m l area s h) n (4 * (m * m) + j * m) m (omega (arith, rows_apart j l m q)))
      (λ q. let b : l < j = omega arith in put_after (4 * (m * m) + l * m) m area r (row_fits m l area s h) n (4 * (m * m) + j * m) m (omega (arith, rows_apart l j m b))))

  pub row_front : take (4 * (m * m)) area' ≡ take (4 * (m * m)) area
  row_front = rw e (put_take (4 * (m * m) + l * m) m area r (row_fits m l area s h) n (4 * (m * m)) (omega arith))

-- the nearest by the rows of the table, which the code lends as one part
pub in_table : (area : List Float) (m k n i : ℕ) → k ≤ m → n ≡ m * m → nearest_to (λ l. cells (row (part (4 * (m * m)) n area) m l) i) k ≡ nearest_to (λ l. cells (table_row area m l) i) k
in_table area m k n i h e =
    nearest-same (λ l. cells (row (part (4 * (m * m)) n area) m l) i) (λ l. cells (table_row area m l) i) k
    (λ l q. ap (λ z. cells z i) (row_part (4 * (m * m)) n m l area (omega (arith, row_end l m (omega arith)))))
