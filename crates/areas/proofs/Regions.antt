-- Laws of the list of four areas: what a step keeps, and what a row more makes.
use Prim.Native.Nat.{ℕ, ◌+◌, ◌-◌, ◌*◌, ◌<◌, ◌≤◌}
use mathlib.Core.Path.{◌≡◌, refl, sym, ◌∙◌, ap}
use mathlib.Core.List.{List, ◌++◌, append_assoc, append-nil}
use native.Mathlib.Nat.{mul-le-mul_right, suc-mul, div-add-mod'}
use native.Mathlib.Omega.{arith}
use lib.ListN.{length, get_or, take, drop, length-append, length-drop, drop_of_length-le}
use lib.Seq.{take_all, take_at, get_or-take, length-take-le}
use lib.Ieee.{Float, nan}
use Rattle.sqrt.specs.Root.{root}
use Rattle.lists.specs.Lists.{listed, cells, cell_at, part, put, row, flat, matrix_of}
use Rattle.lists.proofs.Listed.{listed_of, listed_same, get_d_listed, length-listed, listed_length}
use Rattle.lists.proofs.Rows.{row_end}
use Rattle.lists.proofs.Matrix.{cell_below, row_cell, row_long, flat_at, matrix_same, listed-append, in_matrix}
use Rattle.lists.proofs.Parts.{front_less, part_front, put_take, put_length, put_part, get_d_part, get_d_front}
use Rattle.lists.proofs.Areas.{put_next, area_to, area_more, area_front, area_rows, area_length}
use Rattle.distance_columns.specs.Pair.{squared_at, pair_at}
use Rattle.areas.specs.Pairs.{pairs_area}
use Rattle.areas.specs.Regions.{Area, Turned, Squaring, Summed, Rooted}
use Rattle.distance_columns.specs.Columns.{Tail, sums_from, points_at}
use Rattle.distance_columns.proofs.Flip.{pair_flip, squared_flip}
use Rattle.distance_columns.proofs.Steps.{all_columns, squared_same, pair_same}

-- a step that keeps what lies before the area it writes keeps what the areas before it hold
module _ (a d : List Float) (m : ℕ) (l : length a ≡ length d) where
  pub area_kept : Area d m → Area a m
  area_kept q = record { some = q.some; few = q.few; size = l ∙ q.size }

  pub turned_kept : take (2 * (m * m)) a ≡ take (2 * (m * m)) d → Turned d m → Turned a m
  turned_kept e t =
      let f = front_less (2 * (m * m)) (m * m) a d (omega arith) e in
      record {
        four = area_kept t.four;
        across = part_front (2 * (m * m)) (m * m) (m * m) a d (omega arith) e ∙ t.across ∙ ap (λ (x : List Float). matrix_of (λ i j. cell_at x m j i) m) (sym f);
      }

  pub summed_kept : take (3 * (m * m)) a ≡ take (3 * (m * m)) d → Summed d m → Summed a m
  summed_kept e s =
      let f = front_less (3 * (m * m)) (m * m) a d (omega arith) e in
      record {
        four = area_kept s.four;
        squares = part_front (3 * (m * m)) (2 * (m * m)) (m * m) a d (omega arith) e ∙ s.squares ∙ ap (λ (x : List Float). matrix_of (squared_at (cell_at x m) m) m) (sym f);
      }

-- the same in a loop that writes an area row by row
module _ (d : List Float) (m i : ℕ) where
  pub squaring_rows : Turned d m → i < m → {a : List Float} → a ≡ area_to (2 * (m * m)) (squared_at (points_at d m) m) m i d → Squaring a m i
  squaring_rows t h {a} e =
      let g = squared_at (points_at d m) m in
      let fits : 2 * (m * m) + m * m ≤ length d = omega (arith, t.four.size) in
      let front = area_front (2 * (m * m)) g m i d e fits (omega arith) in
      record {
        turned = turned_kept a d m (area_length (2 * (m * m)) g m i d e fits (omega arith)) front t;
        within = h;
        rows =
            area_rows (2 * (m * m)) g m i d e fits (omega arith)
            ∙ ap (λ (x : List Float). listed (flat (squared_at (cell_at x m) m) m) (i * m)) (sym (front_less (2 * (m * m)) (m * m) a d (omega arith) front));
      }

  pub rooted_rows : Summed d m → i < m → {a : List Float} → a ≡ area_to (3 * (m * m)) (pair_at (points_at d m) m) m i d → Rooted a m i
  rooted_rows s h {a} e =
      let g = pair_at (points_at d m) m in
      let fits : 3 * (m * m) + m * m ≤ length d = omega (arith, s.four.size) in
      let front = area_front (3 * (m * m)) g m i d e fits (omega arith) in
      record {
        summed = summed_kept a d m (area_length (3 * (m * m)) g m i d e fits (omega arith)) front s;
        within = h;
        pairs =
            area_rows (3 * (m * m)) g m i d e fits (omega arith)
            ∙ ap (λ (x : List Float). listed (flat (pair_at (cell_at x m) m) m) (i * m)) (sym (front_less (3 * (m * m)) (m * m) a d (omega arith) front));
      }

-- a row more of a matrix that depends on the points alone, from b on
module _ (g : List Float → ℕ → ℕ → Float) (b m i : ℕ) (d : List Float) (fits : b + m * m ≤ length d) (past : m * m ≤ b) (h : i < m) where
  pub row_more : {a a' : List Float} → a ≡ area_to b (g (take (m * m) d)) m i d → a' ≡ put (b + i * m) m a (listed (g (take (m * m) a) i) m)
      → a' ≡ area_to b (g (take (m * m) d)) m (i + 1) d
  row_more {a} {a'} e q =
      let f = front_less b (m * m) a d past (area_front b (g (take (m * m) d)) m i d e fits (omega arith)) in
      q ∙ area_more b (g (take (m * m) d)) m i d e fits h (ap (λ (x : List Float). listed (g x i) m) f)

-- row i of the transpose, gathered
pub turned_row : (a : List Float) (m i : ℕ) → i < m → listed (λ j. cells a (i + j * m)) m ≡ listed (λ j. cell_at (take (m * m) a) m j i) m
turned_row a m i h =
    listed_same nan (λ j. cells a (i + j * m)) (λ j. cell_at (take (m * m) a) m j i) m
    (λ j l.
    let s : i + j * m ≡ j * m + i = omega arith in
    ap (cells a) s ∙ sym (get_or-take (m * m) a (j * m + i) nan (cell_below j i m l h)))

-- row i of the squared pair distances from column i on, from the first two areas
module _ (area : List Float) (m i : ℕ) (t : Turned area m) (h : i < m) {own : List Float} (r : own ≡ row area m i) where
  own_row : own ≡ listed (points_at area m i) m
  own_row =
      r ∙ listed_of nan (points_at area m i) m (row area m i) (row_long area m i (omega (arith, t.four.size)) h)
      (λ k l. row_cell nan area m i k l ∙ sym (get_or-take (m * m) area (i * m + k) nan (cell_below i k m h l)))

  own_length : length own ≡ m
  own_length = listed_length (points_at area m i) m own_row

  second : part (m * m) (m * m + m * m - m * m) area ≡ matrix_of (λ a b. points_at area m b a) m
  second = let k : m * m + m * m - m * m ≡ m * m = omega arith in rw k t.across

  pub columns : {sums : List Float} → length sums ≡ m - i → Tail own (part (m * m) (m * m + m * m - m * m) area) i sums
  columns l =
      record {
        few = rw own_length t.four.few;
        square = listed_length (flat (λ a b. points_at area m b a) m) (m * m) second ∙ rw own_length;
        within = rw own_length (omega arith);
        sums_length = l ∙ rw own_length;
      }

  pub squared_item_is : sums_from own (part (m * m) (m * m + m * m - m * m) area) i (length own) ≡ listed (λ j. squared_at (points_at area m) m i (i + j)) (m - i)
  squared_item_is = all_columns (points_at area m) m i i own_row second h

-- row i, from b on, of a matrix that is its own mirror: the cells that are gathered from the rows above, and the rest behind them
module _ (g : ℕ → ℕ → Float) (flip : (a c : ℕ) → g a c ≡ g c a) (b m i : ℕ) (area : List Float) (within : i < m) (fits : b + i * m + m ≤ length area)
    (rows : part b (i * m) area ≡ listed (flat g m) (i * m)) where
  -- a cell of column i above row i
  pub above : (j : ℕ) → j < i → b + i + j * m < b + i * m
  above j l = omega (arith, mul-le-mul_right m l, suc-mul j m)

  gathered : listed (λ j. cells area (b + i + j * m)) i ≡ listed (g i) i
  gathered =
      listed_same nan (λ j. cells area (b + i + j * m)) (g i) i
      (λ j l.
      let s : b + i + j * m ≡ b + (j * m + i) = omega arith in
      let q : j * m + i < i * m = omega (arith, above j l) in
      ap (cells area) s ∙ sym (get_d_part b (i * m) area (j * m + i) nan q) ∙ ap (λ (x : List Float). get_or x (j * m + i) nan) rows
      ∙ get_d_listed (flat g m) (i * m) (j * m + i) nan q ∙ flat_at g m j i within ∙ flip j i)

  module _ {a : List Float} (e : a ≡ put (b + i * m) i area (listed (λ j. cells area (b + i + j * m)) i)) where
    first_fits : b + i * m + i ≤ length area
    first_fits = omega (arith, fits)

    first_length : length (listed (λ j. cells area (b + i + j * m)) i) ≡ i
    first_length = length-listed (λ j. cells area (b + i + j * m)) i

    pub gathered_length : length a ≡ length area
    gathered_length = rw e (put_length (b + i * m) i area (listed (λ j. cells area (b + i + j * m)) i) first_fits first_length)

    pub gathered_front : take (b + i * m) a ≡ take (b + i * m) area
    gathered_front = rw e (put_take (b + i * m) i area (listed (λ j. cells area (b + i + j * m)) i) first_fits first_length (b + i * m) (omega arith))

    pub mirrored : {rest : List Float} → rest ≡ listed (λ j. g i (i + j)) (m - i) → put (b + i * m + i) (m - i) a rest ≡ put (b + i * m) m area (listed (g i) m)
    mirrored {rest} q =
        let s : i + (m - i) ≡ m = omega arith in
        let p : a ≡ put (b + i * m) i area (listed (g i) i) = e ∙ ap (λ (x : List Float). put (b + i * m) i area x) gathered in
        rw (q, p) (put_next (b + i * m) i (m - i) (b + i * m + i) area (listed (g i) i) (listed (λ j. g i (i + j)) (m - i)) refl first_fits (length-listed (g i) i)
        ∙ rw (listed-append (g i) i (m - i), s))

-- the roots behind the pair distances that are gathered
module _ (area : List Float) (m i : ℕ) (r : Rooted area m i) where
  pub rooted_fits : 3 * (m * m) + i * m + m ≤ length area
  rooted_fits = omega (arith, row_end i m r.within, r.summed.four.size)

  pub roots : (a : List Float) → take (3 * (m * m) + i * m) a ≡ take (3 * (m * m) + i * m) area
      → listed (λ j. root (cells a (2 * (m * m) + i * m + i + j))) (m - i) ≡ listed (λ j. pair_at (points_at area m) m i (i + j)) (m - i)
  unfolding pair_at
  roots a front =
      listed_same nan (λ j. root (cells a (2 * (m * m) + i * m + i + j))) (λ j. root (squared_at (points_at area m) m i (i + j))) (m - i)
      (λ j l.
      let n : i + j < m = omega (arith, r.within) in
      let s : 2 * (m * m) + i * m + i + j ≡ 2 * (m * m) + (i * m + (i + j)) = omega arith in
      let c = cell_below i (i + j) m r.within n in
      ap root
      (get_d_front (3 * (m * m) + i * m) (2 * (m * m) + i * m + i + j) a area nan (omega (arith, c)) front ∙ ap (cells area) s
      ∙ sym (get_d_part (2 * (m * m)) (m * m) area (i * m + (i + j)) nan c) ∙ in_matrix (squared_at (points_at area m) m) m i (i + j) nan r.summed.squares r.within n))

  pub pairs_above : (j : ℕ) → j < i → 3 * (m * m) + i + j * m < 3 * (m * m) + i * m
  pairs_above = above (pair_at (points_at area m) m) (pair_flip (points_at area m) m) (3 * (m * m)) m i area r.within rooted_fits r.pairs

  module _ {a : List Float} (e : a ≡ put (3 * (m * m) + i * m) i area (listed (λ j. cells area (3 * (m * m) + i + j * m)) i)) where
    pub pairs_length : length a ≡ length area
    pairs_length = gathered_length (pair_at (points_at area m) m) (pair_flip (points_at area m) m) (3 * (m * m)) m i area r.within rooted_fits r.pairs e

    pub pair_row_is : put (3 * (m * m) + i * m + i) (m - i) a (listed (λ j. root (cells a (2 * (m * m) + i * m + i + j))) (m - i)) ≡ put (3 * (m * m) + i * m) m area (listed (pair_at (points_at area m) m i) m)
    pair_row_is =
        let front = gathered_front (pair_at (points_at area m) m) (pair_flip (points_at area m) m) (3 * (m * m)) m i area r.within rooted_fits r.pairs e in
        mirrored (pair_at (points_at area m) m) (pair_flip (points_at area m) m) (3 * (m * m)) m i area r.within rooted_fits r.pairs e (roots a front)

-- the squared distances behind those that are gathered
module _ (area : List Float) (m i : ℕ) (q : Squaring area m i) where
  pub squaring_fits : 2 * (m * m) + i * m + m ≤ length area
  squaring_fits = omega (arith, row_end i m q.within, q.turned.four.size)

  pub squares_above : (j : ℕ) → j < i → 2 * (m * m) + i + j * m < 2 * (m * m) + i * m
  squares_above = above (squared_at (points_at area m) m) (squared_flip (points_at area m) m) (2 * (m * m)) m i area q.within squaring_fits q.rows

  module _ {a : List Float} (e : a ≡ put (2 * (m * m) + i * m) i area (listed (λ j. cells area (2 * (m * m) + i + j * m)) i)) where
    pub squares_length : length a ≡ length area
    squares_length = gathered_length (squared_at (points_at area m) m) (squared_flip (points_at area m) m) (2 * (m * m)) m i area q.within squaring_fits q.rows e

    pub square_row_is : {rest : List Float} → rest ≡ listed (λ j. squared_at (points_at area m) m i (i + j)) (m - i)
        → put (2 * (m * m) + i * m + i) (m - i) a rest ≡ put (2 * (m * m) + i * m) m area (listed (squared_at (points_at area m) m i) m)
    square_row_is = mirrored (squared_at (points_at area m) m) (squared_flip (points_at area m) m) (2 * (m * m)) m i area q.within squaring_fits q.rows e

-- items whose columns agree have the same areas
pub pairs_same : (x y : ℕ → ℕ → Float) (m : ℕ) → ((a b : ℕ) → a < m → b < m → x a b ≡ y a b) → pairs_area x m ≡ pairs_area y m
unfolding pairs_area
pairs_same x y m e =
    rw (
      matrix_same nan x y m e,
      matrix_same nan (λ i j. x j i) (λ i j. y j i) m (λ i j h l. e j i l h),
      matrix_same nan (squared_at x m) (squared_at y m) m (λ i j h l. squared_same x y m i j e h l),
      matrix_same nan (pair_at x m) (pair_at y m) m (λ i j h l. pair_same x y m i j e h l),
    )

-- the areas depend on the first m * m cells alone
pub pairs_front : (a b : List Float) (m : ℕ) → take (m * m) a ≡ take (m * m) b → pairs_area (cell_at a m) m ≡ pairs_area (cell_at b m) m
pairs_front a b m e = pairs_same (cell_at a m) (cell_at b m) m (λ i j h l. get_d_front (m * m) (i * m + j) a b nan (cell_below i j m h l) e)

pub pairs_matrix : (x : ℕ → ℕ → Float) (m : ℕ) {a : List Float} → a ≡ matrix_of x m → pairs_area (cell_at a m) m ≡ pairs_area x m
pairs_matrix x m {a} e = pairs_same (cell_at a m) x m (λ i j h l. in_matrix x m i j nan e h l)

-- a list that begins with the points
pub pairs_begin : (p rest : List Float) (m : ℕ) → length p ≡ m * m → pairs_area (cell_at (p ++ rest) m) m ≡ pairs_area (cell_at p m) m
pairs_begin p rest m l = pairs_front (p ++ rest) p m (take_at p rest (m * m) l ∙ sym (take_all (m * m) p (omega arith)))

-- the four areas when the three steps are done
module _ (d : List Float) (m : ℕ) (q : Area d m) where
  module _ {a : List Float} (e : a ≡ put (m * m) (m * m) d (matrix_of (λ i j. points_at d m j i) m)) where
    second_fits : m * m + m * m ≤ length d
    second_fits = omega (arith, q.size)

    second_length : length (matrix_of (λ i j. points_at d m j i) m) ≡ m * m
    second_length = length-listed (flat (λ i j. points_at d m j i) m) (m * m)

    second_front : take (m * m) a ≡ take (m * m) d
    second_front = rw e (put_take (m * m) (m * m) d (matrix_of (λ i j. points_at d m j i) m) second_fits second_length (m * m) (omega arith))

    pub second_made : Turned a m
    second_made =
        record {
          four = area_kept a d m (rw e (put_length (m * m) (m * m) d (matrix_of (λ i j. points_at d m j i) m) second_fits second_length)) q;
          across =
              rw e (put_part (m * m) (m * m) d (matrix_of (λ i j. points_at d m j i) m) second_fits second_length)
              ∙ ap (λ (x : List Float). matrix_of (λ i j. cell_at x m j i) m) (sym second_front);
        }

    module _ {b : List Float} (f : b ≡ put (2 * (m * m)) (m * m) a (matrix_of (squared_at (points_at a m) m) m)) where
      third_fits : 2 * (m * m) + m * m ≤ length a
      third_fits = omega (arith, second_made.four.size)

      third_length : length (matrix_of (squared_at (points_at a m) m) m) ≡ m * m
      third_length = length-listed (flat (squared_at (points_at a m) m) m) (m * m)

      third_front : take (m * m) b ≡ take (m * m) a
      third_front = rw f (put_take (2 * (m * m)) (m * m) a (matrix_of (squared_at (points_at a m) m) m) third_fits third_length (m * m) (omega arith))

      pub third_made : Summed b m
      third_made =
          record {
            four = area_kept b a m (rw f (put_length (2 * (m * m)) (m * m) a (matrix_of (squared_at (points_at a m) m) m) third_fits third_length)) second_made.four;
            squares =
                rw f (put_part (2 * (m * m)) (m * m) a (matrix_of (squared_at (points_at a m) m) m) third_fits third_length)
                ∙ ap (λ (x : List Float). matrix_of (squared_at (cell_at x m) m) m) (sym third_front);
          }

      -- the points and their transpose stand as they were
      pub third_turned : Turned b m
      third_turned =
          turned_kept b a m (rw f (put_length (2 * (m * m)) (m * m) a (matrix_of (squared_at (points_at a m) m) m) third_fits third_length))
          (rw f (put_take (2 * (m * m)) (m * m) a (matrix_of (squared_at (points_at a m) m) m) third_fits third_length (2 * (m * m)) (omega arith))) second_made

      pub points_kept : take (m * m) b ≡ take (m * m) d
      points_kept = third_front ∙ second_front

      pub all_made : {c : List Float} → c ≡ put (3 * (m * m)) (m * m) b (matrix_of (pair_at (points_at b m) m) m) → c ≡ pairs_area (cell_at d m) m
      unfolding pairs_area
      all_made {c} g =
          let x = points_at d m in
          let P = matrix_of x m in
          let T = matrix_of (λ i j. x j i) m in
          let S = matrix_of (squared_at x m) m in
          let R = matrix_of (pair_at x m) m in
          let n = m * m in
          let s : matrix_of (squared_at (points_at a m) m) m ≡ S = ap (λ (y : List Float). matrix_of (squared_at (cell_at y m) m) m) second_front in
          let r : matrix_of (pair_at (points_at b m) m) m ≡ R = ap (λ (y : List Float). matrix_of (pair_at (cell_at y m) m) m) (third_front ∙ second_front) in
          let b₁ : b ≡ put n (n + n) d (T ++ S) = f ∙ rw (s, e) (put_next n n n (2 * n) d T S (omega arith) second_fits second_length) in
          let long : length (T ++ S) ≡ n + n = length-append T S ∙ rw (length-listed (flat (λ i j. x j i) m) n, length-listed (flat (squared_at x m) m) n) in
          let c₁ : c ≡ put n (n + n + n) d ((T ++ S) ++ R) = g ∙ rw (r, b₁) (put_next n (n + n) n (3 * n) d (T ++ S) R (omega arith) (omega (arith, q.size)) long) in
          let none : length (drop n d) ≤ n + n + n = simp length-drop (omega (arith, q.size)) in
          let first : take n d ≡ P = listed_of nan (flat x m) n (take n d) (length-take-le n d (omega (arith, q.size))) (λ k l. ap (cells (take n d)) (sym (div-add-mod' k m))) in
          let whole : put n (n + n + n) d ((T ++ S) ++ R) ≡ P ++ (T ++ (S ++ R)) = rw (drop_of_length-le (drop n d) none, append-nil ((T ++ S) ++ R), append_assoc T S R) (ap (λ (y : List Float). y ++ (T ++ (S ++ R))) first) in
          c₁ ∙ whole ∙ pairs_same x (cell_at d m) m (λ i j h l. get_or-take n d (i * m + j) nan (cell_below i j m h l))
