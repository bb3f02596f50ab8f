-- Matrices of m rows of m cells that lie row by row in a list: `matrix_of g m` has g i j in row i and column j.
use Rattle.std.proofs.Common.{◌≡◌, ℕ, zero, suc, ◌+◌, ◌-◌, ◌*◌, ◌/◌, ◌%◌, ◌<◌, ◌≤◌, List, ◌∷◌, ◌++◌, length, get_or, take, drop, sym, ap, ◌∙◌, append_assoc, append-nil, mul-le-mul_right, mod-lt, mod-eq_of_lt, suc-mul, div-lt_iff_lt-mul, mul-le-mul, suc-add, zero-add, zero-mul, add-one, arith, length-append, length-drop, drop_of_length-le, length-take, get_or-drop, get_or-take, drop-drop, take_at, drop_at}
use native.Mathlib.Nat.{mul-add-div_right, mul-add-mod_self_right, div-eq_of_lt}
use Rattle.lists.specs.Lists.{listed, row, flat, matrix_of}
use Rattle.lists.proofs.Listed.{length-listed, get_d_listed, listed_of, listed_same}
use Rattle.lists.proofs.Rows.{row_end}

-- the row and the column of cell t are below m
pub row_below : (t m : ℕ) → 0 < m → t < m * m → t / m < m
row_below t m z h = (div-lt_iff_lt-mul z).1 h

pub column_below : (t m : ℕ) → 0 < m → t % m < m
column_below t m z = mod-lt t z

-- the cell in row i and column j, and that it lies within the matrix
pub cell_below : (i j m : ℕ) → i < m → j < m → i * m + j < m * m
cell_below i j m h l = omega (arith, row_end i m h)

pub square_small : (m : ℕ) → m ≤ 256 → m * m ≤ 65536
square_small m h = omega (arith, mul-le-mul h h)

pub row_of_cell : (i j m : ℕ) → j < m → (i * m + j) / m ≡ i
row_of_cell i j m l = mul-add-div_right {m = m} (omega arith) i j ∙ rw (div-eq_of_lt l) (omega arith)

pub column_of_cell : (i j m : ℕ) → j < m → (i * m + j) % m ≡ j
column_of_cell i j m l = mul-add-mod_self_right i m j ∙ mod-eq_of_lt l

-- a cell of a row above lies before row i
pub before_row : (a i j m : ℕ) → a < i → j < m → a * m + j < i * m
before_row a i j m h l = omega (arith, mul-le-mul_right m h, suc-mul a m)

module _ {A : Type 0} where
  pub flat_at : (g : ℕ → ℕ → A) (m i j : ℕ) → j < m → flat g m (i * m + j) ≡ g i j
  flat_at g m i j l = rw (row_of_cell i j m l, column_of_cell i j m l)

  pub matrix_at : (g : ℕ → ℕ → A) (m i j : ℕ) (z : A) → i < m → j < m → get_or (matrix_of g m) (i * m + j) z ≡ g i j
  matrix_at g m i j z h l = get_d_listed (flat g m) (m * m) (i * m + j) z (cell_below i j m h l) ∙ flat_at g m i j l

  -- the same of a list that is known to be the matrix
  pub in_matrix : (g : ℕ → ℕ → A) (m i j : ℕ) (z : A) {xs : List A} → xs ≡ matrix_of g m → i < m → j < m → get_or xs (i * m + j) z ≡ g i j
  in_matrix g m i j z e h l = rw e (matrix_at g m i j z h l)

  -- a cell of a row is a cell of the whole
  pub row_cell : (z : A) (p : List A) (m i j : ℕ) → j < m → get_or (row p m i) j z ≡ get_or p (i * m + j) z
  row_cell z p m i j l = get_or-take m (drop (i * m) p) j z l ∙ get_or-drop (i * m) p j z

  pub row_long : (p : List A) (m i : ℕ) → m * m ≤ length p → i < m → length (row p m i) ≡ m
  row_long p m i e h = let q = row_end i m h in simp (length-take, length-drop) (omega arith)

  pub row_matrix : (z : A) (g : ℕ → ℕ → A) (m i : ℕ) {xs : List A} → xs ≡ matrix_of g m → i < m → row xs m i ≡ listed (g i) m
  row_matrix z g m i {xs} e h =
      listed_of z (g i) m (row xs m i) (row_long xs m i (rw (e, length-listed (flat g m) (m * m)) (omega arith)) h)
      (λ k l. row_cell z xs m i k l ∙ in_matrix g m i k z e h l)

  pub matrix_same : (z : A) (g h : ℕ → ℕ → A) (m : ℕ) → ((i j : ℕ) → i < m → j < m → g i j ≡ h i j) → matrix_of g m ≡ matrix_of h m
  matrix_same z g h m e = listed_same z (flat g m) (flat h m) (m * m)
      (λ t l. by_zero m t l e)
    where
      by_zero : (m t : ℕ) → t < m * m → ((i j : ℕ) → i < m → j < m → g i j ≡ h i j) → g (t / m) (t % m) ≡ h (t / m) (t % m)
      by_zero zero t l e = absurd (omega arith)
      by_zero (suc m) t l e = e (t / suc m) (t % suc m) (row_below t (suc m) (omega arith) l) (column_below t (suc m) (omega arith))

  pub listed-append : (f : ℕ → A) (a b : ℕ) → listed f a ++ listed (λ k. f (a + k)) b ≡ listed f (a + b)
  unfolding listed
  listed-append f zero b = rw zero-add (listed_same (f 0) (λ k. f (0 + k)) f b (λ k l. rw zero-add))
  listed-append f (suc a) b = simp suc-add (ap (λ (l : List A). f 0 ∷ l) (listed-append (λ k. f (suc k)) a b))

  -- d after the first i rows of g have been written
  abbrev pub rows_to : (ℕ → ℕ → A) → ℕ → ℕ → List A → List A
  rows_to g m i d = listed (flat g m) (i * m) ++ drop (i * m) d

  pub rows_none : (g : ℕ → ℕ → A) (m : ℕ) (d : List A) → d ≡ rows_to g m 0 d
  unfolding listed
  rows_none g m d = rw (zero-mul m)

  -- a cell of the rows that are written
  pub rows_at : (g : ℕ → ℕ → A) (m i a j : ℕ) (z : A) {xs : List A} (d : List A) → xs ≡ rows_to g m i d → a < i → j < m → get_or xs (a * m + j) z ≡ g a j
  rows_at g m i a j z {xs} d e h l =
      let L = listed (flat g m) (i * m) in
      let t : take (i * m) xs ≡ L = rw e (take_at L (drop (i * m) d) (i * m) (length-listed (flat g m) (i * m))) in
      let k : a * m + j < i * m = before_row a i j m h l in
      sym (get_or-take (i * m) xs (a * m + j) z k) ∙ ap (λ (x : List A). get_or x (a * m + j) z) t ∙ get_d_listed (flat g m) (i * m) (a * m + j) z k ∙ flat_at g m a j l

  -- row i comes back from a part that was lent
  pub rows_more : (g : ℕ → ℕ → A) (m i : ℕ) {xs ys : List A} (d : List A) → xs ≡ rows_to g m i d → ys ≡ listed (g i) m
      → take (i * m) xs ++ (ys ++ drop (i * m + m - i * m) (drop (i * m) xs)) ≡ rows_to g m (i + 1) d
  rows_more g m i d e q =
      let k : i * m + m - i * m ≡ m = omega arith in
      let s : (i + 1) * m ≡ i * m + m = rw add-one (suc-mul i m) in
      let f = flat g m in
      let L = listed f (i * m) in
      let t : listed (g i) m ≡ listed (λ j. f (i * m + j)) m = listed_same (g i 0) (g i) (λ j. f (i * m + j)) m (λ j l. sym (flat_at g m i j l)) in
      rw (k, s, e, q, take_at L (drop (i * m) d) (i * m) (length-listed f (i * m)), drop_at L (drop (i * m) d) (i * m) (length-listed f (i * m)), drop-drop m (i * m) d)
      (sym (append_assoc L (listed (g i) m) (drop (i * m + m) d)) ∙ ap (λ (x : List A). x ++ drop (i * m + m) d) (ap (λ (x : List A). L ++ x) t ∙ listed-append f (i * m) m))

  pub rows_done : (g : ℕ → ℕ → A) (m : ℕ) {xs : List A} (d : List A) → xs ≡ rows_to g m m d → length d ≡ m * m → xs ≡ matrix_of g m
  rows_done g m d e h = let q : length d ≤ m * m = omega arith in e ∙ rw (drop_of_length-le d q) (append-nil (matrix_of g m))

  pub rows_length : (g : ℕ → ℕ → A) (m i : ℕ) {xs : List A} (d : List A) → xs ≡ rows_to g m i d → i ≤ m → length d ≡ m * m → length xs ≡ m * m
  rows_length g m i d e h l = rw e (simp (length-append, length-listed, length-drop) (omega (arith, mul-le-mul_right m h)))
