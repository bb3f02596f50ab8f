-- Lists by their cells, parts of lists, and matrices that lie row by row in a list. Definitions only.
use Rattle.std.specs.Prelude.{ℕ, zero, suc, ◌+◌, ◌*◌, ◌/◌, ◌%◌, Bool, cond, List, [], ◌∷◌, ◌++◌, length, take, drop, nat_le, nat_lt, slice_index, slice_index_or, Float}
use Rattle.std.specs.Float.{nan}

-- f 0, f 1, .., f (n - 1)
unfoldable pub listed : {A : Type 0} → (ℕ → A) → ℕ → List A
listed f zero = []
listed f (suc n) = f 0 ∷ listed (λ k. f (suc k)) n

-- a list of doubles by its cells; past its end there is none, and `nan` stands there
abbrev pub cells : List Float → ℕ → Float
cells xs k = slice_index_or xs k nan

-- a list of whole numbers by its cells
abbrev pub numbers : List ℕ → ℕ → ℕ
numbers xs k = slice_index xs k

-- the k elements from a on: what a lent part shows of the whole
abbrev pub part : {A : Type 0} → ℕ → ℕ → List A → List A
part a k l = take k (drop a l)

-- the whole when a lent part has come back: ys in the place of the k elements from a on
abbrev pub put : {A : Type 0} → ℕ → ℕ → List A → List A → List A
put a k xs ys = take a xs ++ (ys ++ drop k (drop a xs))

-- row i of a matrix of n columns, which lies row by row in p
abbrev pub row : {A : Type 0} → List A → ℕ → ℕ → List A
row p n i = take n (drop (i * n) p)

-- row i, column j of a matrix of n columns
abbrev pub cell_at : List Float → ℕ → ℕ → ℕ → Float
cell_at p n i j = cells p (i * n + j)

-- cell t of the matrix g of n columns, whose rows lie one after the other; and the whole matrix, n rows of n cells
abbrev pub flat : {A : Type 0} → (ℕ → ℕ → A) → ℕ → ℕ → A
flat g n t = g (t / n) (t % n)

abbrev pub matrix_of : {A : Type 0} → (ℕ → ℕ → A) → ℕ → List A
matrix_of g n = listed (flat g n) (n * n)

-- the first place below n where p holds, and n where there is none
unfoldable pub first_to : (ℕ → Bool) → ℕ → ℕ
first_to p zero = zero
first_to p (suc k) = cond (nat_lt (first_to p k) k) (first_to p k) (cond (p k) k (suc k))

-- the first place of a number that is not below the limit, and the list's length where there is none
unfoldable pub first_from : ℕ → List ℕ → ℕ
first_from limit xs = first_to (λ k. nat_le limit (numbers xs k)) (length xs)
