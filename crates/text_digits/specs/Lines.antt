-- A line of numbers, the same where it is read and where it is written. Definitions only.
use Rattle.std.specs.Prelude.{ℕ, zero, suc, cond, List, [], ◌∷◌, ◌++◌, eqb}
use Rattle.text_digits.specs.Digits.{digits_of, newline, stop_of}

-- the first t of n fields in base b: field j is the number x j with width j digits
unfoldable pub fields_of : ℕ → (ℕ → ℕ) → (ℕ → ℕ) → ℕ → ℕ → List ℕ
fields_of b width x n zero = []
fields_of b width x n (suc t) = fields_of b width x n t ++ (digits_of b (width t) (x t) ++ (stop_of t n ∷ []))

-- a line of n fields. An empty list is an empty line
unfoldable pub line_of : ℕ → (ℕ → ℕ) → (ℕ → ℕ) → ℕ → List ℕ
line_of b width x n = cond (eqb n 0) (newline ∷ []) (fields_of b width x n n)
