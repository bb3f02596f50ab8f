-- The texts of the layout, written out from what they say: the other way round to Layout. Definitions only.
use Rattle.std.specs.Prelude.{ℕ, ◌*◌, List, ◌∷◌, ◌++◌}
use Rattle.text_digits.specs.Digits.{numeral, space, newline}
use Rattle.text_digits.specs.Lines.{line_of}

-- names n, repeats r, d draws; the bits of the cells; the draws, draw t with width t digits
unfoldable pub request_text : ℕ → ℕ → ℕ → (ℕ → ℕ) → (ℕ → ℕ) → (ℕ → ℕ) → List ℕ
request_text n r d cell width draw =
    numeral 10 n ++ (space ∷ (numeral 10 r ++ (space ∷ (numeral 10 d ++ (newline ∷ (line_of 16 (λ t. 16) cell (n * n) ++ line_of 10 width draw d))))))
