-- A round by its four quarter rounds: each word of the result is a word of one of them.
use Rattle.std.proofs.Common.{◌≡◌, ℕ, List, [], ◌∷◌, length, sym, ap, ◌∙◌}
use Rattle.lists.specs.Lists.{listed, numbers}
use Rattle.lists.proofs.Listed.{listed_cells}
use Rattle.rng_chacha.specs.ChaCha.{quarter_of, words_at, quarter_at, columns_of, diagonals_of}
use Rattle.rng_chacha.specs.declared.Quarter.{Quarter}

cells_are : (s : List ℕ) → length s ≡ 16 → listed (numbers s) 16 ≡ s
cells_are s h = ap (listed (numbers s)) (sym h) ∙ listed_cells 0 s

abbrev columnwise : Quarter → Quarter → Quarter → Quarter → List ℕ
columnwise p q r t =
    p.a ∷ q.a ∷ r.a ∷ t.a ∷ p.b ∷ q.b ∷ r.b ∷ t.b ∷ p.c ∷ q.c ∷ r.c ∷ t.c ∷ p.d ∷ q.d ∷ r.d ∷ t.d ∷ []

pub columns_are : (s : List ℕ) → length s ≡ 16
    → columnwise (quarter_of (words_at 0 4 8 12 s)) (quarter_of (words_at 1 5 9 13 s)) (quarter_of (words_at 2 6 10 14 s)) (quarter_of (words_at 3 7 11 15 s)) ≡ columns_of s
unfolding columns_of quarter_at listed
columns_are s h = ap columns_of (cells_are s h)

abbrev diagonally : Quarter → Quarter → Quarter → Quarter → List ℕ
diagonally p q r t =
    p.a ∷ q.a ∷ r.a ∷ t.a ∷ t.b ∷ p.b ∷ q.b ∷ r.b ∷ r.c ∷ t.c ∷ p.c ∷ q.c ∷ q.d ∷ r.d ∷ t.d ∷ p.d ∷ []

pub diagonals_are : (s : List ℕ) → length s ≡ 16
    → diagonally (quarter_of (words_at 0 5 10 15 s)) (quarter_of (words_at 1 6 11 12 s)) (quarter_of (words_at 2 7 8 13 s)) (quarter_of (words_at 3 4 9 14 s)) ≡ diagonals_of s
unfolding diagonals_of quarter_at listed
diagonals_are s h = ap diagonals_of (cells_are s h)
