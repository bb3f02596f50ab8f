-- The two texts, and how long they are.
use Prim.Native.Nat.{ℕ, ◌+◌, ◌≤◌}
use mathlib.Core.Path.{◌≡◌, refl}
use mathlib.Core.List.{List, [], ◌∷◌, ◌++◌, map, append_assoc}
use native.Mathlib.Omega.{arith}
use lib.Ieee.{Float}
use lib.ListN.{length, length-append, length-map}
use Rattle.bits.specs.Bits.{bits_of}
use Rattle.text_digits.specs.Digits.{numeral}
use Rattle.text_digits.proofs.Numerals.{length_numeral}
use Rattle.text_answer.specs.Answer.{line_text, sizes_text, grouped_text, refused_text, names_word, groups_word, draws_word, refused_word, at_word, room, most_names}
use Rattle.text_answer.proofs.Lines.{length_text}

-- a word and a number
pub length_field : (w : List ℕ) (x : ℕ) → length (w ++ numeral 10 x) ≤ length w + 20
length_field w x = rw (length-append w (numeral 10 x)) (omega (arith, length_numeral 10 x))

five : (a b c d e : List ℕ) → ((a ++ b) ++ (c ++ d)) ++ e ≡ a ++ (b ++ (c ++ (d ++ e)))
five a b c d e = simp append_assoc

seven : (a b c d e f g : List ℕ) → (((a ++ b) ++ (c ++ d)) ++ (e ++ f)) ++ g ≡ a ++ (b ++ (c ++ (d ++ (e ++ (f ++ g)))))
seven a b c d e f g = simp append_assoc

-- the words and numbers of a line as they are written one by one
pub sizes_is : (n g d : ℕ) → (((names_word ++ numeral 10 n) ++ (groups_word ++ numeral 10 g)) ++ (draws_word ++ numeral 10 d)) ++ (10 ∷ []) ≡ sizes_text n g d
unfolding sizes_text
sizes_is n g d = seven names_word (numeral 10 n) groups_word (numeral 10 g) draws_word (numeral 10 d) (10 ∷ [])

pub refused_is : (k p : ℕ) → ((refused_word ++ numeral 10 k) ++ (at_word ++ numeral 10 p)) ++ (10 ∷ []) ≡ refused_text k p
unfolding refused_text
refused_is k p = five refused_word (numeral 10 k) at_word (numeral 10 p) (10 ∷ [])

-- how long the first line of a grouping and a refusal can be
pub length_sizes : (n g d : ℕ) → length (sizes_text n g d) ≤ 82
length_sizes n g d =
    rw (
      ← sizes_is n g d,
      length-append (((names_word ++ numeral 10 n) ++ (groups_word ++ numeral 10 g)) ++ (draws_word ++ numeral 10 d)) (10 ∷ []),
      length-append ((names_word ++ numeral 10 n) ++ (groups_word ++ numeral 10 g)) (draws_word ++ numeral 10 d),
      length-append (names_word ++ numeral 10 n) (groups_word ++ numeral 10 g),
    )
    (omega (arith, length_field names_word n, length_field groups_word g, length_field draws_word d))

pub length_refused : (k p : ℕ) → length (refused_text k p) ≤ 82
length_refused k p =
    rw (← refused_is k p, length-append ((refused_word ++ numeral 10 k) ++ (at_word ++ numeral 10 p)) (10 ∷ []), length-append (refused_word ++ numeral 10 k) (at_word ++ numeral 10 p))
    (omega (arith, length_field refused_word k, length_field at_word p))

-- the three lines of a grouping
pub grouped_is : (g d : ℕ) (labels : List ℕ) (scores : List Float)
    → sizes_text (length labels) g d ++ (line_text 10 labels ++ line_text 16 (map bits_of scores)) ≡ grouped_text g d labels scores
unfolding grouped_text
grouped_is g d labels scores = refl

-- the text of a grouping of at most 12 names fits in the room
pub length_grouped : (g d : ℕ) (labels : List ℕ) (scores : List Float) → length labels ≤ most_names → length scores ≡ length labels
    → length (grouped_text g d labels scores) ≤ room
length_grouped g d labels scores few same =
    rw (
      ← grouped_is g d labels scores,
      length-append (sizes_text (length labels) g d) (line_text 10 labels ++ line_text 16 (map bits_of scores)),
      length-append (line_text 10 labels) (line_text 16 (map bits_of scores)),
    )
    (omega (arith, length_sizes (length labels) g d, length_text 10 labels, length_text 16 (map bits_of scores), length-map scores bits_of))

-- and that of a refusal
pub refused_room : (k p : ℕ) {m : ℕ} → room ≤ m → length (refused_text k p) ≤ m
refused_room k p l = omega (arith, length_refused k p)
