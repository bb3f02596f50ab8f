-- Three texts. These are laws computed in this crate; the starred examples stand in the one table, crates/test_examples/specs/Starred.antt.
use mathlib.Core.Path.{◌≡◌, refl}
use mathlib.Core.List.{[], ◌∷◌}
use lib.Ieee.{to_bits}
use Rattle.lists.specs.Sums.{zero64}
use Rattle.text_digits.specs.Digits.{digit_byte, digits_of, places_to, width_of}
use Rattle.text_digits.specs.Lines.{fields_of, line_of}
use Rattle.text_answer.specs.Answer.{line_text, sizes_text, grouped_text, refused_text}

-- "names 2 groups 2 draws 3", "0 1" and "0000000000000000 0000000000000000"
pub grouping_text : grouped_text 2 3 (0 ∷ 1 ∷ []) (zero64 ∷ zero64 ∷ []) ≡ 110 ∷ 97 ∷ 109 ∷ 101 ∷ 115 ∷ 32 ∷ 50 ∷ 32 ∷ 103 ∷ 114 ∷ 111 ∷ 117 ∷ 112 ∷ 115 ∷ 32 ∷ 50 ∷ 32 ∷ 100 ∷ 114 ∷ 97 ∷ 119 ∷ 115 ∷ 32 ∷ 51 ∷ 10 ∷ 48 ∷ 32 ∷ 49 ∷ 10 ∷ 48 ∷ 48 ∷ 48 ∷ 48 ∷ 48 ∷ 48 ∷ 48 ∷ 48 ∷ 48 ∷ 48 ∷ 48 ∷ 48 ∷ 48 ∷ 48 ∷ 48 ∷ 48 ∷ 32 ∷ 48 ∷ 48 ∷ 48 ∷ 48 ∷ 48 ∷ 48 ∷ 48 ∷ 48 ∷ 48 ∷ 48 ∷ 48 ∷ 48 ∷ 48 ∷ 48 ∷ 48 ∷ 48 ∷ 10 ∷ []
unfolding grouped_text sizes_text line_text line_of fields_of digits_of digit_byte places_to width_of to_bits
grouping_text = refl

-- "refused 11 at 0"
pub refusal_text : refused_text 11 0 ≡ 114 ∷ 101 ∷ 102 ∷ 117 ∷ 115 ∷ 101 ∷ 100 ∷ 32 ∷ 49 ∷ 49 ∷ 32 ∷ 97 ∷ 116 ∷ 32 ∷ 48 ∷ 10 ∷ []
unfolding refused_text digits_of digit_byte places_to width_of
refusal_text = refl

-- no name: two empty lines behind the sizes
pub empty_text : grouped_text 0 0 [] [] ≡ 110 ∷ 97 ∷ 109 ∷ 101 ∷ 115 ∷ 32 ∷ 48 ∷ 32 ∷ 103 ∷ 114 ∷ 111 ∷ 117 ∷ 112 ∷ 115 ∷ 32 ∷ 48 ∷ 32 ∷ 100 ∷ 114 ∷ 97 ∷ 119 ∷ 115 ∷ 32 ∷ 48 ∷ 10 ∷ 10 ∷ 10 ∷ []
unfolding grouped_text sizes_text line_text line_of fields_of digits_of digit_byte places_to width_of
empty_text = refl
