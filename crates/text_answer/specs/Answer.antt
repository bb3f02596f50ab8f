-- The text of a grouping and of a refusal, in ASCII, and what the calls that write them answer and leave. Definitions only.
use Rattle.std.specs.Prelude.{ℕ, Bool, cond, ◌&&◌, List, [], ◌∷◌, ◌++◌, map, eqb, leb, length, get_or, drop, Float}
use Rattle.refusals.specs.Table.{Refusal, none, refused}
use Rattle.bits.specs.Bits.{bits_of}
use Rattle.text_digits.specs.Digits.{numeral, width_of, newline}
use Rattle.text_digits.specs.Lines.{line_of}

-- the numbers of xs in base b, in one line. An empty list is an empty line
unfoldable pub line_text : ℕ → List ℕ → List ℕ
line_text b xs = line_of b (λ t. width_of b (get_or xs t 0)) (λ t. get_or xs t 0) (length xs)

-- "names "
abbrev pub names_word : List ℕ
names_word = 110 ∷ 97 ∷ 109 ∷ 101 ∷ 115 ∷ 32 ∷ []

-- " groups "
abbrev pub groups_word : List ℕ
groups_word = 32 ∷ 103 ∷ 114 ∷ 111 ∷ 117 ∷ 112 ∷ 115 ∷ 32 ∷ []

-- " draws "
abbrev pub draws_word : List ℕ
draws_word = 32 ∷ 100 ∷ 114 ∷ 97 ∷ 119 ∷ 115 ∷ 32 ∷ []

-- "refused "
abbrev pub refused_word : List ℕ
refused_word = 114 ∷ 101 ∷ 102 ∷ 117 ∷ 115 ∷ 101 ∷ 100 ∷ 32 ∷ []

-- " at "
abbrev pub at_word : List ℕ
at_word = 32 ∷ 97 ∷ 116 ∷ 32 ∷ []

-- "names N groups G draws D" as a line
unfoldable pub sizes_text : ℕ → ℕ → ℕ → List ℕ
sizes_text n g d = names_word ++ (numeral 10 n ++ (groups_word ++ (numeral 10 g ++ (draws_word ++ (numeral 10 d ++ (newline ∷ []))))))

-- a grouping: the line of sizes, the labels in decimal, and the bits of the scores as 16 hex digits each
unfoldable pub grouped_text : ℕ → ℕ → List ℕ → List Float → List ℕ
grouped_text groups draws labels scores = sizes_text (length labels) groups draws ++ (line_text 10 labels ++ line_text 16 (map bits_of scores))

-- a refusal: "refused N at P" as a line
unfoldable pub refused_text : ℕ → ℕ → List ℕ
refused_text number place = refused_word ++ (numeral 10 number ++ (at_word ++ (numeral 10 place ++ (newline ∷ []))))

-- the bytes that a list to write to must have at least, and the most names of a grouping
abbrev pub room : ℕ
room = 1024

abbrev pub most_names : ℕ
most_names = 12

-- the lists that each call takes
abbrev pub grouping_fits : List ℕ → List Float → List ℕ → Bool
grouping_fits labels scores out = leb (length labels) most_names && (eqb (length scores) (length labels) && leb room (length out))

abbrev pub refusal_fits : List ℕ → Bool
refusal_fits out = leb room (length out)

-- what a call answers, and what it leaves in the list that it is lent
pub record Writing : Type 0 where
  pub refused : Refusal
  pub count : ℕ
  pub out : List ℕ

-- the text in front, and behind it as it was; or 6, and the list as it was
unfoldable pub written_of : Bool → List ℕ → List ℕ → Writing
written_of fits text old =
    cond fits (record { refused = none; count = length text; out = text ++ drop (length text) old }) (record { refused = refused 6; count = 0; out = old })
