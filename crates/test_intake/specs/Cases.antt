-- A case of the check of a book in whole millionths, and whether it is answered as expected. Definitions only.
use Rattle.std.specs.Prelude.{ℕ, ◌+◌, ◌-◌, ◌*◌, ◌/◌, Bool, cond, List, [], ◌∷◌, eqb, ltb, length, ℤ, pos, negsuc}
use Rattle.lists.specs.Lists.{listed, matrix_of}
use Rattle.refusals.specs.Table.{Refusal}
use Rattle.intake.specs.Intake.{million, intake_of}
use Rattle.test_words.specs.Words.{word_from, size_from}
use Rattle.test_compared.specs.Compared.{same_numbers}
use Rattle.test_counts.specs.Counting.{counts_by}
use Rattle.test_counts.specs.declared.Counts.{Counts}
use Rattle.test_intake.specs.declared.Case.{Case}

-- the number that a word of 64 bits is in two's complement; `negsuc k` is -(k + 1)
unfoldable pub signed_of : ℕ → ℤ
signed_of word = cond (ltb word 0x8000_0000_0000_0000) (pos word) (negsuc (0xffff_ffff_ffff_ffff - word))

-- n words from `at` on, as such numbers
abbrev pub signed_from : List ℕ → ℕ → ℕ → List ℤ
signed_from text at n = listed (λ i. signed_of (word_from text at i)) n

-- the case at `at`: three words, the cells, and then the expected answer, two words
unfoldable pub case_at : List ℕ → ℕ → Case
case_at text at =
    record {
      rows = word_from text at 0;
      cols = word_from text at 1;
      cells = size_from text at 2 256;
      expected = at + 3 + size_from text at 2 256;
      next = at + 3 + size_from text at 2 256 + 2;
    }

-- whether the text has this number and place at `expected`
unfoldable pub same_answer : List ℕ → ℕ → Refusal → Bool
same_answer text expected q = same_numbers text expected (q.number ∷ q.place ∷ [])

-- whether the book of the cells that the text has after the three words at `at` is answered as expected
unfoldable pub right_case : List ℕ → ℕ → Case → Bool
right_case text at c = same_answer text c.expected (intake_of (signed_from text (at + 3) c.cells) c.rows c.cols)

-- the cases of a text, and how many of them are answered otherwise
unfoldable pub counts_in : List ℕ → Counts
counts_in text = counts_by (case_at text) (λ c. c.next) (right_case text) (length text / 17)

-- a book that is made in place: 1,000,000 on the diagonal, and elsewhere 1,000 times the sum of row and column
unfoldable pub made_cell : ℕ → ℕ → ℤ
made_cell i j = cond (eqb i j) (pos million) (pos ((i + j) * 1000))

abbrev pub made_book : ℕ → List ℤ
made_book n = matrix_of made_cell n
