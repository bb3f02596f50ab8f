-- Recorded texts, each with what the grouping program must print for it. Definitions only.
use Rattle.std.specs.Prelude.{ℕ, ◌+◌, ◌-◌, min, Bool, ◌&&◌, List, eqb, length, drop}
use Rattle.lists.specs.Lists.{numbers, part}
use Rattle.lists.specs.Sums.{all_to}
use Rattle.test_words.specs.Words.{size_from}
use Rattle.test_counts.specs.Counting.{counts_by}
use Rattle.text_program.specs.Program.{program_of}
use Rattle.test_counts.specs.declared.Counts.{Counts}
use Rattle.test_texts.specs.declared.Case.{Case}

-- where the text of the case at byte `at` starts: behind the two lines of lengths, and not behind the end
unfoldable pub first_of : List ℕ → ℕ → ℕ
first_of s at = min (at + 34) (length s)

-- the length of its text, by the first line, and of what must be printed, by the second; what is cut off is not counted
unfoldable pub text_length : List ℕ → ℕ → ℕ
text_length s at = size_from (drop at s) 0 0 (length s - first_of s at)

unfoldable pub answer_length : List ℕ → ℕ → ℕ
answer_length s at = size_from (drop at s) 0 1 (length s - first_of s at - text_length s at)

unfoldable pub case_at : List ℕ → ℕ → Case
case_at s at = record { first = first_of s at; text = text_length s at; answer = answer_length s at }

-- the bytes of a case's text, those that must be printed for it, and where the next case starts
abbrev pub text_in : List ℕ → Case → List ℕ
text_in s c = part c.first c.text s

abbrev pub answer_in : List ℕ → Case → List ℕ
answer_in s c = part (c.first + c.text) c.answer s

abbrev pub end_of : Case → ℕ
end_of c = c.first + c.text + c.answer

-- whether two texts have the same length and the same byte at each place
unfoldable pub same_bytes : List ℕ → List ℕ → Bool
same_bytes a b = eqb (length a) (length b) && all_to (λ i. eqb (numbers a i) (numbers b i)) (length a)

-- whether the grouping program prints for a text what it must
unfoldable pub right_text : List ℕ → List ℕ → Bool
right_text text answer = same_bytes (program_of text) answer

unfoldable pub right_case : List ℕ → Case → Bool
right_case s c = right_text (text_in s c) (answer_in s c)

-- the cases of a file, and how many of them are answered otherwise
unfoldable pub counts_in : List ℕ → Counts
counts_in s = counts_by (case_at s) end_of (λ at c. right_case s c) (length s)
