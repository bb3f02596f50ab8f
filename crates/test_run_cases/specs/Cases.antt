-- A recorded call of the grouping, what is lent to it, and whether it answers and leaves what is recorded. Definitions only.
use Rattle.std.specs.Prelude.{ℕ, ◌+◌, Bool, ◌&&◌, List, [], ◌∷◌, replicate, Float}
use Rattle.test_words.specs.Words.{word_from, size_from}
use Rattle.test_compared.specs.Compared.{seven, same_numbers, same_doubles, names_wiped, left_lists}
use Rattle.onc_answers.specs.Answers.{Answer}
use Rattle.onc_run.specs.Run.{Lists, Outcome}
use Rattle.test_run_cases.specs.declared.Case.{Case}

-- the case at `at`: twelve words, the cells, the draws, and then the expected answer
unfoldable pub case_at : List ℕ → ℕ → Case
case_at text at =
    record {
      rows = word_from text at 0;
      cols = word_from text at 1;
      repeat = word_from text at 2;
      cells = size_from text at 3 144;
      draws = size_from text at 4 2048;
      order = size_from text at 5 16;
      sizes = size_from text at 6 16;
      scores = size_from text at 7 16;
      ordered = size_from text at 8 256;
      floats = size_from text at 9 4400;
      numbers = size_from text at 10 4000;
      kind = word_from text at 11;
      expected = at + 12 + size_from text at 3 144 + size_from text at 4 2048;
      next =
          at + 12 + size_from text at 3 144 + size_from text at 4 2048 + 4 + size_from text at 5 16 + size_from text at 6 16 + size_from text at 7 16
          + size_from text at 8 256;
    }

-- whether the text has this number, place, count of groups and count of draws read at `expected`
unfoldable pub same_answer : List ℕ → ℕ → Answer → Bool
same_answer text expected a = same_numbers text expected (a.refused.number ∷ a.refused.place ∷ a.groups ∷ a.read ∷ [])

-- whether it has these outputs behind that, one after the other
unfoldable pub same_outputs : List ℕ → Case → (order sizes : List ℕ) (scores ordered : List Float) → Bool
same_outputs text c order sizes scores ordered =
    same_numbers text (c.expected + 4) order
    && (same_numbers text (c.expected + 4 + c.order) sizes
    && (same_doubles text (c.expected + 4 + c.order + c.sizes) scores && same_doubles text (c.expected + 4 + c.order + c.sizes + c.scores) ordered))

-- whether the run answers and leaves what is recorded
unfoldable pub right_run : List ℕ → Case → Outcome → Bool
right_run text c o =
    same_answer text c.expected o.answer
    && (same_outputs text c o.lists.order o.lists.sizes o.lists.scores o.lists.ordered
    && left_lists (names_wiped o.answer.refused.number c.rows) o.lists.floats o.lists.numbers)

-- the lists that are lent, of the case's lengths
abbrev pub lent_to : Case → Lists
lent_to c =
    record {
      order = replicate c.order 999;
      sizes = replicate c.sizes 999;
      scores = replicate c.scores seven;
      ordered = replicate c.ordered seven;
      floats = replicate c.floats seven;
      numbers = replicate c.numbers 999;
    }
