-- A recorded call of `get_onc_clusters_with_draws`, and whether it answers and leaves what is recorded. Definitions only.
use Rattle.std.specs.Prelude.{ℕ, ◌+◌, ◌/◌, Bool, List, length, Float}
use Rattle.test_words.specs.Words.{doubles_from, words_from}
use Rattle.test_counts.specs.Counting.{counts_by}
use Rattle.onc.specs.Onc.{group_of}
use Rattle.test_counts.specs.declared.Counts.{Counts}
use Rattle.test_run_cases.specs.declared.Case.{Case}
use Rattle.test_run_cases.specs.Cases.{case_at, right_run, lent_to}

-- whether the call on these cells, by these draws, answers and leaves what is recorded
unfoldable pub right_lists : List ℕ → Case → List Float → List ℕ → Bool
right_lists text c cells draws = right_run text c (group_of cells c.rows c.cols c.repeat draws (lent_to c))

-- the same, on the cells and the draws that the text has after the twelve words at `at`
unfoldable pub right_case : List ℕ → ℕ → Case → Bool
right_case text at c = right_lists text c (doubles_from text (at + 12) c.cells) (words_from text (at + 12 + c.cells) c.draws)

-- the cases of a text, and how many of them are answered otherwise
unfoldable pub counts_in : List ℕ → Counts
counts_in text = counts_by (case_at text) (λ c. c.next) (right_case text) (length text / 17)
