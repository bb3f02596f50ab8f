-- A recorded call of `get_onc_clusters_with_seed` or of `get_onc_clusters`, and whether it answers and leaves what is recorded. Definitions only.
use Rattle.std.specs.Prelude.{ℕ, ◌+◌, ◌/◌, Bool, cond, List, eqb, length, Float}
use Rattle.test_words.specs.Words.{word_from, doubles_from}
use Rattle.test_counts.specs.Counting.{counts_by}
use Rattle.onc.specs.Onc.{default_seed, seeded_of}
use Rattle.test_counts.specs.declared.Counts.{Counts}
use Rattle.test_run_cases.specs.declared.Case.{Case}
use Rattle.test_run_cases.specs.Cases.{case_at, right_run, lent_to}

-- the seed of a case that has a word for it, which is this; and of a case that has none, the seed of `get_onc_clusters`
abbrev pub seed_of : Case → ℕ → ℕ
seed_of c word = cond (eqb c.draws 0) default_seed word

-- whether the call on these cells, by the seed of the case, answers and leaves what is recorded
unfoldable pub right_lists : List ℕ → Case → List Float → ℕ → Bool
right_lists text c cells word = right_run text c (seeded_of cells c.rows c.cols c.repeat (seed_of c word) (lent_to c))

-- the same, on the cells that the text has after the twelve words at `at`, and the word behind them
unfoldable pub right_case : List ℕ → ℕ → Case → Bool
right_case text at c = right_lists text c (doubles_from text (at + 12) c.cells) (word_from text (at + 12 + c.cells) 0)

-- the cases of a text, and how many of them are answered otherwise
unfoldable pub counts_in : List ℕ → Counts
counts_in text = counts_by (case_at text) (λ c. c.next) (right_case text) (length text / 17)
