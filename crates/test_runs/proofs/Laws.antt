-- What is lent to a run, and the tests of what it gives and leaves. Assumes nothing.
use Prim.Native.Nat.{ℕ, ◌+◌}
use mathlib.Core.Path.{◌≡◌, ◌∙◌}
use mathlib.Core.Bool.{Bool}
use mathlib.Core.List.{List}
use lib.ListN.{replicate}
use lib.Ieee.{Float}
use Rattle.test_words.specs.Words.{doubles_from, words_from}
use Rattle.test_compared.specs.Compared.{seven}
use Rattle.onc.specs.Onc.{group_of}
use Rattle.test_run_cases.specs.declared.Case.{Case}
use Rattle.test_run_cases.specs.Cases.{right_run}
use Rattle.test_runs.specs.Runs.{right_lists, right_case}

-- working lists of equal cells were lent
module _ (text : List ℕ) (c : Case) (cells : List Float) (draws : List ℕ) where
  pub lent_working : (order sizes : List ℕ) (scores ordered : List Float) {floats : List Float} {numbers : List ℕ} {r : Bool} → floats ≡ replicate c.floats seven → numbers ≡ replicate c.numbers 999
      → r ≡ right_run text c (group_of cells c.rows c.cols c.repeat draws (record { order = order; sizes = sizes; scores = scores; ordered = ordered; floats = floats; numbers = numbers }))
      → r ≡ right_run text c (group_of cells c.rows c.cols c.repeat draws (record { order = order; sizes = sizes; scores = scores; ordered = ordered; floats = replicate c.floats seven; numbers = replicate c.numbers 999 }))
  lent_working order sizes scores ordered f n e = rw (← f, ← n) e

  -- and outputs of equal cells
  pub lent : {order sizes : List ℕ} {scores ordered : List Float} {r : Bool} → order ≡ replicate c.order 999 → sizes ≡ replicate c.sizes 999
      → scores ≡ replicate c.scores seven → ordered ≡ replicate c.ordered seven
      → r ≡ right_run text c (group_of cells c.rows c.cols c.repeat draws (record { order = order; sizes = sizes; scores = scores; ordered = ordered; floats = replicate c.floats seven; numbers = replicate c.numbers 999 }))
      → r ≡ right_lists text c cells draws
  unfolding right_lists
  lent o s p q e = rw (← o, ← s, ← p, ← q) e

-- the cells and the draws were read from the text
pub were_read : (text : List ℕ) (at : ℕ) (c : Case) {cells : List Float} {draws : List ℕ} {r : Bool}
    → cells ≡ doubles_from text (at + 12) c.cells → draws ≡ words_from text (at + 12 + c.cells) c.draws
    → r ≡ right_lists text c cells draws → r ≡ right_case text at c
unfolding right_case
were_read text at c p d h = h ∙ rw (p, d)
