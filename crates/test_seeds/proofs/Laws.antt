-- The seed of a case, what is lent to a run, and the tests of what it gives and leaves. Assumes nothing.
use Prim.Native.Nat.{ℕ, ◌+◌}
use mathlib.Core.Path.{◌≡◌, ◌∙◌}
use mathlib.Core.Bool.{Bool}
use mathlib.Core.List.{List}
use borrow.Author.Tests.{eq-eqb, ne_eqb}
use lib.ListN.{replicate}
use lib.Ieee.{Float}
use Rattle.test_words.specs.Words.{word_from, doubles_from}
use Rattle.test_compared.specs.Compared.{seven}
use Rattle.onc_run.specs.Run.{Lists, Outcome}
use Rattle.onc.specs.Onc.{default_seed, seeded_of}
use Rattle.test_run_cases.specs.declared.Case.{Case}
use Rattle.test_run_cases.specs.Cases.{right_run}
use Rattle.test_seeds.specs.Seeds.{seed_of, right_lists, right_case}

-- a case without a word for a seed was called without one, and a case with a word by that
module _ (cells : List Float) (c : Case) (seed : ℕ) (l : Lists) {o : Outcome} where
  pub without_seed : c.draws ≡ 0 → o ≡ seeded_of cells c.rows c.cols c.repeat default_seed l → o ≡ seeded_of cells c.rows c.cols c.repeat (seed_of c seed) l
  without_seed z e = rw (eq-eqb c.draws 0 z) e

  pub with_seed : (c.draws ≡ 0 → ⊥) → o ≡ seeded_of cells c.rows c.cols c.repeat seed l → o ≡ seeded_of cells c.rows c.cols c.repeat (seed_of c seed) l
  with_seed z e = rw (ne_eqb c.draws 0 z) e

-- working lists of equal cells were lent
module _ (text : List ℕ) (c : Case) (cells : List Float) (seed : ℕ) where
  pub lent_working : (order sizes : List ℕ) (scores ordered : List Float) {floats : List Float} {numbers : List ℕ} {r : Bool} → floats ≡ replicate c.floats seven → numbers ≡ replicate c.numbers 999
      → r ≡ right_run text c (seeded_of cells c.rows c.cols c.repeat (seed_of c seed) (record { order = order; sizes = sizes; scores = scores; ordered = ordered; floats = floats; numbers = numbers }))
      → r ≡ right_run text c (seeded_of cells c.rows c.cols c.repeat (seed_of c seed) (record { order = order; sizes = sizes; scores = scores; ordered = ordered; floats = replicate c.floats seven; numbers = replicate c.numbers 999 }))
  lent_working order sizes scores ordered f n e = rw (← f, ← n) e

  -- and outputs of equal cells
  pub lent : {order sizes : List ℕ} {scores ordered : List Float} {r : Bool} → order ≡ replicate c.order 999 → sizes ≡ replicate c.sizes 999
      → scores ≡ replicate c.scores seven → ordered ≡ replicate c.ordered seven
      → r ≡ right_run text c (seeded_of cells c.rows c.cols c.repeat (seed_of c seed) (record { order = order; sizes = sizes; scores = scores; ordered = ordered; floats = replicate c.floats seven; numbers = replicate c.numbers 999 }))
      → r ≡ right_lists text c cells seed
  unfolding right_lists
  lent o s p q e = rw (← o, ← s, ← p, ← q) e

-- the cells and the seed were read from the text
pub were_read : (text : List ℕ) (at : ℕ) (c : Case) {cells : List Float} {seed : ℕ} {r : Bool}
    → cells ≡ doubles_from text (at + 12) c.cells → seed ≡ word_from text (at + 12 + c.cells) 0
    → r ≡ right_lists text c cells seed → r ≡ right_case text at c
unfolding right_case
were_read text at c p d h = h ∙ rw (p, d)
