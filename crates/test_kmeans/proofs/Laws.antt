-- What is lent to a leaf, and read for it. Assumes nothing.
use Prim.Native.Nat.{ℕ, ◌+◌}
use mathlib.Core.Path.{◌≡◌, ◌∙◌}
use mathlib.Core.Bool.{Bool}
use mathlib.Core.List.{List}
use lib.ListN.{replicate}
use lib.Ieee.{Float}
use Rattle.test_words.specs.Words.{doubles_from, words_from}
use Rattle.test_compared.specs.Compared.{seven}
use Rattle.test_kmeans.specs.declared.Case.{Case}
use Rattle.test_kmeans.specs.Cases.{right_leaf, leaf_of, right_lists, right_case}

-- lists of equal cells were lent
pub lent : (text : List ℕ) (c : Case) (points : List Float) (draws centres : List ℕ) {out : List ℕ} {floats : List Float} {numbers : List ℕ} {r : Bool}
    → out ≡ replicate c.out 999 → floats ≡ replicate c.floats seven → numbers ≡ replicate c.numbers 999
    → r ≡ right_leaf text c (leaf_of c points draws centres out floats numbers) → r ≡ right_lists text c points draws centres
unfolding right_lists
lent text c points draws centres o f n e = rw (← o, ← f, ← n) e

-- lists were read from the text
pub were_read : (text : List ℕ) (at : ℕ) (c : Case) {points : List Float} {draws centres : List ℕ} {r : Bool}
    → points ≡ doubles_from text (at + 8) c.points → draws ≡ words_from text (at + 8 + c.points) c.list → centres ≡ words_from text (at + 8 + c.points) c.list
    → r ≡ right_lists text c points draws centres → r ≡ right_case text at c
unfolding right_case
were_read text at c p d e h = h ∙ rw (p, d, e)
