-- What is lent to a leaf, and the tests of what it gives and leaves. Assumes nothing.
use Prim.Native.Nat.{ℕ, ◌+◌, ◌<◌}
use mathlib.Core.Path.{◌≡◌, refl, ◌∙◌}
use mathlib.Core.Bool.{Bool, true, false, cond}
use mathlib.Core.List.{List, []}
use native.Mathlib.Omega.{arith}
use borrow.Author.Tests.{lt-ltb}
use lib.ListN.{length, replicate, length-replicate}
use lib.Ieee.{Float}
use Rattle.stats.specs.Average.{averaged}
use Rattle.refusals.specs.Table.{Refusal, Worked}
use Rattle.test_words.specs.Words.{doubles_from, words_from}
use Rattle.test_compared.specs.Compared.{seven, front_of, names_wiped, left_doubles}
use Rattle.test_words.proofs.Values.{first_fails, first_passes}
use Rattle.test_examples.specs.declared.Case.{Case}
use Rattle.test_examples.specs.Cases.{average_of, half, list_of, names_of, same_outcome, right_leaf, right_lists, right_case}

-- an average of more values than it is worked out of
too_many : (n : ℕ) (none : Bool) (x : Float) → 65536 < n → averaged n none x ≡ record { number = 4; values = [] }
unfolding averaged
too_many n none x h = rw (lt-ltb 65536 n h)

same_either : {A : Type 0} (b : Bool) (x : A) → cond b x x ≡ x
same_either true x = refl
same_either false x = refl

pub average_refused : (which n : ℕ) → 65537 < n → average_of which 0 (replicate n half) ≡ record { number = 4; values = [] }
unfolding average_of
average_refused which n h =
    let l : 65536 < length (replicate n half) = rw (length-replicate n half) (omega arith) in
    simp (too_many, same_either)

-- What a leaf l gave and left: the answer q, and the lists.
module _ (text : List ℕ) (c : Case) (q : Refusal) (out floats : List Float) {l : Worked} (gave : record { answer = q; out = out; floats = floats } ≡ l) where
  pub outcome_differs : {r : Bool} → r ≡ same_outcome text c.expected q out → r ≡ false → false ≡ right_leaf text c l
  unfolding right_leaf
  outcome_differs e h = rw (← gave) (first_fails _ e h)

  pub floats_decide : {r t : Bool} {number names wiped front : ℕ} → r ≡ same_outcome text c.expected q out → r ≡ true → number ≡ q.number → names ≡ names_of c
      → wiped ≡ names_wiped number names → front ≡ front_of wiped → t ≡ left_doubles floats front → t ≡ right_leaf text c l
  unfolding right_leaf
  floats_decide e h k m w f u = rw (← gave) (first_passes e h (rw (← k, ← m, ← w, ← f) u))

-- lists of equal cells were lent
pub lent : (text : List ℕ) (c : Case) (a : List Float) (rows : List ℕ) {out floats : List Float} {r : Bool} → out ≡ replicate c.out seven → floats ≡ replicate c.floats seven
    → r ≡ right_leaf text c (list_of c a rows out floats) → r ≡ right_leaf text c (list_of c a rows (replicate c.out seven) (replicate c.floats seven))
lent text c a rows o f e = rw (← o, ← f) e

-- lists were read from the text
pub were_read : (text : List ℕ) (at : ℕ) (c : Case) {a b : List Float} {rows : List ℕ} {r : Bool}
    → a ≡ doubles_from text (at + 8) c.a → b ≡ doubles_from text (at + 8 + c.a) c.b → rows ≡ words_from text (at + 8 + c.a) c.b
    → r ≡ right_lists text c a b rows → r ≡ right_case text at c
unfolding right_case
were_read text at c p d e h = h ∙ rw (p, d, e)
