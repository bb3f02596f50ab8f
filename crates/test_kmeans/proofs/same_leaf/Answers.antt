use Prim.Native.Nat.{ℕ}
use mathlib.Core.Path.{◌∙◌, ap, sym}
use Rattle.std.proofs.lemmas.Bool.{false≢true}
use Rattle.test_compared.specs.Compared.{left_lists, names_wiped}
use Rattle.test_words.proofs.Values.{first_fails, first_passes}
use Rattle.test_kmeans.specs.Cases.{right_leaf}
use Rattle.test_kmeans.proofs.same_leaf.Goals as goal
use Rattle.test_kmeans.proofs.same_leaf.Goals.{then-same_answer, else-same_answer}

pub returns-then-same_numbers : goal.returns-then-same_numbers
unfolding right_leaf
returns-then-same_numbers c =
    let s = c.args in
    let e = c.names_wiped-names.ensures ∙ ap (λ (k : ℕ). names_wiped k s.c.n) c.number_of.ensures in
    elim c.if-same_answer.branch [
      | then-same_answer w ↦
          first_passes c.same_answer.ensures w.if-same_answer.true
          (first_passes w.same_numbers.ensures (sym w.value-is ∙ c.if-same_numbers.true) (c.left_lists.ensures ∙ ap (λ (m : ℕ). left_lists m s.floats.now s.numbers.now) e))
      | else-same_answer w ↦ absurd (false≢true (sym w.if-same_answer.false ∙ (sym w.value-is ∙ c.if-same_numbers.true)))
    ]

pub returns-else-same_numbers : goal.returns-else-same_numbers
unfolding right_leaf
returns-else-same_numbers c =
    rw c.if-same_numbers.false
    (elim c.if-same_answer.branch [
      | then-same_answer w ↦
          first_passes c.same_answer.ensures w.if-same_answer.true (first_fails _ w.same_numbers.ensures (sym w.value-is ∙ c.if-same_numbers.false))
      | else-same_answer w ↦ first_fails _ c.same_answer.ensures w.if-same_answer.false
    ])
