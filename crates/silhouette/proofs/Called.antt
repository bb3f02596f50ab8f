-- The public call: what an accepted call knows, and what the working list holds.
use Prim.Native.Nat.{ℕ, ◌*◌, ◌<◌, ◌≤◌}
use mathlib.Core.Path.{◌≡◌, sym, ◌∙◌, ap}
use mathlib.Core.Bool.{◌&&◌}
use mathlib.Core.List.{List, ◌++◌}
use native.Mathlib.Omega.{arith}
use borrow.Author.Tests.{eqb-true, leb-true}
use lib.Dec.{eqb, leb}
use lib.ListN.{length, take, drop, length-append, length-drop}
use lib.Seq.{take_at, drop_at}
use lib.Ieee.{Float, nan}
use Rattle.lists.specs.Lists.{listed, numbers, cell_at, flat, matrix_of, first_from}
use Rattle.lists.proofs.Listed.{listed_same, listed_length}
use Rattle.lists.proofs.First.{from_none}
use Rattle.lists.proofs.Matrix.{in_matrix}
use Rattle.lists.proofs.Parts.{drop_behind}
use Rattle.refusals.specs.Table.{none, refusal, work_doubles, wiped}
use Rattle.refusals.proofs.Laws.{allowed}
use Rattle.silhouette_scores.specs.Scores.{silhouette}
use Rattle.silhouette.specs.Leaf.{score_at, lists_fit}
use Rattle.silhouette_scores.specs.Groups.{distance, Shape, scores_across}
use Rattle.silhouette_scores.proofs.Least.{score_same}
use Rattle.lists.proofs.Tests.{both}

-- The pair distances transposed, at the front of the working list.
module _ (pairs : List Float) (n : ℕ) (labels : List ℕ) (floats : List Float) (named : length labels ≡ n) (room : work_doubles n ≤ length floats)
    {turned : List Float} (is : turned ≡ matrix_of (λ i j. cell_at pairs n j i) n) where
  abbrev whole : List Float
  whole = turned ++ drop (n * n) floats

  turned_length : length turned ≡ n * n
  turned_length = listed_length (flat (λ i j. cell_at pairs n j i) n) (n * n) is

  front : take (n * n) whole ≡ turned
  front = take_at turned (drop (n * n) floats) (n * n) turned_length

  pub front_length : n * n ≡ length (take (n * n) whole)
  front_length = sym (ap length front ∙ turned_length)

  pub front_shape : n ≤ 256 → Shape (take (n * n) whole) labels
  front_shape h = record { few = omega arith; square = rw named (sym front_length) }

  pub whole_length : length whole ≡ length floats
  whole_length = simp (length-append, length-drop) (omega (arith, turned_length))

  -- zeros over the front
  pub whole_wiped : {left : List Float} → left ≡ wiped n whole → left ≡ wiped n floats
  whole_wiped e =
      let behind : drop (work_doubles n) whole ≡ drop (work_doubles n) floats =
      drop_behind (n * n) (work_doubles n) whole floats (omega arith) (drop_at turned (drop (n * n) floats) (n * n) turned_length) in
      e ∙ rw behind

  pub whole_scores : {out : List Float} → out ≡ scores_across (take (n * n) whole) labels → out ≡ listed (score_at pairs n labels) n
  unfolding score_at
  whole_scores e =
      (rw (front, named) at e)
      ∙ listed_same nan (λ i. silhouette (distance turned n i) (numbers labels) n i) (λ i. silhouette (cell_at pairs n i) (numbers labels) n i) n
      (λ i q. score_same (distance turned n i) (cell_at pairs n i) (numbers labels) n i (λ j b. in_matrix (λ r s. cell_at pairs n s r) n j i nan is b q))

-- what holds of the lists of a call that is not refused
pub ready : (pairs : List Float) (n : ℕ) (labels : List ℕ) (scores floats : List Float)
    → none ≡ refusal (length pairs) n n (lists_fit n (length labels) (length scores) (length floats)) (first_from n labels) (length labels)
    → ((0 < n) × (n ≤ 256) × (length pairs ≡ n * n) × (length labels ≡ n) × (length scores ≡ n) × (work_doubles n ≤ length floats)) × ((i : ℕ) → i < n → numbers labels i < n)
ready pairs n labels scores floats is =
    let q = allowed is in
    let f = both (eqb (length labels) n) (eqb (length scores) n && leb (work_doubles n) (length floats)) q.fitting in
    let g = both (eqb (length scores) n) (leb (work_doubles n) (length floats)) f.1 in
    let named = eqb-true (length labels) n f.0 in (
      (omega (arith, q.two), q.few, q.square, named, eqb-true (length scores) n g.0, leb-true (work_doubles n) (length floats) g.1),
      λ i b. from_none n labels q.in_range i (omega arith),
    )
