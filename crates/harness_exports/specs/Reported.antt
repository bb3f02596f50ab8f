-- A k-means leaf called from C. What it returns stands in the lent list `answer`, three numbers, of which the first is the value too; `answer` is no output
-- list. Definitions only.
use Rattle.std.specs.Prelude.{ℕ, false, cond, List, [], ◌∷◌, eqb, length, Float}
use Rattle.refusals.specs.Table.{refusal}
use Rattle.kmeans_answers.specs.Leaf.{Leaf}

-- the value, and each list after the call
pub record Reported : Type 0 where
  pub number : ℕ
  pub answer : List ℕ
  pub out : List ℕ
  pub floats : List Float
  pub numbers : List ℕ

-- The number, the place and the draws read, in `answer`. If that has another length than 3 there is no place for what is returned: the call
-- is refused by 6, or by 2, 4 or 5 of n items with `cells` cells, which come first; `answer` and every list are as they were.
unfoldable pub reported_of : ℕ → ℕ → Leaf → List ℕ → List ℕ → List Float → List ℕ → Reported
reported_of cells n leaf answer out floats numbers =
    cond (eqb (length answer) 3)
    (record { number = leaf.answer.number; answer = leaf.answer.number ∷ leaf.answer.place ∷ leaf.read ∷ []; out = leaf.out; floats = leaf.floats; numbers = leaf.numbers })
    (record { number = (refusal cells n n false 0 0).number; answer = answer; out = out; floats = floats; numbers = numbers })
