-- The grouping called from C. What it returns stands in the lent list `answer`, four numbers, of which the first is the value too. `answer` is no output list: a
-- refusal that keeps every list writes it. Definitions only.
use Rattle.std.specs.Prelude.{ℕ, cond, List, [], ◌∷◌, eqb, length}
use Rattle.refusals.specs.Table.{Refusal}
use Rattle.onc_run.specs.Run.{Lists, Outcome}

-- the value, and each list after the call
pub record GroupingReport : Type 0 where
  pub number : ℕ
  pub answer : List ℕ
  pub lists : Lists

-- The number, the place, the groups and the draws read, in `answer`. If that has another length than 4 there is no place for what is returned: the call is
-- refused by `q`, which is 6, for a list of wrong length, or a row above it; `answer` and every list are as they were.
unfoldable pub grouping_reported : Refusal → Outcome → List ℕ → Lists → GroupingReport
grouping_reported q o answer l =
    cond (eqb (length answer) 4)
    (record { number = o.answer.refused.number; answer = o.answer.refused.number ∷ o.answer.refused.place ∷ o.answer.groups ∷ o.answer.read ∷ []; lists = o.lists })
    (record { number = q.number; answer = answer; lists = l })
