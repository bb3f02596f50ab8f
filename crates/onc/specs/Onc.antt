-- The grouping of a book: what a call answers, and what it leaves in every list that it was lent. A book is a matrix of the correlations of n names, row
-- by row. Definitions only.
use Rattle.std.specs.Prelude.{ℕ, cond, List, eqb, length, Float}
use Rattle.refusals.specs.Table.{Refusal}
use Rattle.round.specs.Round.{Run}
use Rattle.round.specs.Made.{draws_from}
use Rattle.onc_answers.specs.Answers.{refusing}
use Rattle.onc_checks.specs.Checks.{lists_fit, shape_of}
use Rattle.onc_run.specs.Run.{Lists, Outcome, run_of, ran}

-- the refusals before the run
abbrev pub shape : (book : List Float) (rows cols repeat : ℕ) → Lists → Refusal
shape book rows cols repeat l =
    shape_of repeat rows cols (length book)
    (lists_fit rows (length l.order) (length l.sizes) (length l.scores) (length l.ordered) (length l.floats) (length l.numbers))

-- refused by the first row that keeps every list, or else what the run gives
abbrev pub decided : Refusal → List Float → ℕ → Run → Lists → Outcome
decided q book n r l = cond (eqb q.number 0) (ran book n r l) (record { answer = refusing q; lists = l })

unfoldable pub group_of : (book : List Float) (rows cols repeat : ℕ) (draws : List ℕ) → Lists → Outcome
group_of book rows cols repeat draws l = decided (shape book rows cols repeat l) book rows (run_of book rows repeat draws) l

-- the seed of a call that names none
abbrev pub default_seed : ℕ
default_seed = 42

-- The grouping with the draws that the generator of a seed gives along the run: each is the generator's next, by the rule for the kind that is then taken
-- (round/specs/Made.antt)
abbrev pub seeded_of : (book : List Float) (rows cols repeat seed : ℕ) → Lists → Outcome
seeded_of book rows cols repeat seed l = group_of book rows cols repeat (draws_from seed book rows repeat) l
