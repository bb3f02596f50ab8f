-- The check of a book called from C. What it returns stands in the lent list `answer`, two numbers, of which the first is the value too; the call has no
-- output list. Definitions only.
use Rattle.std.specs.Prelude.{ℕ, false, cond, List, [], ◌∷◌, eqb, length}
use Rattle.refusals.specs.Table.{Refusal}
use Rattle.intake.specs.Intake.{shape_of}

-- the value, and the list after the call
pub record BookReport : Type 0 where
  pub number : ℕ
  pub answer : List ℕ

-- `answer` of wrong length: 6, or 2, 4 or 5 by the book's shape, which come first
unfoldable pub book_shape : ℕ → ℕ → ℕ → Refusal
book_shape rows cols cells = shape_of rows cols cells false

-- The number and the place of `intake`, in `answer`. If that has another length than 2 there is no place for what is returned: the call is
-- refused by `shape`, ahead of 21, 22 and 23, and `answer` is as it was.
unfoldable pub book_reported : Refusal → Refusal → List ℕ → BookReport
book_reported shape intake answer =
    cond (eqb (length answer) 2)
    (record { number = intake.number; answer = intake.number ∷ intake.place ∷ [] })
    (record { number = shape.number; answer = answer })
