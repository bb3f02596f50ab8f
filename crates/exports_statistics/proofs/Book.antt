-- The answer of the check of a book in a list of two numbers.
use Prim.Native.Nat.{ℕ}
use mathlib.Core.Path.{◌≡◌, refl, ap}
use mathlib.Core.Bool.{true, false, cond}
use mathlib.Core.List.{List, [], ◌∷◌}
use borrow.Author.Tests.{eq-eqb}
use lib.Dec.{eqb}
use lib.ListN.{length}
use Rattle.lists.proofs.Tests.{impossible}
use Rattle.refusals.specs.Table.{Refusal, refused}
use Rattle.refusals.proofs.Laws.{accepted, unless_none}
use Rattle.intake_answers.specs.Answers.{Intake, number_of, place_of, refusal_of}
use Rattle.exports_reports.proofs.Written.{places_are, refused_as}
use Rattle.exports_reports.specs.Book.{book_shape, book_reported}

-- a list that does not fit is refused, so the list for the answer has two places where the call is not refused
not_none : (rows cols cells : ℕ) → eqb (book_shape rows cols cells).number 0 ≡ true → ⊥
unfolding book_shape
not_none rows cols cells h =
    let a = unless_none _ (refused 2) _ refl h in
    impossible (accepted cells rows rows false 0 0 a.1).fitting

pub two_places : (rows cols cells places : ℕ) {r : ℕ} → r ≡ cond (eqb places 2) 0 (book_shape rows cols cells).number → r ≡ 0 → places ≡ 2
two_places rows cols cells places e z = places_are 2 places (λ q. not_none rows cols cells (ap (λ (x : ℕ). eqb x 0) q)) e z

module _ (shape intake : Refusal) (answer : List ℕ) where
  pub book_reported_lem : (a : Intake) {r n p : ℕ} {answer' : List ℕ} → length answer ≡ 2 → refusal_of a ≡ intake → n ≡ number_of a → p ≡ place_of a → r ≡ n → answer' ≡ n ∷ p ∷ []
      → record { number = r; answer = answer' } ≡ book_reported shape intake answer
  unfolding book_reported
  book_reported_lem a h e f g k l = rw (eq-eqb (length answer) 2 h, ← e, k, l, f, g)

  pub book_refused_as : {r : ℕ} → r ≡ cond (eqb (length answer) 2) 0 shape.number → (r ≡ 0 → ⊥) → record { number = r; answer = answer } ≡ book_reported shape intake answer
  unfolding book_reported
  book_refused_as e h = refused_as (eqb (length answer) 2) shape.number _ (λ n. record { number = n; answer = answer }) e h
