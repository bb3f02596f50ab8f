-- What the number of a book's shape says. Assumes nothing.
use Prim.Native.Nat.{ℕ, ◌*◌, ◌≤◌}
use mathlib.Core.Path.{◌≡◌, refl, sym, ap, ◌∙◌}
use mathlib.Core.Bool.{Bool, true, false}
use mathlib.Core.List.{List}
use native.Mathlib.Omega.{arith}
use borrow.Author.Tests.{eq-eqb, ne_eqb}
use lib.Dec.{ltb}
use lib.IntN.{ℤ}
use lib.ListN.{length}
use mathlib.Core.Logic.{by_cases}
use native.Mathlib.Decide.{ℕ_discrete}
use Rattle.std.proofs.Common.{Ok, Err}
use Rattle.std.specs.Result.{MatchResult, IsErrAnd}
use Rattle.refusals.specs.Table.{refusal_of as shapeRefusalOf, Answer, number_of, Refusal, none, refused, whenever, unless, refusal, or_else}
use Rattle.refusals.proofs.Laws.{accepted, err_number, unless_none}
use Rattle.intake_answers.specs.declared.IntakeError.{IntakeError}
use Rattle.intake_answers.specs.Answers.{Intake, refusal_of}
use Rattle.intake.specs.Intake.{fault_of, shape_of, shape_number, intake_of}

-- what holds of both refusals holds of the row that has them
module _ (P : Refusal → Type 0) (q below : Refusal) (p : P q) (b : P below) where
  either_when : (test : Bool) → P (whenever test q below)
  unfolding whenever
  either_when true = p
  either_when false = b

  either_unless : (test : Bool) → P (unless test q below)
  unfolding unless
  either_unless true = b
  either_unless false = p

-- a refusal that names no place, and whose number is 5 where it is not 0, 2 or 4
record Plain (q : Refusal) : Type 0 where
  placeless : q ≡ refused q.number
  five : (q.number ≡ 0 → ⊥) → (q.number ≡ 2 → ⊥) → (q.number ≡ 4 → ⊥) → q.number ≡ 5

plain_2 : Plain (refused 2)
plain_2 = record { placeless = refl; five = λ a b c. absurd (b refl) }

plain_4 : Plain (refused 4)
plain_4 = record { placeless = refl; five = λ a b c. absurd (c refl) }

plain_5 : Plain (refused 5)
plain_5 = record { placeless = refl; five = λ a b c. refl }

plain_none : Plain (unless true (refused 6) (whenever (ltb 0 0) (refused 10) none))
unfolding unless whenever
plain_none = record { placeless = refl; five = λ a b c. absurd (a refl) }

-- the shape of a book is one
shape_plain : (rows cols cells : ℕ) → Plain (shape_of rows cols cells true)
unfolding refusal
shape_plain rows cols cells =
    either_unless Plain _ _ plain_2 (either_when Plain _ _ plain_2 (either_when Plain _ _ plain_4 (either_unless Plain _ _ plain_5 plain_none _) _) _) _

-- the rows above decide, or those below
above : (q below : Refusal) {k : ℕ} → q ≡ refused q.number → q.number ≡ k → (k ≡ 0 → ⊥) → refused k ≡ or_else q below
unfolding or_else
above q below p e h = rw (ne_eqb q.number 0 (λ z. h (sym e ∙ z))) (ap refused (sym e) ∙ sym p)

below_all : (q below : Refusal) → q.number ≡ 0 → below ≡ or_else q below
unfolding or_else
below_all q below e = rw (eq-eqb q.number 0 e)

module _ (cells : List ℤ) (rows cols : ℕ) where
  pub shape_refuses : {k : ℕ} → (shape_of rows cols (length cells) true).number ≡ k → (k ≡ 0 → ⊥) → refused k ≡ intake_of cells rows cols
  unfolding intake_of
  shape_refuses e h = above (shape_of rows cols (length cells) true) (fault_of cells rows) (shape_plain rows cols (length cells)).placeless e h

  pub shape_fifth : {k : ℕ} → (shape_of rows cols (length cells) true).number ≡ k → (k ≡ 0 → ⊥) → (k ≡ 2 → ⊥) → (k ≡ 4 → ⊥) → refused 5 ≡ intake_of cells rows cols
  shape_fifth e a b c =
      shape_refuses ((shape_plain rows cols (length cells)).five (λ z. a (sym e ∙ z)) (λ z. b (sym e ∙ z)) (λ z. c (sym e ∙ z))) (λ z. omega (arith, z))

  pub shape_passes : (shape_of rows cols (length cells) true).number ≡ 0 → {q : Refusal} → q ≡ fault_of cells rows → q ≡ intake_of cells rows cols
  unfolding intake_of
  shape_passes e h = h ∙ below_all (shape_of rows cols (length cells) true) (fault_of cells rows) e

  pub shape_fits : (shape_of rows cols (length cells) true).number ≡ 0 → (rows ≤ 256) × (length cells ≡ rows * rows)
  shape_fits e =
      let a = unless_none _ (refused 2) _ refl (eq-eqb _ 0 e) in
      let b = accepted (length cells) rows rows true 0 0 a.1 in
      (b.few, b.square)

-- the number of an error is the shape's
shape_kept : (q : Refusal) → Plain q → (q.number ≡ 0 → ⊥) → shape_number q.number ≡ q.number
unfolding shape_number
shape_kept q p z =
    by_cases (ℕ_discrete q.number 2)
    (λ e. rw e)
    (λ f. by_cases (ℕ_discrete q.number 4) (λ e. rw e) (λ g. rw (ne_eqb q.number 2 f, ne_eqb q.number 4 g) (sym (p.five z f g))))

-- what `map_err` makes of the shape's answer a
abbrev pub Mapped : Answer → Intake → Type 0
Mapped a m = MatchResult a (λ x. m ≡ Ok x) (λ k. IsErrAnd m (λ d. refusal_of (Err d) ≡ refused (shape_number (number_of (Err k)))))

module _ (cells : List ℤ) (rows cols : ℕ) where
  pub shape_ok : (a : Answer) (m : Intake) → shapeRefusalOf a ≡ shape_of rows cols (length cells) true → Mapped a m → {x : Unit {0}} → m ≡ Ok x
      → (shape_of rows cols (length cells) true).number ≡ 0
  shape_ok (Ok y) m is h e = ap (λ (q : Refusal). q.number) (sym is)
  shape_ok (Err k) (Ok x) is h e = absurd h
  shape_ok (Err k) (Err f) is h e = absurd (cc)

  pub shape_err : (a : Answer) (m : Intake) → shapeRefusalOf a ≡ shape_of rows cols (length cells) true → Mapped a m → {d : IntakeError} → m ≡ Err d
      → refusal_of (Err d) ≡ intake_of cells rows cols
  shape_err (Ok y) m is h e = absurd (cc)
  shape_err (Err k) (Ok x) is h e = absurd h
  shape_err (Err k) (Err f) is h e =
      let n = ap (λ (q : Refusal). q.number) (sym is) in
      let z = λ (w : (shape_of rows cols (length cells) true).number ≡ 0). err_number k (sym n ∙ w) in
      ap refusal_of (sym e) ∙ h ∙ ap (λ (i : ℕ). refused (shape_number i)) (sym n)
      ∙ ap refused (shape_kept (shape_of rows cols (length cells) true) (shape_plain rows cols (length cells)) z) ∙ shape_refuses cells rows cols refl z
