-- The answer of the grouping in a list of four numbers.
use Prim.Native.Nat.{ℕ}
use mathlib.Core.Path.{◌≡◌, refl, ap}
use mathlib.Core.Bool.{true, false, cond}
use mathlib.Core.List.{List, [], ◌∷◌}
use borrow.Author.Tests.{eq-eqb}
use lib.Dec.{eqb}
use lib.ListN.{length}
use Rattle.lists.proofs.Tests.{impossible}
use Rattle.refusals.specs.Table.{Refusal, refused}
use Rattle.refusals.proofs.Laws.{accepted, when_none, unless_none}
use Rattle.std.proofs.Common.{Result}
use Rattle.onc_answers.specs.declared.Grouped.{Grouped}
use Rattle.onc_answers.specs.declared.OncError.{OncError}
use Rattle.onc_answers.specs.Answers.{number_of, place_of, groups_of, read_of, answer_of}
use Rattle.onc_checks.specs.Checks.{shape_of}
use Rattle.onc_run.specs.Run.{Lists, Outcome}
use Rattle.exports_reports.proofs.Written.{places_are, refused_as}
use Rattle.exports.specs.Grouping.{grouping_reported}

-- a list that does not fit is refused, so the list for the answer has four places where the call is not refused
not_none : (repeat rows cols cells : ℕ) → eqb (shape_of repeat rows cols cells false).number 0 ≡ true → ⊥
unfolding shape_of
not_none repeat rows cols cells h =
    let a = when_none _ (refused 1) _ refl h in
    let b = unless_none _ (refused 2) _ refl a.1 in
    let c = when_none _ (refused 2) _ refl b.1 in
    let d = when_none _ (refused 4) _ refl c.1 in
    impossible (accepted cells rows rows false 0 0 d.1).fitting

pub four_places : (repeat rows cols cells places : ℕ) {r : ℕ} → r ≡ cond (eqb places 4) 0 (shape_of repeat rows cols cells false).number → r ≡ 0 → places ≡ 4
four_places repeat rows cols cells places e z = places_are 4 places (λ q. not_none repeat rows cols cells (ap (λ (x : ℕ). eqb x 0) q)) e z

module _ (q : Refusal) (o : Outcome) (answer : List ℕ) (l : Lists) where
  pub grouping_reported_lem : (a : Result Grouped OncError) {r : ℕ} {answer' : List ℕ} {l' : Lists} → length answer ≡ 4 → record { answer = answer_of a; lists = l' } ≡ o → r ≡ number_of a
      → answer' ≡ number_of a ∷ place_of a ∷ groups_of a ∷ read_of a ∷ [] → record { number = r; answer = answer'; lists = l' } ≡ grouping_reported q o answer l
  unfolding grouping_reported
  grouping_reported_lem a h e f g = rw (eq-eqb (length answer) 4 h, ← e, f, g)

  pub grouping_refused_as : {r : ℕ} → r ≡ cond (eqb (length answer) 4) 0 q.number → (r ≡ 0 → ⊥) → record { number = r; answer = answer; lists = l } ≡ grouping_reported q o answer l
  unfolding grouping_reported
  grouping_refused_as e h = refused_as (eqb (length answer) 4) q.number _ (λ n. record { number = n; answer = answer; lists = l }) e h
