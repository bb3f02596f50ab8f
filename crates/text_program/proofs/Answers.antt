-- What a call of the grouping answers and leaves is what is printed of the book. Assumes nothing.
use Prim.Native.Nat.{ℕ, ◌*◌, ◌≤◌}
use mathlib.Core.Path.{◌≡◌, refl, sym, ◌∙◌, ap, subst}
use mathlib.Core.Bool.{Bool, true, false}
use mathlib.Core.List.{List}
use native.Mathlib.Omega.{arith}
use native.Mathlib.Nat.{mul-le-mul}
use borrow.Author.Tests.{eq-eqb, eqb-true, le-leb}
use lib.Dec.{T, eqb}
use lib.ListN.{length}
use lib.Ieee.{Float, of_bits, binary64}
use Rattle.lists.specs.Lists.{listed}
use Rattle.lists.specs.Sums.{zero64}
use Rattle.refusals.specs.Table.{Refusal, work_doubles, work_numbers}
use Rattle.draws.specs.declared.Stop.{Stop}
use Rattle.draws.specs.declared.Stop.TheVariants.{Rounds, Short, DrawOutOfRange, ClusteringFailed}
use Rattle.draws.specs.Stops.{stop_number}
use Rattle.partition.specs.Partition.{label_of}
use Rattle.partition.specs.Orders.{cut, Sized}
use Rattle.partition.proofs.Cuts.{cut_joined, groups_few, partition_length, sized_of}
use Rattle.round.specs.Round.{Run, done, ended}
use Rattle.round.proofs.Runs.{Whole}
use Rattle.std.specs.Prelude.{Err, Ok, Result}
use Rattle.onc_answers.specs.declared.Grouped.{Grouped}
use Rattle.onc_answers.specs.declared.OncError.{OncError}
use Rattle.onc_answers.specs.declared.OncError.TheVariants.{InvalidRepeat, InvalidCorrelationMatrix, TooLarge, CellCount, ListLength, Stopped}
use Rattle.onc_answers.specs.Answers.{error_number, number_of, place_of, groups_of, answer_of}
use Rattle.onc_checks.specs.Checks.{shape_of}
use Rattle.onc_run.specs.Run.{Lists, Outcome, run_of, ran}
use Rattle.onc.specs.Onc.{shape, group_of}
use Rattle.onc.proofs.Shapes.{shape_within}
use Rattle.onc.proofs.Calls.{by_call}
use Rattle.onc_run.proofs.Runs.{run_whole}
use Rattle.text_answer.specs.Answer.{grouped_text, refused_text}
use Rattle.text_program.specs.Program.{run_text, book_text}
use Rattle.text_program.specs.Claim.{outcome_text, lent_for}

-- the lists that `group_with` is lent have the lengths for n names
pub record Lent (n : ℕ) (book : List Float) (l : Lists) : Type 0 where
  pub few : n ≤ 12
  pub square : length book ≡ n * n
  pub order_long : length l.order ≡ n
  pub sizes_long : length l.sizes ≡ n
  pub scores_long : length l.scores ≡ n
  pub ordered_long : length l.ordered ≡ n * n
  pub floats_long : 4224 ≤ length l.floats
  pub numbers_long : 3840 ≤ length l.numbers

-- a grouping, as it is printed
pub record Told (n repeats : ℕ) (book : List Float) (draws : List ℕ) (o : Outcome) : Type 0 where
  pub long : length o.lists.order ≡ n
  pub scored : length o.lists.scores ≡ n
  pub sized : Sized n o.answer.groups o.lists.order o.lists.sizes
  pub text : grouped_text o.answer.groups o.answer.read (listed (label_of (cut o.answer.groups o.lists.sizes o.lists.order)) n) o.lists.scores
      ≡ book_text n repeats book draws

square_most : (n : ℕ) → n ≤ 12 → n * n ≤ 144
square_most n h = mul-le-mul h h

no_stop : (q : Stop) → stop_number q ≡ 0 → ⊥
no_stop Rounds h = omega arith
no_stop (Short k) h = omega arith
no_stop (DrawOutOfRange p) h = omega arith
no_stop ClusteringFailed h = omega arith

no_error : (e : OncError) → error_number e ≡ 0 → ⊥
no_error InvalidRepeat h = omega arith
no_error InvalidCorrelationMatrix h = omega arith
no_error TooLarge h = omega arith
no_error CellCount h = omega arith
no_error ListLength h = omega arith
no_error (Stopped s) h = no_stop s h

-- the lengths are those that the call asks for
lent_fits : (n : ℕ) (book : List Float) (l : Lists) → Lent n book l → lent_for n l ≡ true
lent_fits n book l lent =
    rw (
      lent.order_long,
      lent.sizes_long,
      lent.scores_long,
      lent.ordered_long,
      eq-eqb n n refl,
      eq-eqb (n * n) (n * n) refl,
      le-leb (work_doubles n) (length l.floats) (omega (arith, lent.floats_long, lent.few, square_most n lent.few)),
      le-leb (work_numbers n) (length l.numbers) (omega (arith, lent.numbers_long, lent.few)),
    )

module _ (n repeats : ℕ) (book : List Float) (draws : List ℕ) (l : Lists) (fits : lent_for n l ≡ true) where
  -- the refusal before the run
  shape_is : shape book n n repeats l ≡ shape_of repeats n n (length book) true
  shape_is = ap (shape_of repeats n n (length book)) fits

  number_is : (shape book n n repeats l).number ≡ (shape_of repeats n n (length book) true).number
  number_is = ap (λ (q : Refusal). q.number) shape_is

  run_text_lem : eqb (shape book n n repeats l).number 0 ≡ true → run_text n (run_of book n repeats draws) ≡ book_text n repeats book draws
  unfolding book_text
  run_text_lem e = rw (ap (λ (k : ℕ). eqb k 0) (sym number_is) ∙ e)

  shape_text : eqb (shape book n n repeats l).number 0 ≡ false
      → refused_text (shape book n n repeats l).number (shape book n n repeats l).place ≡ book_text n repeats book draws
  unfolding book_text
  shape_text e =
      ap (λ (q : Refusal). refused_text q.number q.place) shape_is
      ∙ rw (ap (λ (k : ℕ). eqb k 0) (sym number_is) ∙ e)

  -- a run that ends in a refusal
  ended_text : (r : Run) → run_text n r ≡ book_text n repeats book draws → ((ran book n r l).answer.refused.number ≡ 0 → ⊥)
      → refused_text (ran book n r l).answer.refused.number (ran book n r l).answer.refused.place ≡ book_text n repeats book draws
  ended_text (done s ms read rest) t h = absurd (h refl)
  ended_text (ended q ms) t h = t

  abbrev Refuses : Outcome → Type 0
  Refuses o = (o.answer.refused.number ≡ 0 → ⊥) → refused_text o.answer.refused.number o.answer.refused.place ≡ book_text n repeats book draws

  refuses : Refuses (group_of book n n repeats draws l)
  refuses = by_call book n n repeats draws l Refuses (λ e. ended_text (run_of book n repeats draws) (run_text_lem e)) (λ e h. shape_text e)

  -- and one that ends in a grouping
  done_told : n ≤ 256 → (r : Run) → Whole n r → run_text n r ≡ book_text n repeats book draws → (ran book n r l).answer.refused.number ≡ 0
      → Told n repeats book draws (ran book n r l)
  done_told few (done s ms read rest) w t h =
      record {
        long = partition_length w.0;
        scored = w.1;
        sized = sized_of w.0 few;
        text = rw (cut_joined s.groups n (groups_few w.0)) t;
      }
  done_told few (ended q ms) w t h = absurd (no_stop q h)

  abbrev Groups : Outcome → Type 0
  Groups o = o.answer.refused.number ≡ 0 → Told n repeats book draws o

  groups : Groups (group_of book n n repeats draws l)
  groups =
      by_call book n n repeats draws l Groups
      (λ e. let w = (shape_within book n n repeats l e).1 in done_told w.limits.few (run_of book n repeats draws) (run_whole book n repeats draws w.limits.two) (run_text_lem e))
      (λ e h. absurd (subst T (sym (eq-eqb _ 0 h) ∙ e) tt))

  -- what is printed of a book is the text of the call
  by_number : (t : Bool) (o : Outcome) → eqb o.answer.refused.number 0 ≡ t → Refuses o → Groups o → book_text n repeats book draws ≡ outcome_text n o
  by_number true o e r g = sym (rw e (g (eqb-true _ 0 e)).text)
  by_number false o e r g = sym (rw e (r (λ z. absurd (subst T (sym (eq-eqb _ 0 z) ∙ e) tt))))

  pub called : book_text n repeats book draws ≡ outcome_text n (group_of book n n repeats draws l)
  called = by_number _ (group_of book n n repeats draws l) refl refuses groups

-- the same of a call's answer and the lists that it leaves
module _ (n repeats : ℕ) (book : List Float) (draws : List ℕ) (l : Lists) (a : Result Grouped OncError) {l' : Lists}
    (is : record { answer = answer_of a; lists = l' } ≡ group_of book n n repeats draws l) (lent : Lent n book l) where
  fits : lent_for n l ≡ true
  fits = lent_fits n book l lent

  pub refused_text_lem : {number place : ℕ} {e : OncError} → number ≡ number_of a → place ≡ place_of a → a ≡ Err e → refused_text number place ≡ book_text n repeats book draws
  refused_text_lem {number} {place} {e} f p i =
      rw (f, p) (subst (Refuses n repeats book draws l fits) (sym is) (refuses n repeats book draws l fits) (λ z. no_error e (sym (ap number_of i) ∙ z)))

  told : (g : Grouped) → a ≡ Ok g → Told n repeats book draws (record { answer = answer_of a; lists = l' })
  told g i = subst (Groups n repeats book draws l fits) (sym is) (groups n repeats book draws l fits) (ap number_of i)

  -- what `write_groups` asks, and what it then writes
  pub told_asks : {g : Grouped} → a ≡ Ok g
      → (length l'.order ≤ 12) × Sized (length l'.order) g.groups l'.order l'.sizes × (length l'.scores ≡ length l'.order)
  told_asks {g} i =
      let t = told g i in
      let few : length l'.order ≤ 12 = omega (arith, t.long, lent.few) in (few, rw (t.long, ← ap groups_of i) t.sized, rw t.long t.scored)

  pub told_text : {g : Grouped} → a ≡ Ok g
      → grouped_text g.groups g.draws (listed (label_of (cut g.groups l'.sizes l'.order)) (length l'.order)) l'.scores ≡ book_text n repeats book draws
  told_text {g} i = let t = told g i in rw t.long (rw i at t.text)

-- what is asked of the lists that `group_with` is lent
pub lent_by : (n : ℕ) (book : List Float) (l : Lists)
    → (n ≤ 12) × (length book ≡ n * n) × (length l.order ≡ n) × (length l.sizes ≡ n) × (length l.scores ≡ n) × (length l.ordered ≡ n * n)
    × (4224 ≤ length l.floats) × (3840 ≤ length l.numbers)
    → Lent n book l
lent_by n book l p =
    record {
      few = p.0;
      square = p.1;
      order_long = p.2;
      sizes_long = p.3;
      scores_long = p.4;
      ordered_long = p.5;
      floats_long = p.6;
      numbers_long = p.7;
    }

-- +0 as it is written
pub zero_literal : of_bits binary64 0 ≡ zero64
unfolding of_bits
zero_literal = refl
