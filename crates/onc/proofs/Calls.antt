-- A call by case: refused before the run, or what the run gives. Demand 1, and what the check of a call tells.
use Prim.Native.Nat.{ℕ, ◌*◌, ◌≤◌}
use mathlib.Core.Path.{◌≡◌, refl, sym, ◌∙◌, ap, subst}
use mathlib.Core.Bool.{Bool, true, false}
use mathlib.Core.List.{List}
use borrow.Author.Tests.{eq-eqb, ne_eqb}
use native.Mathlib.Omega.{arith}
use lib.Dec.{eqb}
use lib.ListN.{length}
use lib.Ieee.{Float}
use Rattle.refusals.specs.Table.{Refusal}
use Rattle.draws.specs.declared.Stop.{Stop}
use Rattle.draws.specs.declared.Stop.TheVariants.{Rounds, Short, DrawOutOfRange, ClusteringFailed}
use Rattle.draws.specs.Stops.{stop_number}
use Rattle.partition.specs.Partition.{has}
use Rattle.round.specs.Round.{Run, done, ended, round_of}
use Rattle.certain_runs.specs.Certain.{CertainRun}
use Rattle.certain_runs.proofs.Runs.{rounds}
use Rattle.onc_run.proofs.Runs.{all, all_length}
use Rattle.std.specs.Prelude.{⊤, Result, Ok, Err}
use Rattle.onc_answers.specs.declared.OncError.{OncError}
use Rattle.onc_answers.specs.declared.OncError.TheVariants.{InvalidRepeat, InvalidCorrelationMatrix, TooLarge, CellCount, ListLength, Stopped}
use Rattle.onc_answers.specs.Answers.{answer_of, refusal_of, error_number, refusing}
use Rattle.onc_checks.specs.Checks.{lists_fit, shape_of}
use Rattle.onc_run.specs.Run.{Lists, Outcome, Limits, run_of, ran}
use Rattle.onc.specs.Onc.{shape, group_of}
use Rattle.onc.specs.Demands.{Within, Demand1, grouping, not_started, not_ended}
use Rattle.onc.proofs.Shapes.{shape_cause, shape_place, shape_within, within_shape, shape_asked}

module _ (book : List Float) (rows cols repeat : ℕ) (draws : List ℕ) (l : Lists) where
  -- no refusal before the run
  pub call_ran : eqb (shape book rows cols repeat l).number 0 ≡ true → group_of book rows cols repeat draws l ≡ ran book rows (run_of book rows repeat draws) l
  unfolding group_of
  call_ran e = rw e

  -- a refusal before it
  pub call_refused : eqb (shape book rows cols repeat l).number 0 ≡ false
      → group_of book rows cols repeat draws l ≡ record { answer = refusing (shape book rows cols repeat l); lists = l }
  unfolding group_of
  call_refused e = rw e

  -- what holds in both cases
  pub by_call : (P : Outcome → Type 0) → (eqb (shape book rows cols repeat l).number 0 ≡ true → P (ran book rows (run_of book rows repeat draws) l))
      → (eqb (shape book rows cols repeat l).number 0 ≡ false → P (record { answer = refusing (shape book rows cols repeat l); lists = l }))
      → P (group_of book rows cols repeat draws l)
  by_call P run stop = by_test (eqb (shape book rows cols repeat l).number 0) refl
    where
      by_test : (t : Bool) → eqb (shape book rows cols repeat l).number 0 ≡ t → P (group_of book rows cols repeat draws l)
      by_test true e = subst P (sym (call_ran e)) (run e)
      by_test false e = subst P (sym (call_refused e)) (stop e)

-- within the limits the run is made
pub within_ran : (book : List Float) (n repeat : ℕ) (draws : List ℕ) (l : Lists) → Within book n repeat l
    → group_of book n n repeat draws l ≡ ran book n (run_of book n repeat draws) l
within_ran book n repeat draws l w =
    call_ran book n n repeat draws l (ap (λ (q : Refusal). eqb q.number 0) (within_shape book n repeat l w))

-- what is certain of a run, and so of that of a call within the limits
pub run_certain : (book : List Float) (n repeat : ℕ) (draws : List ℕ) → 2 ≤ n → n ≤ 256 → 1 ≤ repeat → CertainRun n (run_of book n repeat draws)
unfolding run_of
run_certain book n repeat draws two few some =
    let long : length (all n) ≡ n = all_length n in
    subst (λ (k : ℕ). CertainRun k (round_of book n repeat 32 (all n) 0 draws)) long
    (rounds.certain book n repeat 32 some (all n) 0 draws (subst (λ (k : ℕ). 2 ≤ k) (sym long) two) (subst (λ (k : ℕ). k ≤ 256) (sym long) few))

pub within_certain : (book : List Float) (n repeat : ℕ) (draws : List ℕ) {l : Lists} → Within book n repeat l → CertainRun n (run_of book n repeat draws)
within_certain book n repeat draws w = run_certain book n repeat draws w.limits.two w.limits.few w.limits.some

-- Demand 1 of what a run gives
module _ (book : List Float) (rows cols repeat : ℕ) (l : Lists) (square : rows ≡ cols) (w : Within book rows repeat l) where
  ran_first : (r : Run) → CertainRun rows r → Demand1 book rows cols repeat (ran book rows r l) l
  unfolding has
  ran_first (done s ms read rest) c = grouping square w refl (record { floats = refl; numbers = refl })
  ran_first (ended Rounds ms) c = not_ended square w refl refl refl (record { floats = refl; numbers = refl })
  ran_first (ended (Short k) ms) c = not_ended square w refl refl refl (record { floats = refl; numbers = refl })
  ran_first (ended (DrawOutOfRange p) ms) c = not_ended square w refl refl refl (record { floats = refl; numbers = refl })
  ran_first (ended ClusteringFailed ms) c = absurd (c refl)

-- a refusal with the place 0
at_zero : (q : Refusal) → q.place ≡ 0 → refusing q ≡ refusing (record { number = q.number; place = 0 })
at_zero q e = ap (λ (p : ℕ). refusing (record { number = q.number; place = p })) e

pub first : (book : List Float) (rows cols repeat : ℕ) (draws : List ℕ) (l : Lists) → Demand1 book rows cols repeat (group_of book rows cols repeat draws l) l
first book rows cols repeat draws l =
    by_call book rows cols repeat draws l (λ (o : Outcome). Demand1 book rows cols repeat o l)
    (λ e. let h = shape_within book rows cols repeat l e in
    ran_first book rows cols repeat l h.0 h.1 (run_of book rows repeat draws) (within_certain book rows repeat draws h.1))
    (λ e. not_started (shape_cause book rows cols repeat l e) (at_zero (shape book rows cols repeat l) (shape_place book rows cols repeat l)) refl)

-- no error has the number 0
stop_some : (s : Stop) → stop_number s ≡ 0 → ⊥
stop_some Rounds h = omega arith
stop_some (Short k) h = omega arith
stop_some (DrawOutOfRange p) h = omega arith
stop_some ClusteringFailed h = omega arith

error_some : (e : OncError) → error_number e ≡ 0 → ⊥
error_some InvalidRepeat h = omega arith
error_some InvalidCorrelationMatrix h = omega arith
error_some TooLarge h = omega arith
error_some CellCount h = omega arith
error_some ListLength h = omega arith
error_some (Stopped s) h = stop_some s h

-- what the check of a call answers is the refusal before the run, though whether the lists fit is known of at most 256 names alone
module _ (book : List Float) (rows cols repeat : ℕ) (draws : List ℕ) (l : Lists) (asked : Result ⊤ OncError) (fits : Bool)
    (fit : rows ≤ 256 → fits ≡ lists_fit rows (length l.order) (length l.sizes) (length l.scores) (length l.ordered) (length l.floats) (length l.numbers))
    (is : refusal_of asked ≡ shape_of repeat rows cols (length book) fits) where
  asked_is : refusal_of asked ≡ shape book rows cols repeat l
  asked_is = is ∙ shape_asked repeat rows cols (length book) fits _ fit

  pub asked_none : (u : ⊤) → asked ≡ Ok u → eqb (shape book rows cols repeat l).number 0 ≡ true
  asked_none u e = eq-eqb (shape book rows cols repeat l).number 0 (sym (ap (λ (q : Refusal). q.number) asked_is) ∙ ap (λ (a : Result ⊤ OncError). (refusal_of a).number) e)

  -- a refusal keeps every list
  pub asked_kept : (e : OncError) → asked ≡ Err e → ◌≡◌ {A = Outcome} (record { answer = answer_of (Err e); lists = l }) (group_of book rows cols repeat draws l)
  asked_kept e h =
      let q : refusal_of (Err e) ≡ shape book rows cols repeat l = ap refusal_of (sym h) ∙ asked_is in
      ap (λ (r : Refusal). record { answer = refusing r; lists = l }) q
      ∙ sym (call_refused book rows cols repeat draws l (ne_eqb (shape book rows cols repeat l).number 0 (λ z. error_some e (ap (λ (r : Refusal). r.number) q ∙ z))))

  -- and without one the run may start
  pub asked_fair : (u : ⊤) → asked ≡ Ok u
      → Limits book rows repeat (length l.order) (length l.sizes) (length l.scores) (length l.floats) (length l.numbers) × (length l.ordered ≡ rows * rows)
  asked_fair u e = let w = (shape_within book rows cols repeat l (asked_none u e)).1 in (w.limits, w.ordered_long)

  pub asked_ran : (u : ⊤) → asked ≡ Ok u → {o : Outcome} → o ≡ ran book rows (run_of book rows repeat draws) l → o ≡ group_of book rows cols repeat draws l
  asked_ran u e h = h ∙ sym (call_ran book rows cols repeat draws l (asked_none u e))
