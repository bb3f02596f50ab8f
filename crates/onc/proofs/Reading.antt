-- Demand 3: what a call reads of its draws.
use Prim.Native.Nat.{ℕ, suc, ◌*◌, ◌≤◌}
use mathlib.Core.Path.{◌≡◌, refl, sym, ◌∙◌, ap, subst}
use mathlib.Core.Bool.{true, false}
use mathlib.Core.List.{List, [], ◌∷◌}
use native.Mathlib.Omega.{arith}
use borrow.Author.Tests.{eq-eqb}
use lib.Dec.{eqb}
use lib.ListN.{length, take, drop}
use lib.Ieee.{Float}
use Rattle.lists.proofs.Tests.{impossible}
use Rattle.refusals.specs.Table.{Refusal}
use Rattle.draws.specs.Draws.{drawn}
use Rattle.draws.specs.declared.Stop.TheVariants.{Rounds, Short, DrawOutOfRange, ClusteringFailed}
use Rattle.draws.proofs.Claim.{count_claim}
use Rattle.partition.specs.Partition.{State}
use Rattle.candidates.specs.Candidates.{found}
use Rattle.round.specs.Round.{Run, done, ended, need_of, total_of}
use Rattle.round.proofs.Spends.{Spends, Few, draws_none, draws_more}
use Rattle.certain_runs.specs.Certain.{CertainRun}
use Rattle.onc_run.specs.Run.{Lists, Outcome, run_of, final_of, ran}
use Rattle.onc.specs.Onc.{shape, group_of}
use Rattle.onc.specs.Demands.{Cause, no_repeat, not_square, few_rows, many_rows, many_repeats, cell_count, list_length, outputs, labels_in, rounds_of, AsLong, SumOf, Counted, EndsBy, DrawsRead, Tells, Demand3}
use Rattle.onc.proofs.Shapes.{shape_cause, shape_within, shape_same}
use Rattle.onc.proofs.Calls.{call_ran, by_call, within_ran, run_certain, within_certain}
use Rattle.onc_run.proofs.Runs.{all, all_length, run_spends}
use Rattle.onc.proofs.Groupings.{search_same, reached_same, meets_draw}
use Rattle.onc.proofs.Rounds.{in_range, MadeBy, run_made}
use Rattle.onc.proofs.Only.{one_run}

-- no refusal before the run has the number 0 or 7
not_seven : {book : List Float} {rows cols repeat : ℕ} {l : Lists} {k : ℕ} → Cause book rows cols repeat l k → k ≡ 7 → ⊥
not_seven (no_repeat h) e = omega arith
not_seven (not_square s h) e = omega arith
not_seven (few_rows s q h) e = omega arith
not_seven (many_rows s h) e = omega arith
not_seven (many_repeats s h) e = omega arith
not_seven (cell_count s h) e = omega arith
not_seven (list_length s q h) e = omega arith

not-zero : (k : ℕ) → eqb k 0 ≡ false → k ≡ 0 → ⊥
not-zero k h e = impossible (sym h ∙ eq-eqb k 0 e)

-- the draws of rounds of at most 256 items, as the sum of the demand
sum_is : (repeat m : ℕ) → m ≤ 256 → (ms : List ℕ) → Few m ms → SumOf repeat ms (total_of repeat ms)
sum_is repeat m few [] h ln whole = draws_none repeat
sum_is repeat m few (k ∷ ms) h ln whole =
    let l : k ≤ 256 = omega (arith, h 0 (omega arith)) in
    omega (arith, draws_more repeat k ms, ap (λ (c : ℕ). repeat * c) (count_claim.count ln whole k l), sum_is repeat m few ms (λ j g. h (suc j) (omega arith)) ln whole)

-- what a run takes of its draws, from its first round on
module _ (book : List Float) (rows repeat : ℕ) (draws : List ℕ) where
  ends_by : (r : Run) → CertainRun rows r → Spends book rows repeat 32 (all rows) 0 draws r → MadeBy book rows repeat draws [] (all rows) r → EndsBy book rows repeat draws r
  ends_by (done s ms read rest) c k h =
      let count : read ≡ total_of repeat ms = omega (arith, k.place) in (
        count,
        k.remain ∙ ap (λ (i : ℕ). drop i draws) (sym count),
        h,
        k.before,
        k.items,
        k.best,
        reached_same book rows repeat draws k.reached,
        k.rounds,
        search_same book rows repeat draws k.before k.items (drawn (found k.best) rest) k.cause,
        k.kept,
      )
  ends_by (ended Rounds ms) c k h = (k.count, k.items, reached_same book rows repeat draws k.reached)
  ends_by (ended (Short p) ms) c k h =
      let count : p ≡ total_of repeat ms = omega (arith, k.place) in (count, omega (arith, k.count), k.items, reached_same book rows repeat draws k.reached, omega (arith, count, k.short))
  ends_by (ended (DrawOutOfRange p) ms) c k h = meets_draw book rows repeat draws p ms k
  ends_by (ended ClusteringFailed ms) c k h = c refl

  few_rounds : (r : Run) → CertainRun rows r → Spends book rows repeat 32 (all rows) 0 draws r → length (rounds_of r) ≤ 32
  few_rounds (done s ms read rest) c k = k.count
  few_rounds (ended Rounds ms) c k = omega (arith, k.count)
  few_rounds (ended (Short p) ms) c k = omega (arith, k.count)
  few_rounds (ended (DrawOutOfRange p) ms) c k = k.count
  few_rounds (ended ClusteringFailed ms) c k = absurd (c refl)

  draws_there : (r : Run) → CertainRun rows r → Spends book rows repeat 32 (all rows) 0 draws r → total_of repeat (rounds_of r) ≤ length draws
  draws_there (done s ms read rest) c k = k.enough
  draws_there (ended Rounds ms) c k = k.enough
  draws_there (ended (Short p) ms) c k = k.enough
  draws_there (ended (DrawOutOfRange p) ms) c k = k.enough
  draws_there (ended ClusteringFailed ms) c k = absurd (c refl)

  -- what the run's end is told as
  run_tells : (l : Lists) (r : Run) → CertainRun rows r → Tells r (ran book rows r l).answer
  run_tells l (done s ms read rest) c = refl
  run_tells l (ended Rounds ms) c = refl
  run_tells l (ended (Short k) ms) c = refl
  run_tells l (ended (DrawOutOfRange p) ms) c = refl
  run_tells l (ended ClusteringFailed ms) c = c refl

  -- the place of 7
  of_short : rows ≤ 256 → (r : Run) → Spends book rows repeat 32 (all rows) 0 draws r → (final_of r).refused.number ≡ 7 → SumOf repeat (rounds_of r) (final_of r).refused.place
  of_short few (done s ms read rest) k h = let y : ⊥ = omega arith in absurd y
  of_short few (ended Rounds ms) k h = let y : ⊥ = omega arith in absurd y
  of_short few (ended (Short p) ms) k h = λ ln whole.
      let count : p ≡ total_of repeat ms = omega (arith, k.place) in
      count ∙ sum_is repeat (length (all rows)) (omega (arith, all_length rows)) ms k.few ln whole
  of_short few (ended (DrawOutOfRange p) ms) k h = let y : ⊥ = omega arith in absurd y
  of_short few (ended ClusteringFailed ms) k h = let y : ⊥ = omega arith in absurd y

  module _ (cols : ℕ) (l : Lists) (passed : eqb (shape book rows cols repeat l).number 0 ≡ true) where
    -- draws that begin alike, and other lists of the same lengths
    of_same : (s : State) (ms : List ℕ) (read : ℕ) (rest draws' rest' : List ℕ) (l' : Lists) → AsLong l l'
        → run_of book rows repeat draws ≡ done s ms read rest → run_of book rows repeat draws' ≡ done s ms read rest'
        → outputs (group_of book rows cols repeat draws' l') ≡ outputs (group_of book rows cols repeat draws l)
    of_same s ms read rest draws' rest' l' long e e' =
        let also : eqb (shape book rows cols repeat l').number 0 ≡ true = ap (λ (q : Refusal). eqb q.number 0) (shape_same book rows cols repeat l l' long) ∙ passed in
        let o : group_of book rows cols repeat draws l ≡ ran book rows (done s ms read rest) l =
        call_ran book rows cols repeat draws l passed ∙ ap (λ (r : Run). ran book rows r l) e in
        let o' : group_of book rows cols repeat draws' l' ≡ ran book rows (done s ms read rest') l' =
        call_ran book rows cols repeat draws' l' also ∙ ap (λ (r : Run). ran book rows r l') e' in
        ap outputs o' ∙ sym (ap outputs o)

    of_grouped : rows ≤ 256 → (r : Run) → run_of book rows repeat draws ≡ r → Spends book rows repeat 32 (all rows) 0 draws r → (final_of r).refused.number ≡ 0
        → Counted book rows cols repeat draws l (final_of r).read
    unfolding run_of
    of_grouped few (done s ms read rest) e k h =
        let count : read ≡ total_of repeat ms = omega (arith, k.place) in
        let need : need_of repeat (length (all rows)) ≡ need_of repeat rows = ap (need_of repeat) (all_length rows) in
        record {
          sum = subst (λ (r : Run). SumOf repeat (rounds_of r) read) (sym e)
              (λ ln whole. count ∙ sum_is repeat (length (all rows)) (omega (arith, all_length rows)) ms k.few ln whole);
          total = count ∙ ap (λ (r : Run). total_of repeat (rounds_of r)) (sym e);
          most = omega (arith, count, k.most, ap (λ (c : ℕ). 32 * c) need);
          there = omega (arith, count, k.enough);
          same = λ draws' l' long t.
              let t' : take (total_of repeat ms) draws' ≡ take (total_of repeat ms) draws = subst (λ (c : ℕ). take c draws' ≡ take c draws) count t in
              of_same s ms read rest draws' (drop (total_of repeat ms) draws') l' long e (k.same draws' t');
          same_labels = λ draws' l' long t.
              let t' : take (total_of repeat ms) draws' ≡ take (total_of repeat ms) draws = subst (λ (c : ℕ). take c draws' ≡ take c draws) count t in
              ap (labels_in rows) (of_same s ms read rest draws' (drop (total_of repeat ms) draws') l' long e (k.same draws' t'));
        }
    of_grouped few (ended Rounds ms) e k h = let y : ⊥ = omega arith in absurd y
    of_grouped few (ended (Short p) ms) e k h = let y : ⊥ = omega arith in absurd y
    of_grouped few (ended (DrawOutOfRange p) ms) e k h = let y : ⊥ = omega arith in absurd y
    of_grouped few (ended ClusteringFailed ms) e k h = let y : ⊥ = omega arith in absurd y

pub third : (book : List Float) (rows cols repeat : ℕ) (draws : List ℕ) (l : Lists) → Demand3 book rows cols repeat draws l
third book rows cols repeat draws l =
    record {
      grouped = by_call book rows cols repeat draws l (λ (o : Outcome). o.answer.refused.number ≡ 0 → Counted book rows cols repeat draws l o.answer.read)
          (λ e. let w = (shape_within book rows cols repeat l e).1 in of_grouped book rows repeat draws cols l e w.limits.few r refl (took w.limits.two))
          (λ e h. absurd (not-zero (shape book rows cols repeat l).number e h));
      short = by_call book rows cols repeat draws l (λ (o : Outcome). o.answer.refused.number ≡ 7 → SumOf repeat (rounds_of r) o.answer.refused.place)
          (λ e. let w = (shape_within book rows cols repeat l e).1 in of_short book rows repeat draws w.limits.few r (took w.limits.two))
          (λ e h. absurd (not_seven (shape_cause book rows cols repeat l e) h));
      tells = λ square w. subst (λ (c : ℕ). Tells r (group_of book rows c repeat draws l).answer) square
          (subst (λ (o : Outcome). Tells r o.answer) (sym (within_ran book rows repeat draws l w)) (run_tells book rows repeat draws l r (within_certain book rows repeat draws w)));
      reads = reads;
      only = λ two few some r' d. one_run book rows repeat draws r' r d (reads two few some);
    }
  where
    r : Run
    r = run_of book rows repeat draws

    took : 2 ≤ rows → Spends book rows repeat 32 (all rows) 0 draws r
    took = run_spends book rows repeat draws

    reads : 2 ≤ rows → rows ≤ 256 → 1 ≤ repeat → DrawsRead book rows repeat draws r
    reads two few some =
        let c = run_certain book rows repeat draws two few some in
        record {
          rounds = few_rounds book rows repeat draws r c (took two);
          there = draws_there book rows repeat draws r c (took two);
          ends = ends_by book rows repeat draws r c (took two) (run_made book rows repeat draws two);
          in_range = in_range book rows repeat draws two r c (took two);
        }
