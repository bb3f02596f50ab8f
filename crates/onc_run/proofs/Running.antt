-- Laws of the steps of a call: what the rounds ask of the lists, and what is left of them once the working lists are wiped.
use Rattle.std.specs.Prelude.{Result, Ok, Err}
use Prim.Native.Nat.{ℕ, ◌+◌, ◌*◌, ◌<◌, ◌≤◌, zero-le}
use mathlib.Core.Path.{◌≡◌, refl, sym, ◌∙◌, ap, subst}
use mathlib.Core.Bool.{Bool}
use mathlib.Core.List.{List, ◌++◌}
use native.Mathlib.Omega.{arith}
use lib.ListN.{length, take, drop, replicate}
use lib.Seq.{length-take-le, length_front, get_or-take, take_at, drop_at}
use lib.Ieee.{Float}
use Rattle.lists.specs.Lists.{listed, numbers, matrix_of}
use Rattle.lists.specs.Sums.{zero64}
use Rattle.lists.proofs.Listed.{get_d_listed}
use Rattle.lists.proofs.Parts.{drop_behind}
use Rattle.refusals.specs.Table.{work_doubles, work_numbers, wiped, wiped_numbers}
use Rattle.distance.specs.Distance.{cell_through}
use Rattle.draws.specs.declared.Stop.{Stop}
use Rattle.round_top.proofs.Rounding.{top_parts}
use Rattle.round_top.specs.declared.Top.{Top}
use Rattle.plusplus_seeded.specs.declared.Source.{Source}
use Rattle.round.specs.Round.{Run, done, ended, round_of}
use Rattle.round.specs.Made.{round_given}
use Rattle.round_top.specs.Steps.{top_done, Ready, RoundLeaves, top_of, order_after, sizes_after, scores_after}
use Rattle.round.proofs.Runs.{Whole}
use Rattle.onc_answers.specs.declared.OncError.TheVariants.{Stopped}
use Rattle.onc_answers.specs.Answers.{answer_of}
use Rattle.onc_run.specs.Run.{Lists, Outcome, Limits, run_of, draws_of, ran}
use Rattle.onc_run.specs.Steps.{Ran}
use Rattle.onc_run.proofs.Runs.{all, all_length}

-- the numbers with the rows of the first round in front
module _ (book : List Float) (n repeat : ℕ) (draws : List ℕ) (seeded : Bool) (seed : ℕ) (order sizes : List ℕ) (scores floats : List Float) (wi front : List ℕ)
    (fair : Limits book n repeat (length order) (length sizes) (length scores) (length floats) (length wi))
    (counted : front ≡ listed (λ i. i) (length (take n wi))) where
  inside : n ≤ length wi
  inside = omega (arith, fair.numbers_long)

  front_is : front ≡ all n
  front_is = counted ∙ ap (listed (λ i. i)) (length-take-le n wi inside)

  front_long : length front ≡ n
  front_long = ap length front_is ∙ all_length n

  long : length (front ++ drop n wi) ≡ length wi
  long = length_front wi front n (front_long ∙ sym (length-take-le n wi inside))

  rows_are : take (length order) (front ++ drop n wi) ≡ all n
  rows_are = ap (λ (k : ℕ). take k (front ++ drop n wi)) fair.order_long ∙ take_at front (drop n wi) n front_long ∙ front_is

  row_below : (j : ℕ) → j < length order → numbers (front ++ drop n wi) j < n
  row_below j h =
      let in-n : j < n = omega (arith, h, fair.order_long) in
      let there : numbers (front ++ drop n wi) j ≡ numbers (all n) j =
      sym (get_or-take (length order) (front ++ drop n wi) j 0 h) ∙ ap (λ (x : List ℕ). numbers x j) rows_are in
      let is : numbers (all n) j ≡ j = get_d_listed (λ i. i) n j 0 in-n in
      omega (arith, there, is, in-n)

  -- where the draws come from
  abbrev src : Source
  src = record { at = 0; seeded = seeded; seed = seed; taken = 0 }

  -- what the first round asks
  pub run_ready : Ready book n repeat draws src 32 order sizes scores (front ++ drop n wi) floats
  run_ready =
      record {
        reads = record {
          two = omega (arith, fair.two, fair.order_long);
          items = omega (arith, fair.order_long);
          few = fair.few;
          some = fair.some;
          times = fair.times;
          square = fair.square;
          stood = record { there = λ e. zero-le; passed = λ e. zero-le; words = zero-le };
          rows = row_below;
        };
        level = omega arith;
        same_sizes = fair.sizes_long ∙ sym fair.order_long;
        same_scores = fair.scores_long ∙ sym fair.order_long;
        room = omega (arith, fair.numbers_long, long);
        space = omega (arith, fair.floats_long);
      }

  behind : drop (work_numbers n) (front ++ drop n wi) ≡ drop (work_numbers n) wi
  behind = drop_behind n (work_numbers n) (front ++ drop n wi) wi (omega arith) (drop_at front (drop n wi) n front_long)

  -- what it leaves
  pub run_ran : {a : Result Top Stop} {order' sizes' : List ℕ} {scores' floats' : List Float} {wi' : List ℕ}
      → RoundLeaves (round_of book n repeat 32 (take (length order) (front ++ drop n wi)) 0 (round_given src draws book n repeat 32 (take (length order) (front ++ drop n wi)))) n 32 a order order' sizes sizes' scores scores' (front ++ drop n wi) wi' floats floats'
      → Ran (run_of book n repeat (draws_of seeded seed book n repeat draws)) n a order order' sizes sizes' scores scores' floats floats' wi wi'
  unfolding run_of
  run_ran {a} {order'} {sizes'} {scores'} {floats'} {wi'} h =
      let ds = draws_of seeded seed book n repeat draws in
      let g : RoundLeaves (round_of book n repeat 32 (all n) 0 (draws_of seeded seed book n repeat draws)) n 32 a order order' sizes sizes' scores scores' (front ++ drop n wi) wi' floats floats' =
      subst
      (λ (x : List ℕ). RoundLeaves (round_of book n repeat 32 x 0 (round_given src draws book n repeat 32 x)) n 32 a order order' sizes sizes' scores scores' (front ++ drop n wi) wi' floats floats')
      rows_are h in
      record {
        answer_is = g.answer_is;
        ordered = g.ordered;
        sized = g.sized ∙ ap (λ (m : ℕ). sizes_after m (round_of book n repeat 32 (all n) 0 ds) sizes) fair.order_long;
        scored = g.scored;
        behind = drop_behind (3 * (32 * n) + n) (work_numbers n) wi' (front ++ drop n wi) (omega arith) g.behind ∙ behind;
        beyond = drop_behind (32 * n + 5 * (n * n)) (work_doubles n) floats' floats (omega arith) g.beyond;
      }

-- what a call leaves, by the answer of its run
module _ (book : List Float) (n : ℕ) (r : Run) (l : Lists) {a : Result Top Stop} {order sizes : List ℕ} {scores floats : List Float} {wi : List ℕ}
    (h : Ran r n a l.order order l.sizes sizes l.scores scores l.floats floats l.numbers wi) where
  module _ {floats' : List Float} {wi' : List ℕ} (e : floats' ≡ wiped n floats) (e' : wi' ≡ wiped_numbers n wi) where
    floats_wiped : floats' ≡ wiped n l.floats
    floats_wiped = e ∙ ap (λ (x : List Float). replicate (work_doubles n) zero64 ++ x) h.beyond

    numbers_wiped : wi' ≡ wiped_numbers n l.numbers
    numbers_wiped = e' ∙ ap (λ (x : List ℕ). replicate (work_numbers n) 0 ++ x) h.behind

    pub left_stopped : (s : Stop) → a ≡ Err s
        → ◌≡◌ {A = Outcome}
        (record { answer = answer_of (Err (Stopped s)); lists = record { order = order; sizes = sizes; scores = scores; ordered = l.ordered; floats = floats'; numbers = wi' } })
        (ran book n r l)
    left_stopped s is = by r h.answer_is h.ordered h.sized h.scored
      where
        by : (r : Run) → a ≡ top_of r → order ≡ order_after r l.order → sizes ≡ sizes_after n r l.sizes → scores ≡ scores_after r l.scores
            → ◌≡◌ {A = Outcome}
            (record { answer = answer_of (Err (Stopped s)); lists = record { order = order; sizes = sizes; scores = scores; ordered = l.ordered; floats = floats'; numbers = wi' } })
            (ran book n r l)
        by (done t ms read rest) ea eo es ec = let z : ◌≡◌ {A = ℕ} 0 1 = cc in let y : ⊥ = omega arith in absurd y
        by (ended q ms) ea eo es ec = let z : q ≡ s = cc in rw (eo, es, ec, floats_wiped, numbers_wiped, z) refl

    pub left_grouped : (groups read : ℕ) {ordered : List Float} → a ≡ top_done groups read → length order ≡ n → ordered ≡ matrix_of (cell_through book n order) (length order)
        → ◌≡◌ {A = Outcome}
        (record { answer = answer_of (Ok (record { groups = groups; draws = read })); lists = record { order = order; sizes = sizes; scores = scores; ordered = ordered; floats = floats'; numbers = wi' } })
        (ran book n r l)
    left_grouped groups read {ordered} is long cells = by r h.answer_is h.ordered h.sized h.scored
      where
        matrix : ordered ≡ matrix_of (cell_through book n order) n
        matrix = cells ∙ ap (matrix_of (cell_through book n order)) long

        by : (r : Run) → a ≡ top_of r → order ≡ order_after r l.order → sizes ≡ sizes_after n r l.sizes → scores ≡ scores_after r l.scores
            → ◌≡◌ {A = Outcome}
            (record { answer = answer_of (Ok (record { groups = groups; draws = read })); lists = record { order = order; sizes = sizes; scores = scores; ordered = ordered; floats = floats'; numbers = wi' } })
            (ran book n r l)
        by (ended q ms) ea eo es ec = let z : ◌≡◌ {A = ℕ} 0 1 = cc in let y : ⊥ = omega arith in absurd y
        by (done t ms last rest) ea eo es ec =
            let p = top_parts groups (length t.groups) read last (sym is ∙ ea) in
            rw (matrix, eo, es, ec, floats_wiped, numbers_wiped, p.0, p.1) refl

  -- each number of the order is a name
  pub order_below : (groups read : ℕ) → a ≡ top_done groups read → Whole n r → (j : ℕ) → j < length order → numbers order j < n
  order_below groups read is = by r h.answer_is h.ordered
    where
      by : (r : Run) → a ≡ top_of r → order ≡ order_after r l.order → Whole n r → (j : ℕ) → j < length order → numbers order j < n
      by (ended q ms) ea eo w = let z : ◌≡◌ {A = ℕ} 0 1 = cc in let y : ⊥ = omega arith in absurd y
      by (done t ms last rest) ea eo w = subst (λ (x : List ℕ). (j : ℕ) → j < length x → numbers x j < n) (sym eo) w.0.below
