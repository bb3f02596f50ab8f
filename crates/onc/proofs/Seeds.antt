-- What holds of every call by a seed (specs/Seeds.antt).
use Prim.Native.Nat.{ℕ, suc, ◌+◌, ◌≤◌}
use mathlib.Core.Path.{◌≡◌, refl, sym, ◌∙◌, ap, subst}
use mathlib.Core.Bool.{true}
use mathlib.Core.List.{List, [], ◌∷◌, ◌++◌}
use native.Mathlib.Omega.{arith}
use borrow.Author.Tests.{eq-eqb}
use lib.ListN.{length, drop, length-append}
use lib.Ieee.{Float}
use Rattle.lists.proofs.Tests.{impossible}
use Rattle.draws.specs.Draws.{drawn}
use Rattle.draws.specs.declared.Stop.TheVariants.{Rounds, Short, DrawOutOfRange, ClusteringFailed}
use Rattle.distance.specs.Distance.{dist_at}
use Rattle.partition.specs.Partition.{has}
use Rattle.candidates.specs.Candidates.{found, best_of}
use Rattle.candidates.specs.Kinds.{RoundKindAt}
use Rattle.plusplus_seeded.specs.Kinds.{HasKind}
use Rattle.plusplus_seeded.proofs.Fine.{append_none}
use Rattle.round.specs.Round.{Run, done, ended, need_of, total_of}
use Rattle.round.specs.Made.{draws_from}
use Rattle.round.proofs.Spends.{draws_none}
use Rattle.round.proofs.Made.{Leaves, seed_run}
use Rattle.round.proofs.OfKinds.{weak_rows, Behind, here, later, behind_next, RunKindAt, started_in, seed_kinds, seed_total, seed_most}
use Rattle.certain_runs.specs.Certain.{CertainRun}
use Rattle.onc_run.specs.Run.{Lists, Outcome, run_of, ran}
use Rattle.onc_run.proofs.Runs.{all}
use Rattle.onc.specs.Onc.{shape, group_of, seeded_of}
use Rattle.onc.specs.Demands.{Cause, no_repeat, not_square, few_rows, many_rows, many_repeats, cell_count, list_length, search_of, Reached, first, next, rounds_of}
use Rattle.onc.specs.Seeds.{EachNext, seeded_numbers, SeededClaim}
use Rattle.onc.proofs.Calls.{by_call, within_certain}
use Rattle.onc.proofs.Shapes.{shape_cause, shape_within}
use Rattle.onc.proofs.Groupings.{draws_append, search_rest}
use Rattle.onc.proofs.Rounds.{reached_some}
use Rattle.onc.proofs.Demands.{demands}
use Rattle.onc.proofs.Certain.{certain}

-- ---- the numbers of the answer
abbrev Answered : ℕ → Type 0
Answered k = has seeded_numbers k ≡ true

by_cause : (book : List Float) (rows cols repeat : ℕ) (l : Lists) (k : ℕ) → Cause book rows cols repeat l k → Answered k
unfolding has
by_cause book rows cols repeat l k (no_repeat a) = refl
by_cause book rows cols repeat l k (not_square a b) = refl
by_cause book rows cols repeat l k (few_rows a b c) = refl
by_cause book rows cols repeat l k (many_rows a b) = refl
by_cause book rows cols repeat l k (many_repeats a b) = refl
by_cause book rows cols repeat l k (cell_count a b) = refl
by_cause book rows cols repeat l k (list_length a b c) = refl

by_run : (book : List Float) (n : ℕ) (l : Lists) (r : Run) → CertainRun n r → Leaves [] r → Answered (ran book n r l).answer.refused.number
unfolding has
by_run book n l (done s ms read rest) c h = refl
by_run book n l (ended Rounds ms) c h = refl
by_run book n l (ended ClusteringFailed ms) c h = absurd (c refl)
by_run book n l (ended (Short k) ms) c h = absurd h
by_run book n l (ended (DrawOutOfRange p) ms) c h = absurd h

run_leaves : (seed : ℕ) (book : List Float) (n repeat : ℕ) → 2 ≤ n → Leaves [] (run_of book n repeat (draws_from seed book n repeat))
unfolding run_of
run_leaves seed book n repeat two = seed_run seed book n repeat two

numbers : (book : List Float) (rows cols repeat seed : ℕ) (l : Lists) → Answered (seeded_of book rows cols repeat seed l).answer.refused.number
numbers book rows cols repeat seed l =
    let draws = draws_from seed book rows repeat in
    by_call book rows cols repeat draws l (λ (o : Outcome). Answered o.answer.refused.number)
    (λ e.
    let w = (shape_within book rows cols repeat l e).1 in
    by_run book rows l (run_of book rows repeat draws) (within_certain book rows repeat draws w) (run_leaves seed book rows repeat w.limits.two))
    (λ e. by_cause book rows cols repeat l (shape book rows cols repeat l).number (shape_cause book rows cols repeat l e))

-- ---- how many draws
rounds_are : (r : Run) → rounds_of r ≡ started_in r
rounds_are (done s ms read rest) = refl
rounds_are (ended q ms) = refl

exact : (book : List Float) (n repeat seed : ℕ) → 2 ≤ n → total_of repeat (rounds_of (run_of book n repeat (draws_from seed book n repeat))) ≡ length (draws_from seed book n repeat)
unfolding run_of
exact book n repeat seed two = ap (total_of repeat) (rounds_are (run_of book n repeat (draws_from seed book n repeat))) ∙ seed_total seed book n repeat two

-- a grouping has two names or more
two_names_lem : (book : List Float) (rows cols repeat : ℕ) (draws : List ℕ) (l : Lists) → (group_of book rows cols repeat draws l).answer.refused.number ≡ 0 → 2 ≤ rows
two_names_lem book rows cols repeat draws l =
    by_call book rows cols repeat draws l (λ (o : Outcome). o.answer.refused.number ≡ 0 → 2 ≤ rows) (λ e h. (shape_within book rows cols repeat l e).1.limits.two)
    (λ e h. impossible (sym e ∙ eq-eqb (shape book rows cols repeat l).number 0 h))

reported : (book : List Float) (rows cols repeat seed : ℕ) (l : Lists) → (seeded_of book rows cols repeat seed l).answer.refused.number ≡ 0
    → (seeded_of book rows cols repeat seed l).answer.read ≡ length (draws_from seed book rows repeat)
reported book rows cols repeat seed l h =
    let draws = draws_from seed book rows repeat in
    ((demands.third book rows cols repeat draws l).grouped h).total ∙ exact book rows repeat seed (two_names_lem book rows cols repeat draws l h)

-- ---- of which kinds
module _ (book : List Float) (n repeat : ℕ) (draws : List ℕ) where
  -- a round that is reached is one behind the first
  reached_behind : {before items : List ℕ} → Reached book n repeat draws before items → Behind book n repeat draws (length before) 0 (all n) (total_of repeat before) items
  reached_behind first = subst (λ (at : ℕ). Behind book n repeat draws 0 0 (all n) at (all n)) (sym (draws_none repeat)) (here 0 (all n))
  reached_behind (next b i c h q w) =
      let more = behind_next book n repeat draws (reached_behind h) c (drop (total_of repeat b + need_of repeat (length i)) draws) q w in
      let s : suc (length b) ≡ length (b ++ (length i ∷ [])) = omega (arith, length-append b (length i ∷ [])) in
      subst (λ (k : ℕ). Behind book n repeat draws k 0 (all n) (total_of repeat (b ++ (length i ∷ []))) (weak_rows i c)) s
      (subst (λ (at : ℕ). Behind book n repeat draws (suc (length b)) 0 (all n) at (weak_rows i c)) (sym (draws_append repeat b (length i))) more)

  -- and the other way round
  abbrev ReachedAt : ℕ → ℕ → List ℕ → Type 0
  ReachedAt count at items = (before : List ℕ) × (length before ≡ count) × (total_of repeat before ≡ at) × Reached book n repeat draws before items

  behind_reached : 2 ≤ n → (count s at : ℕ) (items : List ℕ) (at' : ℕ) (items' : List ℕ) → ReachedAt count at items → Behind book n repeat draws s at items at' items'
      → ReachedAt (count + s) at' items'
  behind_reached two count s at items at' items' (b, k, t, h) (here _ _) = (b, omega (arith, k), t, h)
  behind_reached two count s at items at' items' (b, k, t, h) (later s' _ _ c rest _ _ e w more) =
      let found_here : search_of book n repeat draws b items ≡ drawn (found c) rest =
      subst (λ (x : ℕ). best_of (dist_at book n items) (length items) repeat x (drop x draws) ≡ drawn (found c) rest) (sym t) e in
      let q = search_rest book n repeat draws b items (found c) rest (reached_some book n repeat draws two h) found_here in
      let last : List ℕ = b ++ (length items ∷ []) in
      let r : ReachedAt (suc count) (at + need_of repeat (length items)) (weak_rows items c) =
      (last, omega (arith, k, length-append b (length items ∷ [])), draws_append repeat b (length items) ∙ ap (λ (x : ℕ). x + need_of repeat (length items)) t, next b items c h q w) in
      let v = behind_reached two (suc count) s' (at + need_of repeat (length items)) (weak_rows items c) at' items' r more in
      (v.0, omega (arith, v.1), v.2, v.3)

each_next : (book : List Float) (n repeat seed : ℕ) → 2 ≤ n → EachNext seed book n repeat
each_next book n repeat seed two =
    let draws = draws_from seed book n repeat in
    let k = seed_kinds seed book n repeat two in
    let whole : drop 0 draws ≡ draws ++ [] = sym (append_none draws) in
    record {
      kinds = k.kinds;
      draws_are = k.draws_are;
      as_taken = λ p kind (before, items, h, l, r).
          let f = k.each 0 draws [] whole p kind (length before, total_of repeat before, items, l, reached_behind book n repeat draws h, r) in
          let same : f.0 ≡ p = omega (arith, f.1) in
          subst (λ (x : ℕ). HasKind k.kinds x kind) same f.2;
      each_taken = λ p l.
          let a = k.all 0 draws [] whole p l in
          let same : 0 + p ≡ p = omega arith in
          let b = subst (λ (x : ℕ). RunKindAt book n repeat 32 (all n) 0 draws x a.0) same a.1 in
          let v = behind_reached book n repeat draws two 0 b.0 0 (all n) b.1 b.2 ([], refl, draws_none repeat, first) b.4 in
          (a.0, (v.0, b.2, v.3, omega (arith, v.1, b.3), subst (λ (x : ℕ). RoundKindAt (dist_at book n b.2) (length b.2) repeat x draws p a.0) (sym v.2) b.5));
    }

pub seeded : SeededClaim
seeded =
    record {
      first = λ book rows cols repeat seed l. demands.first book rows cols repeat (draws_from seed book rows repeat) l;
      second = λ book n repeat seed l. demands.second book n repeat (draws_from seed book n repeat) l;
      third = λ book rows cols repeat seed l. demands.third book rows cols repeat (draws_from seed book rows repeat) l;
      grouping = λ book n repeat seed l. certain.grouping book n repeat (draws_from seed book n repeat) l;
      numbers = numbers;
      exact = exact;
      reported = reported;
      most = λ book n repeat seed. seed_most seed book n repeat;
      each_next = each_next;
    }
