-- What is certain of every call (specs/Certain.antt).
use Prim.Native.Nat.{ℕ, ◌<◌}
use mathlib.Core.Path.{◌≡◌, sym, ◌∙◌, ap, subst}
use mathlib.Core.Bool.{true}
use mathlib.Core.List.{List}
use native.Mathlib.Omega.{arith}
use lib.ListN.{length}
use lib.Ieee.{Float}
use Rattle.lists.specs.Lists.{cells, listed, numbers}
use Rattle.distance.specs.Distance.{dist_at}
use Rattle.silhouette_areas.proofs.Laws.{scores_length}
use Rattle.partition.specs.Partition.{State, joined, group_at, has, label_of, times}
use Rattle.partition.proofs.Cuts.{cut-length, groups_few}
use Rattle.partition.proofs.Members.{times_has}
use Rattle.certain_ranges.proofs.Ratios.{bounded_one}
use Rattle.round.specs.Round.{Run, done, ended}
use Rattle.certain_runs.specs.Certain.{InRange, CertainRun}
use Rattle.certain_runs.proofs.Choice.{group_of_lem}
use Rattle.certain_runs.proofs.Runs.{rounds}
use Rattle.onc_run.specs.Run.{Lists, Outcome, run_of, final_of, ran}
use Rattle.onc.specs.Onc.{group_of}
use Rattle.onc.specs.Demands.{Within, outputs, groups_in, Cause, no_repeat, not_square, few_rows, many_rows, many_repeats, cell_count, list_length, GroupingOf}
use Rattle.onc.specs.Certain.{CertainGrouping, CertainClaim}
use Rattle.onc.proofs.Shapes.{shape_cause, shape_within}
use Rattle.onc.proofs.Calls.{by_call, within_ran, within_certain}
use Rattle.onc.proofs.Groupings.{size_at, second}

-- no refusal before the run has the number 3, and no run ends in it
cause_not_3 : {book : List Float} {rows cols repeat : ℕ} {l : Lists} {k : ℕ} → Cause book rows cols repeat l k → k ≡ 3 → ⊥
cause_not_3 (no_repeat h) e = omega arith
cause_not_3 (not_square s h) e = omega arith
cause_not_3 (few_rows s q h) e = omega arith
cause_not_3 (many_rows s h) e = omega arith
cause_not_3 (many_repeats s h) e = omega arith
cause_not_3 (cell_count s h) e = omega arith
cause_not_3 (list_length s q h) e = omega arith

run_not_3 : (n : ℕ) (r : Run) → CertainRun n r → (final_of r).refused.number ≡ 3 → ⊥
run_not_3 n (done s ms read rest) c e = omega arith
run_not_3 n (ended q ms) c e = c e

never_3 : (book : List Float) (rows cols repeat : ℕ) (draws : List ℕ) (l : Lists) → (group_of book rows cols repeat draws l).answer.refused.number ≡ 3 → ⊥
never_3 book rows cols repeat draws l =
    by_call book rows cols repeat draws l (λ (o : Outcome). o.answer.refused.number ≡ 3 → ⊥)
    (λ e. run_not_3 rows (run_of book rows repeat draws) (within_certain book rows repeat draws (shape_within book rows cols repeat l e).1))
    (λ e. cause_not_3 (shape_cause book rows cols repeat l e))

-- each name is in one group, and in no other
abbrev InOne : List (List ℕ) → ℕ → ℕ → Type 0
InOne gs count i = (g : ℕ) × (g < count) × (has (group_at gs g) i ≡ true) × ((h : ℕ) → has (group_at gs h) i ≡ true → h ≡ g)

group_count_lem : (book : List Float) (n : ℕ) (s : State) (o : Outcome) → GroupingOf book n s o → length s.groups ≡ o.answer.groups
group_count_lem book n s o g = ap length (sym g.groups) ∙ cut-length o.answer.groups o.lists.sizes o.lists.order

one_group : (book : List Float) (n : ℕ) (s : State) (o : Outcome) → GroupingOf book n s o → (i : ℕ) → i < n → InOne (groups_in (outputs o)) o.answer.groups i
one_group book n s o g i h =
    let one : times i (joined s.groups) ≡ 1 = g.partition.once i h in
    let k = group_of_lem s.groups i (times_has (joined s.groups) i (omega arith)) in
    subst (λ (gs : List (List ℕ)). InOne gs o.answer.groups i) (sym g.groups)
    (k.0, subst (λ (c : ℕ). k.0 < c) (group_count_lem book n s o g) k.1, k.2, λ f t. sym (g.labels f i t) ∙ g.labels k.0 i k.2)

-- the size of each group
group_size_lem : (book : List Float) (n : ℕ) (s : State) (o : Outcome) → GroupingOf book n s o → (k : ℕ) → k < o.answer.groups
    → numbers o.lists.sizes k ≡ length (group_at (groups_in (outputs o)) k)
group_size_lem book n s o g k h =
    let inside : k < n = omega (arith, group_count_lem book n s o g, groups_few g.partition) in
    ap (λ (xs : List ℕ). numbers xs k) g.sizes ∙ size_at n s.groups k inside ∙ ap (λ (gs : List (List ℕ)). length (group_at gs k)) (sym g.groups)

-- a grouping
of_grouping : (book : List Float) (n : ℕ) (s : State) (o : Outcome) → GroupingOf book n s o → InRange n o.lists.scores → CertainGrouping book n o
of_grouping book n s o g r =
    record {
      no_empty = g.numbered;
      sized = group_size_lem book n s o g;
      no_more = g.no_more;
      concatenated = ap joined g.groups ∙ sym g.order;
      once = λ i h. ap (times i) g.order ∙ g.partition.once i h;
      names = g.order_long;
      one_group = one_group book n s o g;
      square = g.ordered_long;
      matrix = g.matrix;
      scored = ap length g.scores ∙ scores_length (dist_at book n (listed (λ i. i) n)) n (label_of s.groups);
      scores = λ i h. bounded_one (cells o.lists.scores i) (r i h);
    }

grouping : (book : List Float) (n repeat : ℕ) (draws : List ℕ) (l : Lists) → Within book n repeat l
    → (group_of book n n repeat draws l).answer.refused.number ≡ 0 → CertainGrouping book n (group_of book n n repeat draws l)
grouping book n repeat draws l w h =
    let two = second book n repeat draws l w in
    let d = two.grouped h in
    let o : group_of book n n repeat draws l ≡ ran book n (done d.0 d.1 d.2 d.3) l = within_ran book n repeat draws l w ∙ ap (λ (q : Run). ran book n q l) d.4 in
    let r : InRange n d.0.scores = subst (CertainRun n) d.4 (within_certain book n repeat draws w) in
    of_grouping book n d.0 (group_of book n n repeat draws l) (two.grouping d.0 d.1 d.2 d.3 d.4)
    (subst (λ (q : Outcome). InRange n q.lists.scores) (sym o) r)

pub certain : CertainClaim
certain = record { grouping = grouping; not_kept = rounds.not_kept; never_3 = never_3 }
