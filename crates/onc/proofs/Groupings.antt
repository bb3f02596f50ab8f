-- Demand 2: what a call within the limits answers.
use Prim.Native.Nat.{ℕ, ◌+◌, ◌*◌, ◌<◌, ◌≤◌}
use mathlib.Core.Path.{◌≡◌, refl, sym, ◌∙◌, ap, subst}
use mathlib.Core.List.{List, [], ◌∷◌, ◌++◌}
use mathlib.Core.Bool.{true}
use mathlib.Core.Logic.{by_cases}
use native.Mathlib.Omega.{arith}
use native.Mathlib.Decide.{dec_lt}
use lib.ListN.{length, drop, get_or-eq_default}
use lib.Seq.{drop-drop}
use lib.Ieee.{Float, nan}
use Rattle.lists.specs.Lists.{numbers, cell_at, flat, matrix_of}
use Rattle.lists.proofs.Listed.{length-listed, get_d_listed}
use Rattle.lists.proofs.Matrix.{matrix_at}
use Rattle.distance.specs.Distance.{cell_through, dist_at}
use Rattle.draws.specs.Draws.{Drawn, drawn, refused}
use Rattle.draws.specs.declared.Stop.TheVariants.{Rounds, Short, DrawOutOfRange, ClusteringFailed}
use Rattle.partition.specs.Partition.{Partition, State, has, label_of, joined, group_at}
use Rattle.partition.specs.Orders.{sizes_of}
use Rattle.draws.proofs.Taken.{Ends}
use Rattle.draws.proofs.Bad.{Reads}
use Rattle.candidates.specs.Candidates.{Best, found, best_of}
use Rattle.candidates.specs.Ranges.{RoundOutOfRange}
use Rattle.candidates.proofs.Laws.{Found, best_took}
use Rattle.candidates.proofs.Bad.{best_bad}
use Rattle.round.specs.Round.{Run, done, ended, need_of, total_of}
use Rattle.partition.proofs.Cuts.{cut_joined, groups_few, partition_length}
use Rattle.partition.proofs.Labels.{label_is, member_below}
use Rattle.base.proofs.Scored.{Scored}
use Rattle.round.proofs.Runs.{Whole, ScoredRun}
use Rattle.round.proofs.Spends.{ReachedFrom, start, further, BadDraw, Spends, search_of as searchFrom, draws_none, draws_more, draws_one}
use Rattle.onc_run.specs.Run.{Lists, Outcome, run_of, final_of, ran}
use Rattle.onc_run.proofs.Runs.{all, all_length, run_spends, run_whole, run_scored}
use Rattle.onc.specs.Onc.{group_of}
use Rattle.onc.specs.Demands.{Within, outputs, groups_in, labels_in, GroupingOf, search_of, Reached, first, next, MeetsDraw, NoneRefused, Demand2}
use Rattle.certain_runs.specs.Certain.{CertainRun}
use Rattle.onc.proofs.Calls.{within_ran, within_certain}

-- the sizes: those of the groups, and 0 after the last
pub size_at : (n : ℕ) (gs : List (List ℕ)) (g : ℕ) → g < n → numbers (sizes_of n gs) g ≡ length (group_at gs g)
size_at n gs g h = get_d_listed (λ k. length (group_at gs k)) n g 0 h

no_size : (n : ℕ) (gs : List (List ℕ)) (g : ℕ) → length gs ≤ g → numbers (sizes_of n gs) g ≡ 0
no_size n gs g h =
    by_cases (dec_lt g n) (λ i. size_at n gs g i ∙ ap length (get_or-eq_default gs [] h))
    (λ i. let far : length (sizes_of n gs) ≤ g = omega (arith, length-listed (λ k. length (group_at gs k)) n) in get_or-eq_default (sizes_of n gs) 0 far)

-- the ordered matrix
ordered_at : (book : List Float) (n : ℕ) (order : List ℕ) (i j : ℕ) → i < n → j < n → cell_at (matrix_of (cell_through book n order) n) n i j ≡ cell_at book n (numbers order i) (numbers order j)
unfolding cell_through
ordered_at book n order i j h l = matrix_at (cell_through book n order) n i j nan h l

-- the label of a name is the number of its group
label_at : (book : List Float) (n : ℕ) (s : State) (ms : List ℕ) (read : ℕ) (rest : List ℕ) (l : Lists) → Partition n s.groups → (g i : ℕ)
    → has (group_at s.groups g) i ≡ true → numbers (labels_in n (outputs (ran book n (done s ms read rest) l))) i ≡ g
label_at book n s ms read rest l p g i h =
    let same : groups_in (outputs (ran book n (done s ms read rest) l)) ≡ s.groups = cut_joined s.groups n (groups_few p) in
    get_d_listed (label_of (groups_in (outputs (ran book n (done s ms read rest) l)))) n i 0 (member_below p g i h)
    ∙ ap (λ (gs : List (List ℕ)). label_of gs i) same
    ∙ label_is p g i h

-- a run that ends in a partition leaves it in the outputs
ran_grouping : (book : List Float) (n : ℕ) (s : State) (ms : List ℕ) (read : ℕ) (rest : List ℕ) (l : Lists) → Partition n s.groups → Scored (dist_at book n (all n)) n s
    → GroupingOf book n s (ran book n (done s ms read rest) l)
ran_grouping book n s ms read rest l p scores =
    let few : length s.groups ≤ n = groups_few p in
    record {
      not_refused = refl;
      partition = p;
      groups = cut_joined s.groups n few;
      numbered = λ g h. let inside : g < n = omega arith in omega (arith, size_at n s.groups g inside, p.some g h);
      no_more = no_size n s.groups;
      labels = λ g i h. label_at book n s ms read rest l p g i h;
      order = refl;
      order_long = partition_length p;
      sizes = refl;
      scores = scores;
      ordered_long = length-listed (flat (cell_through book n (joined s.groups)) n) (n * n);
      matrix = ordered_at book n (joined s.groups);
    }

-- the draws of rounds one after the other
pub draws_append : (repeat : ℕ) (before : List ℕ) (m : ℕ) → total_of repeat (before ++ (m ∷ [])) ≡ total_of repeat before + need_of repeat m
draws_append repeat [] m = omega (arith, draws_one repeat m, draws_none repeat)
draws_append repeat (k ∷ before) m = omega (arith, draws_more repeat k (before ++ (m ∷ [])), draws_append repeat before m, draws_more repeat k before)

module _ (book : List Float) (n repeat : ℕ) (draws : List ℕ) where
  -- the search of the last round, with no draw read before the first
  pub search_same : (before items : List ℕ) (D : Drawn Best) → searchFrom book n repeat 0 draws before items ≡ D → search_of book n repeat draws before items ≡ D
  search_same before items D h =
      let z : total_of repeat before ≡ 0 + total_of repeat before = omega arith in
      ap (λ (i : ℕ). best_of (dist_at book n items) (length items) repeat i (drop (total_of repeat before) draws)) z ∙ h

  -- it takes exactly its count of draws
  pub search_rest : (before items : List ℕ) (b : Best) (rest : List ℕ) → 2 ≤ length items → search_of book n repeat draws before items ≡ drawn b rest
      → search_of book n repeat draws before items ≡ drawn b (drop (total_of repeat before + need_of repeat (length items)) draws)
  search_rest before items b rest two e =
      let at = total_of repeat before in
      let count = need_of repeat (length items) in
      let took =
      subst
      (Ends (λ u r. Found (dist_at book n items) (length items) u × (r ≡ drop count (drop at draws)) × (count ≤ length (drop at draws))) (λ p. (at ≤ p) × (p < at + count)))
      e (best_took (dist_at book n items) (length items) repeat two at (drop at draws)) in
      e ∙ ap (λ (r : List ℕ). drawn b r) (took.1 ∙ drop-drop count at draws)

  -- a round that is reached from the first
  pub reached_same : {before items : List ℕ} → ReachedFrom book n repeat (all n) 0 draws before items → Reached book n repeat draws before items
  reached_same start = first
  reached_same (further before items k rest two l q w) =
      next before items k (reached_same l) (search_rest before items (found k) rest two (search_same before items (drawn (found k) rest) q)) w

  -- a draw that ends the run is out of range
  pub meets_draw : (p : ℕ) (ms : List ℕ) → BadDraw book n repeat 32 (all n) 0 draws p ms → MeetsDraw book n repeat draws p ms
  meets_draw p ms k =
      let at = total_of repeat k.before in
      let m = length k.items in
      let e : total_of repeat ms ≡ at + need_of repeat m = ap (total_of repeat) k.rounds ∙ draws_append repeat k.before m in
      let met : search_of book n repeat draws k.before k.items ≡ refused p = search_same k.before k.items (refused p) k.cause in (
        k.before,
        k.items,
        reached_same k.reached,
        k.rounds,
        k.some,
        k.enough,
        omega (arith, k.to, k.enough),
        omega (arith, k.from),
        omega (arith, k.to, e),
        met,
        subst (Reads draws (at + need_of repeat m) (RoundOutOfRange (dist_at book n k.items) m repeat at draws)) met
            (best_bad (dist_at book n k.items) m repeat draws at (omega (arith, e, k.enough))),
      )

  -- the first round's count for each of 32 rounds is enough
  not_seven : 32 * need_of repeat n ≤ length draws → (r : Run) → CertainRun n r → Spends book n repeat 32 (all n) 0 draws r → has (0 ∷ 9 ∷ 8 ∷ []) (final_of r).refused.number ≡ true
  unfolding has
  not_seven h (done s ms read rest) c k = refl
  not_seven h (ended Rounds ms) c k = refl
  not_seven h (ended (Short p) ms) c k =
      let e : need_of repeat (length (all n)) ≡ need_of repeat n = ap (need_of repeat) (all_length n) in
      let y : ⊥ = omega (arith, k.least, ap (λ (c : ℕ). 32 * c) e) in
      absurd y
  not_seven h (ended (DrawOutOfRange p) ms) c k = refl
  not_seven h (ended ClusteringFailed ms) c k = absurd (c refl)

  -- a run that no refusal ends is done
  none_refused : NoneRefused book n repeat draws → (r : Run) → CertainRun n r → Spends book n repeat 32 (all n) 0 draws r
      → (s : State) × (ms : List ℕ) × (read : ℕ) × (rest : List ℕ) × (r ≡ done s ms read rest)
  none_refused h (done s ms read rest) c k = (s, ms, read, rest, refl)
  none_refused h (ended Rounds ms) c k =
      let y : ⊥ = omega (arith, k.count, h.few ms k.items (reached_same k.reached)) in
      absurd y
  none_refused h (ended (Short p) ms) c k =
      let y : ⊥ = omega (arith, k.short, h.enough ms k.items (reached_same k.reached)) in
      absurd y
  none_refused h (ended (DrawOutOfRange p) ms) c k =
      let met = meets_draw p ms k in
      absurd (h.in_range met.0 met.1 p met.2 met.10)
  none_refused h (ended ClusteringFailed ms) c k = absurd (c refl)

-- number 0 is a run that ended in a partition
of_zero : (r : Run) → (final_of r).refused.number ≡ 0 → (s : State) × (ms : List ℕ) × (read : ℕ) × (rest : List ℕ) × (r ≡ done s ms read rest)
of_zero (done s ms read rest) h = (s, ms, read, rest, refl)
of_zero (ended Rounds ms) h = let y : ⊥ = omega arith in absurd y
of_zero (ended (Short k) ms) h = let y : ⊥ = omega arith in absurd y
of_zero (ended (DrawOutOfRange p) ms) h = let y : ⊥ = omega arith in absurd y
of_zero (ended ClusteringFailed ms) h = let y : ⊥ = omega arith in absurd y

pub second : (book : List Float) (n repeat : ℕ) (draws : List ℕ) (l : Lists) → Within book n repeat l → Demand2 book n repeat draws l
second book n repeat draws l w =
    record {
      exact = exact;
      answered = λ h. let d = none_refused book n repeat draws h r sure took in (d.0, d.1, d.2, d.3, d.4, grouping d.0 d.1 d.2 d.3 d.4);
      not_short = λ h. ap (has (0 ∷ 9 ∷ 8 ∷ [])) number ∙ not_seven book n repeat draws h r sure took;
      grouped = λ h. of_zero r (sym number ∙ h);
      grouping = grouping;
    }
  where
    r : Run
    r = run_of book n repeat draws

    sure : CertainRun n r
    sure = within_certain book n repeat draws w

    took : Spends book n repeat 32 (all n) 0 draws r
    took = run_spends book n repeat draws w.limits.two

    exact : group_of book n n repeat draws l ≡ ran book n r l
    exact = within_ran book n repeat draws l w

    number : (group_of book n n repeat draws l).answer.refused.number ≡ (final_of r).refused.number
    number = ap (λ (o : Outcome). o.answer.refused.number) exact

    grouping : (s : State) (ms : List ℕ) (read : ℕ) (rest : List ℕ) → r ≡ done s ms read rest → GroupingOf book n s (group_of book n n repeat draws l)
    grouping s ms read rest e =
        let h : Whole n (done s ms read rest) = subst (Whole n) e (run_whole book n repeat draws w.limits.two) in
        let k : ScoredRun (dist_at book n (all n)) n (done s ms read rest) = subst (ScoredRun (dist_at book n (all n)) n) e (run_scored book n repeat draws w.limits.two) in
        let o : group_of book n n repeat draws l ≡ ran book n (done s ms read rest) l = exact ∙ ap (λ (q : Run). ran book n q l) e in
        subst (GroupingOf book n s) (sym o) (ran_grouping book n s ms read rest l h.0 k)
