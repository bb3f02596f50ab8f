-- The rounds of a run: each that started read draws in range, but for the one that 8 names; and how the partition comes out of them (specs/Demands.antt).
use Prim.Native.Nat.{ℕ, zero, suc, ◌+◌, ◌<◌, ◌≤◌}
use mathlib.Core.Path.{◌≡◌, refl, sym, ◌∙◌, ap₂, subst}
use mathlib.Core.Bool.{Bool, true, false, cond}
use mathlib.Core.List.{List, [], ◌∷◌, ◌++◌}
use mathlib.Core.Logic.{by_cases}
use native.Mathlib.Nat.{not-suc-le-zero}
use native.Mathlib.Decide.{dec_lt}
use native.Mathlib.Omega.{arith}
use borrow.Author.Tests.{leb-true, leb-false}
use lib.Dec.{ltb, leb}
use lib.ListN.{length, drop, length-append, length-map}
use lib.Ieee.{Float, lt}
use Rattle.lists.specs.Lists.{numbers}
use Rattle.draws.specs.Draws.{Drawn, drawn, refused}
use Rattle.draws.specs.declared.Stop.TheVariants.{Rounds, Short, DrawOutOfRange, ClusteringFailed}
use Rattle.draws.proofs.Taken.{Ends}
use Rattle.draws.proofs.Bad.{Stops}
use Rattle.distance.specs.Distance.{dist_at}
use Rattle.partition.proofs.Groups.{groups_partition}
use Rattle.quality.specs.Quality.{qualities_of, weak_mean}
use Rattle.candidates.specs.Candidates.{Candidate, Best, nothing, found}
use Rattle.candidates.specs.Ranges.{RoundOutOfRange}
use Rattle.candidates.proofs.Laws.{Found, best_took}
use Rattle.candidates.proofs.Bad.{best_out}
use Rattle.base.specs.Base.{base_of}
use Rattle.row_numbers.specs.Rows.{rows_of}
use Rattle.improve_merge.specs.Merging.{weak_items}
use Rattle.improve_merge.proofs.Merged.{weak_many}
use Rattle.improve.specs.Improve.{mean_quality}
use Rattle.round.specs.Round.{Run, done, ended, unstarted, of_best, opening_of, after_opening, after_inner, round_of, need_of, total_of}
use Rattle.round.proofs.Spends.{Spends, draws_none}
use Rattle.certain_runs.specs.Certain.{CertainRun}
use Rattle.onc_run.specs.Run.{run_of}
use Rattle.onc_run.proofs.Runs.{all, all_length}
use Rattle.onc.specs.Demands.{search_of, Finds, weak_in, merged_in, Reached, first, next, Made, few_weak, improved, not_improved, rounds_of, StoppedBy}
use Rattle.onc.proofs.Groupings.{draws_append, search_same, search_rest, reached_same}

module _ (book : List Float) (n repeat : ℕ) (draws : List ℕ) where
  -- the round that is reached after so many rounds is one alone
  pub same_round : {before items before' items' : List ℕ} → Reached book n repeat draws before items → Reached book n repeat draws before' items' → length before ≡ length before'
      → (before ≡ before') × (items ≡ items')
  same_round first first e = (refl, refl)
  same_round first (next b i c h q w) e = let y : ⊥ = omega (arith, length-append b (length i ∷ [])) in absurd y
  same_round (next b i c h q w) first e = let y : ⊥ = omega (arith, length-append b (length i ∷ [])) in absurd y
  same_round (next b i c h q w) (next b' i' c' h' q' w') e =
      let s = same_round h h' (omega (arith, length-append b (length i ∷ []), length-append b' (length i' ∷ []))) in
      let d : drawn (found c) (drop (total_of repeat b + need_of repeat (length i)) draws) ≡ drawn (found c') (drop (total_of repeat b' + need_of repeat (length i')) draws) =
      sym q ∙ ap₂ (search_of book n repeat draws) s.0 s.1 ∙ q' in
      let k : c ≡ c' = cc in
      (ap₂ (λ (v w : List ℕ). v ++ (length w ∷ [])) s.0 s.1, ap₂ (λ (v : List ℕ) (x : Candidate). rows_of v (weak_items (base_of (length v) x))) s.1 k)

  -- a round found its candidate, with more than two weak groups, and its draws are among the first `to`
  abbrev pub Passed : (before items : List ℕ) → ℕ → Type 0
  Passed before items to =
      (c : Candidate) × Finds book n repeat draws before items c × (2 < weak_in items c) × (total_of repeat before + need_of repeat (length items) ≤ to)

  -- so did each round that another is reached after
  pub passed : {before items before' items' : List ℕ} → Reached book n repeat draws before items → Reached book n repeat draws before' items' → length before < length before'
      → Passed before items (total_of repeat before')
  passed h first l = absurd (not-suc-le-zero l)
  passed {before} {items} h (next b i c h' q w) l =
      let to = total_of repeat (b ++ (length i ∷ [])) in
      let t : total_of repeat b + need_of repeat (length i) ≤ to = omega (arith, draws_append repeat b (length i)) in
      by_cases (dec_lt (length before) (length b)) (λ g. let r = passed h h' g in (r.0, r.1, r.2, omega (arith, r.3, t)))
      (λ g.
      let s = same_round h h' (omega (arith, length-append b (length i ∷ []))) in
      subst (λ (v : List ℕ). Passed v items to) (sym s.0) (subst (λ (v : List ℕ). Passed b v to) (sym s.1) (c, q, w, t)))

  -- it has two items or more
  next-some : (before items : List ℕ) (c : Candidate) → 2 ≤ length items → Finds book n repeat draws before items c → 2 < weak_in items c
      → 2 ≤ length (rows_of items (weak_items (base_of (length items) c)))
  next-some before items c two q w =
      let m = length items in
      let at = total_of repeat before in
      let f =
      subst (Ends (λ u r. Found (dist_at book n items) m u × (r ≡ drop (need_of repeat m) (drop at draws)) × (need_of repeat m ≤ length (drop at draws))) (λ p. (at ≤ p) × (p < at + need_of repeat m)))
      q (best_took (dist_at book n items) m repeat two at (drop at draws)) in
      omega (arith, length-map (weak_items (base_of m c)) (numbers items), weak_many m (base_of m c) (groups_partition (numbers c.labels) m f.0.1))

  pub reached_some : 2 ≤ n → {before items : List ℕ} → Reached book n repeat draws before items → 2 ≤ length items
  reached_some two first = omega (arith, all_length n)
  reached_some two (next b i c h q w) = next-some b i c (reached_some two h) q w

  -- a draw of a round that is out of range ends its search, there or in front of it
  search_stops : 2 ≤ n → (before items : List ℕ) (q : ℕ) → Reached book n repeat draws before items
      → RoundOutOfRange (dist_at book n items) (length items) repeat (total_of repeat before) draws q → Stops q (search_of book n repeat draws before items)
  search_stops two before items q h o = best_out (dist_at book n items) (length items) repeat (reached_some two h) draws (total_of repeat before) q o

  -- so it is no draw of a round that another is reached after
  passed_good : 2 ≤ n → (before items : List ℕ) (q : ℕ) {before' items' : List ℕ} → Reached book n repeat draws before items → Reached book n repeat draws before' items'
      → length before < length before' → RoundOutOfRange (dist_at book n items) (length items) repeat (total_of repeat before) draws q → ⊥
  passed_good two before items q h h' l o = let e = passed h h' l in subst (Stops q) e.1 (search_stops two before items q h o)

  -- and as a draw of the last round it ends the search of that
  last_stops : 2 ≤ n → (last these : List ℕ) (D : Drawn Best) → Reached book n repeat draws last these → search_of book n repeat draws last these ≡ D
      → (before items : List ℕ) (q : ℕ) → Reached book n repeat draws before items → length before < length (last ++ (length these ∷ []))
      → RoundOutOfRange (dist_at book n items) (length items) repeat (total_of repeat before) draws q → Stops q D
  last_stops two last these D k e before items q h l o =
      by_cases (dec_lt (length before) (length last)) (λ g. absurd (passed_good two before items q h k g o))
      (λ g.
      let s = same_round h k (omega (arith, length-append last (length these ∷ []))) in
      subst (Stops q) (ap₂ (search_of book n repeat draws) s.0 s.1 ∙ e) (search_stops two before items q h o))

  pub in_range : 2 ≤ n → (r : Run) → CertainRun n r → Spends book n repeat 32 (all n) 0 draws r → (before items : List ℕ) (q : ℕ) → Reached book n repeat draws before items
      → length before < length (rounds_of r) → RoundOutOfRange (dist_at book n items) (length items) repeat (total_of repeat before) draws q → StoppedBy q r
  in_range two (done s ms read rest) c k before items q h l o =
      last_stops two k.before k.items (drawn (found k.best) rest) (reached_same book n repeat draws k.reached)
      (search_same book n repeat draws k.before k.items (drawn (found k.best) rest) k.cause) before items q h (subst (λ (v : List ℕ). length before < length v) k.rounds l) o
  in_range two (ended Rounds ms) c k before items q h l o = passed_good two before items q h (reached_same book n repeat draws k.reached) l o
  in_range two (ended (Short p) ms) c k before items q h l o = passed_good two before items q h (reached_same book n repeat draws k.reached) l o
  in_range two (ended (DrawOutOfRange p) ms) c k before items q h l o =
      last_stops two k.before k.items (refused p) (reached_same book n repeat draws k.reached)
      (search_same book n repeat draws k.before k.items (refused p) k.cause) before items q h (subst (λ (v : List ℕ). length before < length v) k.rounds l) o
  in_range two (ended ClusteringFailed ms) c k before items q h l o = c refl

  -- ---- how the partition is made
  abbrev pub MadeBy : (before items : List ℕ) → Run → Type 0
  MadeBy before items (done s ms read rest) = Made book n repeat draws before items s
  MadeBy before items (ended s ms) = Unit

  -- a round, from its own draws on
  abbrev round_at : (left : ℕ) (before items : List ℕ) → Run
  round_at left before items = round_of book n repeat left items (total_of repeat before) (drop (total_of repeat before) draws)

  module _ (left : ℕ) (ih : (before items : List ℕ) → 2 ≤ length items → MadeBy before items (round_at left before items)) (before items : List ℕ) (two : 2 ≤ length items) where
    module _ (c : Candidate) (q : Finds book n repeat draws before items c) where
      -- the round within, and the choice
      chosen_made : 2 < weak_in items c → (r : Run) → MadeBy (before ++ (length items ∷ [])) (rows_of items (weak_items (base_of (length items) c))) r
          → MadeBy before items (after_inner (dist_at book n items) (length items) (base_of (length items) c) r)
      chosen_made w (ended s ms) h = tt
      chosen_made w (done s ms read rest) h = by_test (lt (weak_mean (qualities_of c.scores (base_of (length items) c).groups)) (mean_quality (merged_in book n items c s))) refl
        where
          by_test : (t : Bool) → lt (weak_mean (qualities_of c.scores (base_of (length items) c).groups)) (mean_quality (merged_in book n items c s)) ≡ t
              → Made book n repeat draws before items (cond t (merged_in book n items c s) (base_of (length items) c))
          by_test true e = improved before items c s q w h e
          by_test false e = not_improved before items c s q w h e

      base_made : (t : Bool) → leb (weak_in items c) 2 ≡ t
          → MadeBy before items
          (cond t (done (base_of (length items) c) (length items ∷ []) (total_of repeat before + need_of repeat (length items)) (drop (total_of repeat before + need_of repeat (length items)) draws))
          (after_inner (dist_at book n items) (length items) (base_of (length items) c)
          (round_of book n repeat left (rows_of items (weak_items (base_of (length items) c))) (total_of repeat before + need_of repeat (length items))
          (drop (total_of repeat before + need_of repeat (length items)) draws))))
      base_made true e = few_weak before items c q (omega (arith, leb-true (weak_in items c) 2 e))
      base_made false e =
          let w : 2 < weak_in items c = leb-false (weak_in items c) 2 e in
          let inner = rows_of items (weak_items (base_of (length items) c)) in
          let z : total_of repeat (before ++ (length items ∷ [])) ≡ total_of repeat before + need_of repeat (length items) = draws_append repeat before (length items) in
          chosen_made w (round_of book n repeat left inner (total_of repeat before + need_of repeat (length items)) (drop (total_of repeat before + need_of repeat (length items)) draws))
          (subst (λ (i : ℕ). MadeBy (before ++ (length items ∷ [])) inner (round_of book n repeat left inner i (drop i draws))) z
          (ih (before ++ (length items ∷ [])) inner (next-some before items c two q w)))

    best_made : (D : Drawn Best) → search_of book n repeat draws before items ≡ D
        → MadeBy before items (after_opening (round_of book n repeat left) book n items (total_of repeat before + need_of repeat (length items)) (of_best (length items) D))
    unfolding after_opening
    best_made (drawn nothing rest) e = tt
    best_made (drawn (found c) rest) e =
        let q : Finds book n repeat draws before items c = search_rest book n repeat draws before items (found c) rest two e in
        let d : drawn (found c) rest ≡ drawn (found c) (drop (total_of repeat before + need_of repeat (length items)) draws) = sym e ∙ q in
        let r : rest ≡ drop (total_of repeat before + need_of repeat (length items)) draws = cc in
        rw r (base_made c q (leb (weak_in items c) 2) refl)
    best_made (refused p) e = tt

    opening_made : (t : Bool)
        → MadeBy before items (after_opening (round_of book n repeat left) book n items (total_of repeat before + need_of repeat (length items))
        (cond t (unstarted (Short (total_of repeat before)) []) (of_best (length items) (search_of book n repeat draws before items))))
    unfolding after_opening
    opening_made true = tt
    opening_made false = best_made (search_of book n repeat draws before items) refl

  made : (left : ℕ) (before items : List ℕ) → 2 ≤ length items → MadeBy before items (round_at left before items)
  unfolding round_of opening_of
  made zero before items two = tt
  made (suc left) before items two =
      opening_made left (made left) before items two (ltb (length (drop (total_of repeat before) draws)) (need_of repeat (length items)))

  pub run_made : 2 ≤ n → MadeBy [] (all n) (run_of book n repeat draws)
  unfolding run_of
  run_made two =
      subst (λ (i : ℕ). MadeBy [] (all n) (round_of book n repeat 32 (all n) i (drop i draws))) (draws_none repeat) (made 32 [] (all n) (omega (arith, all_length n)))
