-- The draws that a generator gives along a run are, one after the other, its next of the kind that the run takes there; the rounds that start take all of them; and
-- there are at most as many as the first round takes, for each round that is left.
use Prim.Native.Nat.{ℕ, zero, suc, ◌+◌, ◌*◌, ◌^◌, ◌<◌, ◌≤◌, zero-le}
use mathlib.Core.Path.{◌≡◌, refl, sym, ◌∙◌, ap, subst}
use mathlib.Core.Bool.{Bool, true, false, cond}
use mathlib.Core.List.{List, [], ◌∷◌, ◌++◌, append_assoc}
use mathlib.Core.Logic.{◌⊎◌, inl, inr, ⊎_elim}
use native.Mathlib.Nat.{suc-mul, mul-le-mul_left, not-suc-le-zero}
use native.Mathlib.Omega.{arith}
use borrow.Author.Tests.{le-ltb, leb-true, leb-false}
use lib.Dec.{leb}
use lib.ListN.{length, drop, length-append, length-map}
use lib.Ieee.{Float}
use Rattle.lists.specs.Lists.{listed, numbers}
use Rattle.lists.proofs.Listed.{length-listed}
use Rattle.draws.specs.Draws.{drawn}
use Rattle.distance.specs.Distance.{dist_at}
use Rattle.partition.specs.Partition.{State}
use Rattle.candidates.specs.Candidates.{Candidate, Best, nothing, found, best_of}
use Rattle.candidates.specs.Made.{Stretch, before}
use Rattle.candidates.specs.Kinds.{RoundKindAt}
use Rattle.candidates.proofs.Sourced.{best_made, repeats_long}
use Rattle.candidates.proofs.OfKinds.{round_kinded}
use Rattle.base.specs.Base.{base_of}
use Rattle.improve_merge.specs.Merging.{weak_items}
use Rattle.improve_merge.proofs.Merged.{weak_many, weak_few}
use Rattle.row_numbers.specs.Rows.{rows_of}
use Rattle.rng_std.specs.Seeds.{key_of}
use Rattle.rng_std.specs.Words.{word_of}
use Rattle.rng_std.proofs.Ranges.{word_below}
use Rattle.plusplus_seeded.specs.Kinds.{Kind}
use Rattle.plusplus_seeded.proofs.Fine.{append_none}
use Rattle.plusplus_seeded.proofs.OfKinds.{Kinded, kinded_none, kinded_then, kinded_map}
use Rattle.round.specs.Round.{Run, done, ended, Opening, of_best, opening_of, after_opening, after_inner, round_of, need_of, total_of}
use Rattle.round.specs.Made.{no_draws, inner_made, own_made, round_made, draws_from}
use Rattle.round.proofs.Runs.{weak_in, OpeningTook, opening_took}
use Rattle.round.proofs.Spends.{draws_none, draws_more, draws_one, need_mono}

-- the items of the weak groups of a candidate's base, as rows of the book
abbrev pub weak_rows : List ℕ → Candidate → List ℕ
weak_rows rows c = rows_of rows (weak_items (base_of (length rows) c))

-- a round over `rows'`, whose first draw has the place `at'`, is reached s rounds behind one over `rows`, whose first has the place `at`
pub data Behind (book : List Float) (n repeats : ℕ) (draws : List ℕ) : ℕ → ℕ → List ℕ → ℕ → List ℕ → Type 0 where
  here : (at : ℕ) (rows : List ℕ) → Behind book n repeats draws 0 at rows at rows
  later : (s at : ℕ) (rows : List ℕ) (c : Candidate) (rest : List ℕ) (at' : ℕ) (rows' : List ℕ)
      → best_of (dist_at book n rows) (length rows) repeats at (drop at draws) ≡ drawn (found c) rest → 2 < weak_in (base_of (length rows) c)
      → Behind book n repeats draws s (at + need_of repeats (length rows)) (weak_rows rows c) at' rows' → Behind book n repeats draws (suc s) at rows at' rows'

-- a round more
pub behind_next : (book : List Float) (n repeats : ℕ) (draws : List ℕ) {s at : ℕ} {rows : List ℕ} {at' : ℕ} {rows' : List ℕ} → Behind book n repeats draws s at rows at' rows'
    → (c : Candidate) (rest : List ℕ) → best_of (dist_at book n rows') (length rows') repeats at' (drop at' draws) ≡ drawn (found c) rest → 2 < weak_in (base_of (length rows') c)
    → Behind book n repeats draws (suc s) at rows (at' + need_of repeats (length rows')) (weak_rows rows' c)
behind_next book n repeats draws (here at rows) c rest e l = later 0 at rows c rest (at + need_of repeats (length rows)) (weak_rows rows c) e l (here _ _)
behind_next book n repeats draws (later s at rows d left at' rows' f g b) c rest e l =
    later (suc s) at rows d left (at' + need_of repeats (length rows')) (weak_rows rows' c) f g (behind_next book n repeats draws b c rest e l)

-- a round of the run, at most `left` from here, takes the draw at place p as one of this kind
abbrev pub RunKindAt : (book : List Float) (n repeats left : ℕ) → List ℕ → ℕ → List ℕ → ℕ → Kind → Type 0
RunKindAt book n repeats left rows at draws p kind =
    (s : ℕ) × (at' : ℕ) × (rows' : List ℕ) × (s < left) × Behind book n repeats draws s at rows at' rows' × RoundKindAt (dist_at book n rows') (length rows') repeats at' draws p kind

-- what stands behind the start of a round whose best is u: nothing, or the whole round on the weak rows
module _ (again : List ℕ → ℕ → Stretch) (rows : List ℕ) where
  abbrev inner_of : Best → ℕ → Stretch
  inner_of u i = inner_made again rows (of_best (length rows) (drawn u [])) i

  abbrev NoneLater : Best → Type 0
  NoneLater u = ((i : ℕ) → inner_of u i ≡ no_draws i) × ((c : Candidate) → u ≡ found c → weak_in (base_of (length rows) c) ≤ 2)

  abbrev SomeLater : Best → Type 0
  SomeLater u =
      (c : Candidate) × (u ≡ found c) × (2 < weak_in (base_of (length rows) c)) × (2 ≤ length (weak_rows rows c)) × (length (weak_rows rows c) ≤ length rows)
      × ((i : ℕ) → inner_of u i ≡ again (weak_rows rows c) i)

  inner_view : (u : Best) (c : ℕ) (ds : List ℕ) → OpeningTook c ds (length rows) (of_best (length rows) (drawn u [])) → NoneLater u ⊎ SomeLater u
  inner_view nothing c ds h = inl (λ i. refl, λ k e. let y : ◌≡◌ {A = ℕ} 0 1 = cc in let f : ⊥ = omega arith in absurd f)
  inner_view (found k) c ds h = by_test (leb (weak_in base) 2) refl
    where
      base : State
      base = base_of (length rows) k

      by_test : (t : Bool) → leb (weak_in base) 2 ≡ t → NoneLater (found k) ⊎ SomeLater (found k)
      by_test true e =
          inl (λ i. rw e refl, λ c f. let same : k ≡ c = cc in subst (λ (x : Candidate). weak_in (base_of (length rows) x) ≤ 2) same (omega (arith, leb-true (weak_in base) 2 e)))
      by_test false e =
          let long : length (weak_rows rows k) ≡ length (weak_items base) = length-map (weak_items base) (numbers rows) in
          let many : 2 < weak_in base = leb-false (weak_in base) 2 e in
          inr (k, refl, many, omega (arith, long, many, weak_many (length rows) base h.0), omega (arith, long, weak_few (length rows) base h.0), λ i. rw e refl)

module _ (w : ℕ → ℕ) (small : (i : ℕ) → w i < 2 ^ 32) (book : List Float) (n repeats : ℕ) where
  -- the start of a round, on its own draws
  module _ (rows : List ℕ) (two : 2 ≤ length rows) (i : ℕ) where
    some : 0 < length rows
    some = omega arith

    abbrev own : List ℕ
    own = (own_made w book n repeats rows i).draws

    -- what its search finds, at whatever place
    abbrev best_here : Best
    best_here = (best_made w small (dist_at book n rows) (length rows) some repeats i).0

    best_here_lem : (at : ℕ) (rest : List ℕ) → best_of (dist_at book n rows) (length rows) repeats at (own ++ rest) ≡ drawn best_here rest
    best_here_lem = (best_made w small (dist_at book n rows) (length rows) some repeats i).1

    own_long : length own ≡ need_of repeats (length rows)
    own_long = repeats_long w small (dist_at book n rows) (length rows) some repeats i

    opening_here : (read : ℕ) (rest : List ℕ) → opening_of book n repeats rows read (own ++ rest) ≡ of_best (length rows) (drawn best_here rest)
    unfolding opening_of
    opening_here read rest =
        let h : need_of repeats (length rows) ≤ length (own ++ rest) = omega (arith, length-append own rest, own_long) in
        rw (le-ltb (length (own ++ rest)) (need_of repeats (length rows)) h, best_here_lem read rest)

    opening_own : opening_of book n repeats rows 0 own ≡ of_best (length rows) (drawn best_here [])
    opening_own = ap (opening_of book n repeats rows 0) (sym (append_none own)) ∙ opening_here 0 []

    -- so what stands behind it
    later_here : (again : List ℕ → ℕ → Stretch) → NoneLater again rows best_here ⊎ SomeLater again rows best_here
    later_here again =
        inner_view again rows best_here (need_of repeats (length rows)) own
        (subst (OpeningTook (need_of repeats (length rows)) own (length rows)) opening_own (opening_took book n repeats rows 0 own two))

  module _ (left : ℕ) (rows : List ℕ) (two : 2 ≤ length rows) (i : ℕ) where
    -- those behind its start
    abbrev inner : Stretch
    inner = inner_of (round_made w book n repeats left) rows (best_here rows two i) (own_made w book n repeats rows i).next

    made_is : round_made w book n repeats (suc left) rows i ≡ before (own rows two i) inner
    unfolding round_made
    made_is =
        let own' = own_made w book n repeats rows i in
        ap (λ (O : Opening). before own'.draws (inner_made (round_made w book n repeats left) rows O own'.next)) (opening_own rows two i)

    -- ---- how many draws there are
    inner_few : ((rows' : List ℕ) (i' : ℕ) → 2 ≤ length rows' → length (round_made w book n repeats left rows' i').draws ≤ left * need_of repeats (length rows'))
        → length inner.draws ≤ left * need_of repeats (length rows)
    inner_few ih =
        let i' = (own_made w book n repeats rows i).next in
        ⊎_elim (λ none. rw (none.0 i') zero-le)
        (λ more.
        let few = ih (weak_rows rows more.0) i' more.3 in
        let less : left * need_of repeats (length (weak_rows rows more.0)) ≤ left * need_of repeats (length rows) =
        mul-le-mul_left left (need_mono repeats (length (weak_rows rows more.0)) (length rows) more.4) in
        rw (more.5 i') (omega (arith, few, less)))
        (later_here rows two i (round_made w book n repeats left))

    -- ---- their kinds
    abbrev InnerKindAt : ℕ → List ℕ → ℕ → Kind → Type 0
    InnerKindAt at draws p kind =
        (c : Candidate) × (best_here rows two i ≡ found c) × (2 < weak_in (base_of (length rows) c)) × RunKindAt book n repeats left (weak_rows rows c) at draws p kind

    inner_kinded : ((rows' : List ℕ) (i' : ℕ) → 2 ≤ length rows'
        → Kinded w i' (round_made w book n repeats left rows' i').draws (round_made w book n repeats left rows' i').next (RunKindAt book n repeats left rows'))
        → Kinded w (own_made w book n repeats rows i).next inner.draws inner.next InnerKindAt
    inner_kinded ih =
        let i' = (own_made w book n repeats rows i).next in
        ⊎_elim
        (λ none.
        subst (λ (s : Stretch). Kinded w i' s.draws s.next InnerKindAt) (sym (none.0 i'))
        (kinded_none w i' InnerKindAt (λ at draws p kind h. omega (arith, none.1 h.0 h.1, h.2))))
        (λ more.
        subst (λ (s : Stretch). Kinded w i' s.draws s.next InnerKindAt) (sym (more.5 i'))
        (kinded_map (ih (weak_rows rows more.0) i' more.3) InnerKindAt
        (λ at draws p kind h.
        let f : found h.0 ≡ found more.0 = sym h.1 ∙ more.1 in
        let same : h.0 ≡ more.0 = cc in
        subst (λ (c : Candidate). RunKindAt book n repeats left (weak_rows rows c) at draws p kind) same h.3)
        (λ at draws p kind h. (more.0, more.1, more.2, h))))
        (later_here rows two i (round_made w book n repeats left))

    -- a draw of the round itself, or of one behind it
    module _ (at : ℕ) (draws after : List ℕ) (d : drop at draws ≡ own rows two i ++ after) (p : ℕ) (kind : Kind) where
      finds : best_of (dist_at book n rows) (length rows) repeats at (drop at draws) ≡ drawn (best_here rows two i) after
      finds = ap (best_of (dist_at book n rows) (length rows) repeats at) d ∙ best_here_lem rows two i at after

      place : at + need_of repeats (length rows) ≡ at + length (own rows two i)
      place = ap (λ (x : ℕ). at + x) (sym (own_long rows two i))

      run_parts : (s at' : ℕ) (rows' : List ℕ) → s < suc left → Behind book n repeats draws s at rows at' rows' → RoundKindAt (dist_at book n rows') (length rows') repeats at' draws p kind
          → RoundKindAt (dist_at book n rows) (length rows) repeats at draws p kind ⊎ InnerKindAt (at + length (own rows two i)) draws p kind
      run_parts s at' rows' l (here _ _) h = inl h
      run_parts s at' rows' l (later s' _ _ c rest _ _ e many b) h =
          let f : drawn (best_here rows two i) after ≡ drawn (found c) rest = sym finds ∙ e in
          let same : best_here rows two i ≡ found c = cc in
          inr (c, same, many, (s', at', rows', omega (arith, l), subst (λ (x : ℕ). Behind book n repeats draws s' x (weak_rows rows c) at' rows') place b, h))

      run_joins : RoundKindAt (dist_at book n rows) (length rows) repeats at draws p kind ⊎ InnerKindAt (at + length (own rows two i)) draws p kind
          → RunKindAt book n repeats (suc left) rows at draws p kind
      run_joins (inl h) = (0, at, rows, omega arith, here at rows, h)
      run_joins (inr (c, same, many, (s, at', rows', l, b, h))) = (
        suc s,
        at',
        rows',
        omega (arith, l),
        later s at rows c after at' rows' (finds ∙ ap (λ (u : Best). drawn u after) same) many (subst (λ (x : ℕ). Behind book n repeats draws s x (weak_rows rows c) at' rows') (sym place) b),
        h,
      )

  pub made_few : (left : ℕ) (rows : List ℕ) (i : ℕ) → 2 ≤ length rows → length (round_made w book n repeats left rows i).draws ≤ left * need_of repeats (length rows)
  unfolding round_made
  made_few zero rows i two = zero-le
  made_few (suc left) rows i two =
      let few = inner_few left rows two i (made_few left) in
      omega (arith, ap (λ (s : Stretch). length s.draws) (made_is left rows two i), length-append (own rows two i) (inner left rows two i).draws, own_long rows two i, few, suc-mul left (need_of repeats (length rows)))

  -- The draws of a round and of those behind it: each place has the kind that the run takes there.
  pub run_kinded : (left : ℕ) (rows : List ℕ) (i : ℕ) → 2 ≤ length rows
      → Kinded w i (round_made w book n repeats left rows i).draws (round_made w book n repeats left rows i).next (RunKindAt book n repeats left rows)
  unfolding round_made
  run_kinded zero rows i two = kinded_none w i (RunKindAt book n repeats 0 rows) (λ at draws p kind h. not-suc-le-zero h.3)
  run_kinded (suc left) rows i two =
      subst (λ (s : Stretch). Kinded w i s.draws s.next (RunKindAt book n repeats (suc left) rows)) (sym (made_is left rows two i))
      (kinded_then (round_kinded w small (dist_at book n rows) (length rows) (some rows two i) repeats i) (inner_kinded left rows two i (run_kinded left)) (RunKindAt book n repeats (suc left) rows)
      (λ at draws after d p kind h. run_parts left rows two i at draws ((inner left rows two i).draws ++ after) d p kind h.0 h.1 h.2 h.3 h.4 h.5)
      (λ at draws after d. run_joins left rows two i at draws ((inner left rows two i).draws ++ after) d))

-- the number of items of each round that started
abbrev pub started_in : Run → List ℕ
started_in (done s ms read rest) = ms
started_in (ended q ms) = ms

after_started : (x : ℕ → ℕ → Float) (m : ℕ) (base : State) (r : Run) → started_in (after_inner x m base r) ≡ m ∷ started_in r
after_started x m base (done s ms read rest) = refl
after_started x m base (ended q ms) = refl

module _ (w : ℕ → ℕ) (small : (i : ℕ) → w i < 2 ^ 32) (book : List Float) (n repeats : ℕ) where
  -- the draws that a round takes, and those behind its start
  module _ (left : ℕ) (rows : List ℕ) (read i : ℕ) (rest : List ℕ)
      (ih : (rows' : List ℕ) (read' i' : ℕ) → 2 ≤ length rows'
      → total_of repeats (started_in (round_of book n repeats left rows' read' ((round_made w book n repeats left rows' i').draws ++ rest))) ≡ length (round_made w book n repeats left rows' i').draws) where
    after_total : (u : Best) (c : ℕ) (ds : List ℕ) → OpeningTook c ds (length rows) (of_best (length rows) (drawn u []))
        → total_of repeats (started_in (after_opening (round_of book n repeats left) book n rows read
        (of_best (length rows) (drawn u ((inner_of (round_made w book n repeats left) rows u i).draws ++ rest)))))
        ≡ need_of repeats (length rows) + length (inner_of (round_made w book n repeats left) rows u i).draws
    unfolding after_opening
    after_total nothing c ds h = omega (arith, draws_one repeats (length rows))
    after_total (found k) c ds h = by_test (leb (weak_in (base_of (length rows) k)) 2) refl
      where
        by_test : (t : Bool) → leb (weak_in (base_of (length rows) k)) 2 ≡ t
            → total_of repeats (started_in (cond t
            (done (base_of (length rows) k) (length rows ∷ []) read ((cond t (no_draws i) (round_made w book n repeats left (weak_rows rows k) i)).draws ++ rest))
            (after_inner (dist_at book n rows) (length rows) (base_of (length rows) k)
            (round_of book n repeats left (weak_rows rows k) read ((cond t (no_draws i) (round_made w book n repeats left (weak_rows rows k) i)).draws ++ rest)))))
            ≡ need_of repeats (length rows) + length (cond t (no_draws i) (round_made w book n repeats left (weak_rows rows k) i)).draws
        by_test true e = omega (arith, draws_one repeats (length rows))
        by_test false e =
            let base = base_of (length rows) k in
            let two : 2 ≤ length (weak_rows rows k) = omega (arith, length-map (weak_items base) (numbers rows), leb-false (weak_in base) 2 e, weak_many (length rows) base h.0) in
            let r = round_of book n repeats left (weak_rows rows k) read ((round_made w book n repeats left (weak_rows rows k) i).draws ++ rest) in
            ap (total_of repeats) (after_started (dist_at book n rows) (length rows) base r)
            ∙ draws_more repeats (length rows) (started_in r) ∙ ap (λ (c : ℕ). need_of repeats (length rows) + c) (ih (weak_rows rows k) read i two)

  round_total : (left : ℕ) (rows : List ℕ) (read i : ℕ) (rest : List ℕ) → 2 ≤ length rows
      → total_of repeats (started_in (round_of book n repeats left rows read ((round_made w book n repeats left rows i).draws ++ rest))) ≡ length (round_made w book n repeats left rows i).draws
  unfolding round_of round_made
  round_total zero rows read i rest two = draws_none repeats
  round_total (suc left) rows read i rest two =
      let ds = own w small book n repeats rows two i in
      let in' = (inner w small book n repeats left rows two i).draws in
      let u = best_here w small book n repeats rows two i in
      let o : opening_of book n repeats rows read ((ds ++ in') ++ rest) ≡ of_best (length rows) (drawn u (in' ++ rest)) =
      ap (opening_of book n repeats rows read) (append_assoc ds in' rest) ∙ opening_here w small book n repeats rows two i read (in' ++ rest) in
      let took = subst (OpeningTook (need_of repeats (length rows)) ds (length rows)) (opening_own w small book n repeats rows two i) (opening_took book n repeats rows 0 ds two) in
      let t = after_total left rows (read + need_of repeats (length rows)) (own_made w book n repeats rows i).next rest (λ rows' read' i' h. round_total left rows' read' i' rest h) u
      (need_of repeats (length rows)) ds took in
      let long : length (ds ++ in') ≡ need_of repeats (length rows) + length in' = omega (arith, length-append ds in', own_long w small book n repeats rows two i) in
      subst (λ (s : Stretch). total_of repeats (started_in (after_opening (round_of book n repeats left) book n rows (read + need_of repeats (length rows)) (opening_of book n repeats rows read (s.draws ++ rest)))) ≡ length s.draws)
      (sym (made_is w small book n repeats left rows two i))
      (ap (λ (O : Opening). total_of repeats (started_in (after_opening (round_of book n repeats left) book n rows (read + need_of repeats (length rows)) O))) o ∙ t ∙ sym long)

-- the draws of a seed
module _ (seed : ℕ) (book : List Float) (n repeats : ℕ) (two : 2 ≤ n) where
  all_two : 2 ≤ length (listed (λ (i : ℕ). i) n)
  all_two = rw (length-listed (λ i. i) n) two

  pub seed_kinds : Kinded (word_of (key_of seed)) 0 (draws_from seed book n repeats) (round_made (word_of (key_of seed)) book n repeats 32 (listed (λ i. i) n) 0).next
      (RunKindAt book n repeats 32 (listed (λ i. i) n))
  seed_kinds = run_kinded (word_of (key_of seed)) (word_below (key_of seed)) book n repeats 32 (listed (λ i. i) n) 0 all_two

  -- the rounds that start take all of them
  pub seed_total : total_of repeats (started_in (round_of book n repeats 32 (listed (λ i. i) n) 0 (draws_from seed book n repeats))) ≡ length (draws_from seed book n repeats)
  seed_total =
      subst (λ (l : List ℕ). total_of repeats (started_in (round_of book n repeats 32 (listed (λ i. i) n) 0 l)) ≡ length (draws_from seed book n repeats)) (append_none (draws_from seed book n repeats))
      (round_total (word_of (key_of seed)) (word_below (key_of seed)) book n repeats 32 (listed (λ i. i) n) 0 _ [] all_two)

  pub seed_most : length (draws_from seed book n repeats) ≤ 32 * need_of repeats n
  seed_most =
      subst (λ (m : ℕ). length (draws_from seed book n repeats) ≤ 32 * need_of repeats m) (length-listed (λ i. i) n)
      (made_few (word_of (key_of seed)) (word_below (key_of seed)) book n repeats 32 (listed (λ i. i) n) _ all_two)
