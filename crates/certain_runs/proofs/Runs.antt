-- The rounds of a run: none ends for want of a candidate, and a partition that a run ends in has scores within -1..1.
use Prim.Native.Nat.{ℕ, zero, suc, ◌+◌, ◌≤◌}
use mathlib.Core.Path.{◌≡◌, refl, ap, ◌∙◌, subst}
use mathlib.Core.Bool.{Bool, true, false, cond}
use mathlib.Core.List.{List, [], ◌∷◌}
use native.Mathlib.Omega.{arith}
use borrow.Author.Tests.{leb-false}
use lib.Dec.{ltb, leb}
use lib.ListN.{length, length-map}
use lib.Ieee.{Float}
use Rattle.lists.specs.Lists.{numbers}
use Rattle.draws.specs.Draws.{Drawn, drawn, refused}
use Rattle.draws.specs.declared.Stop.TheVariants.{Short}
use Rattle.draws.proofs.Taken.{Ends}
use Rattle.distance.specs.Distance.{dist_at}
use Rattle.partition.specs.Partition.{Partition, State}
use Rattle.candidates.specs.Candidates.{Best, nothing, found, best_of}
use Rattle.row_numbers.specs.Rows.{rows_of}
use Rattle.improve_merge.specs.Merging.{weak_items}
use Rattle.improve_merge.proofs.Merged.{weak_few, weak_many}
use Rattle.round.specs.Round.{Run, done, ended, Opening, started, unstarted, of_best, opening_of, after_opening, after_inner, round_of, need_of}
use Rattle.round.proofs.Runs.{weak_in, Whole, whole, OpeningTook, opening_took, round_again}
use Rattle.certain_holes.proofs.Distances.{book_distances}
use Rattle.certain_runs.specs.Certain.{InRange, CertainRun, CertainRounds, NotKept, RoundsClaim}
use Rattle.certain_runs.proofs.Best.{Ranged, best_range}
use Rattle.certain_runs.proofs.Choice.{nan_not_kept, better_range}

-- ---- how a round starts
abbrev Opens : ℕ → Opening → Type 0
Opens m (started base rest) = InRange m base.scores
Opens m (unstarted q ms) = CertainRun m (ended q ms)

opens : (book : List Float) (n repeats : ℕ) (rows : List ℕ) (read : ℕ) (ds : List ℕ) → 2 ≤ length rows → length rows ≤ 256 → 1 ≤ repeats
    → Opens (length rows) (opening_of book n repeats rows read ds)
unfolding opening_of
opens book n repeats rows read ds two few some = by_test (ltb (length ds) (need_of repeats (length rows)))
  where
    x : ℕ → ℕ → Float
    x = dist_at book n rows

    of_best_lem : (D : Drawn Best) → Ends (λ b rest. Ranged x (length rows) (book_distances book n rows) few b) (λ p. Unit) D → Opens (length rows) (of_best (length rows) D)
    of_best_lem (drawn nothing rest) h = absurd h
    of_best_lem (drawn (found c) rest) h = h
    of_best_lem (refused p) h = λ e. omega arith

    by_test : (t : Bool) → Opens (length rows) (cond t (unstarted (Short read) []) (of_best (length rows) (best_of x (length rows) repeats read ds)))
    by_test true = λ e. omega arith
    by_test false =
        of_best_lem (best_of x (length rows) repeats read ds) (best_range x (length rows) (book_distances book n rows) few repeats two some read ds)

-- ---- how a run ends
module _ (book : List Float) (n repeats left : ℕ) (rows : List ℕ) (read : ℕ) (few : length rows ≤ 256) where
  abbrev Before : Type 0
  Before = (rows : List ℕ) (read : ℕ) (ds : List ℕ) → 2 ≤ length rows → length rows ≤ 256 → CertainRun (length rows) (round_of book n repeats left rows read ds)

  inner_certain : (base : State) → Partition (length rows) base.groups → InRange (length rows) base.scores → (r : Run) → Whole (length (weak_items base)) r → CertainRun (length (weak_items base)) r
      → CertainRun (length rows) (after_inner (dist_at book n rows) (length rows) base r)
  inner_certain base h g (ended q ms) w c = c
  inner_certain base h g (done s ms last rest) w c = better_range (dist_at book n rows) (length rows) (book_distances book n rows) few base s.groups h w.0 g

  started_certain : Before → (base : State) (rest : List ℕ) → Partition (length rows) base.groups → InRange (length rows) base.scores → (t : Bool) → leb (weak_in base) 2 ≡ t
      → CertainRun (length rows) (cond t (done base (length rows ∷ []) read rest) (after_inner (dist_at book n rows) (length rows) base (round_of book n repeats left (rows_of rows (weak_items base)) read rest)))
  started_certain ih base rest h g true e = g
  started_certain ih base rest h g false e =
      let long : length (rows_of rows (weak_items base)) ≡ length (weak_items base) = length-map (weak_items base) (numbers rows) in
      let some : 2 ≤ length (rows_of rows (weak_items base)) = omega (arith, long, leb-false (weak_in base) 2 e, weak_many (length rows) base h) in
      let less : length (rows_of rows (weak_items base)) ≤ 256 = omega (arith, long, weak_few (length rows) base h) in
      let r = round_of book n repeats left (rows_of rows (weak_items base)) read rest in
      inner_certain base h g r (subst (λ (k : ℕ). Whole k r) long (whole book n repeats left (rows_of rows (weak_items base)) read rest some))
      (subst (λ (k : ℕ). CertainRun k r) long (ih (rows_of rows (weak_items base)) read rest some less))

  after_certain : Before → (c : ℕ) (ds : List ℕ) (o : Opening) → OpeningTook c ds (length rows) o → Opens (length rows) o
      → CertainRun (length rows) (after_opening (round_of book n repeats left) book n rows read o)
  unfolding after_opening
  after_certain ih c ds (unstarted q ms) h g = g
  after_certain ih c ds (started base rest) h g = started_certain ih base rest h.0 g (leb (weak_in base) 2) refl

certain : CertainRounds
unfolding round_of
certain book n repeats zero some rows read ds two few = λ e. omega arith
certain book n repeats (suc left) some rows read ds two few =
    after_certain book n repeats left rows (read + need_of repeats (length rows)) few (certain book n repeats left some) (need_of repeats (length rows)) ds (opening_of book n repeats rows read ds)
    (opening_took book n repeats rows read ds two) (opens book n repeats rows read ds two few some)

-- ---- a re-clustering with a NaN among its scores
not_kept : NotKept
not_kept book n repeats left rows read ds two base rest o h inner ms last behind r i l e =
    let took : OpeningTook (need_of repeats (length rows)) ds (length rows) (started base rest) =
    subst (OpeningTook (need_of repeats (length rows)) ds (length rows)) o (opening_took book n repeats rows read ds two) in
    let long : length (rows_of rows (weak_items base)) ≡ length (weak_items base) = length-map (weak_items base) (numbers rows) in
    let some : 2 ≤ length (rows_of rows (weak_items base)) = omega (arith, long, weak_many (length rows) base took.0) in
    let part : Whole (length (rows_of rows (weak_items base))) (done inner ms last behind) =
    subst (Whole (length (rows_of rows (weak_items base)))) r (whole book n repeats left (rows_of rows (weak_items base)) (read + need_of repeats (length rows)) rest some) in
    round_again book n repeats left rows read ds base rest o h
    ∙ ap (after_inner (dist_at book n rows) (length rows) base) r
    ∙ ap (λ (s : State). done s (length rows ∷ ms) last behind)
    (nan_not_kept (dist_at book n rows) (length rows) base inner.groups took.0 (subst (λ (k : ℕ). Partition k inner.groups) long part.0) i l e)

pub rounds : RoundsClaim
rounds = record { certain = certain; not_kept = not_kept }
