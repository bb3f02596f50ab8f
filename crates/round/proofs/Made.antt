-- A run by the draws that a generator gave along it takes all of them, and ends by none of the refusals of draws.
use Prim.Native.Nat.{ℕ, zero, suc, ◌+◌, ◌^◌, ◌<◌, ◌≤◌}
use mathlib.Core.Path.{◌≡◌, refl, sym, ◌∙◌, ap, subst}
use mathlib.Core.Bool.{Bool, true, false, cond}
use mathlib.Core.List.{List, [], ◌∷◌, ◌++◌, append_assoc}
use native.Mathlib.Omega.{arith}
use borrow.Author.Tests.{le-ltb, leb-false}
use lib.Dec.{leb}
use lib.ListN.{length, length-append, length-map}
use lib.Ieee.{Float}
use Rattle.lists.specs.Lists.{listed, numbers}
use Rattle.lists.proofs.Listed.{length-listed}
use Rattle.draws.specs.Draws.{drawn}
use Rattle.draws.specs.declared.Stop.{Stop}
use Rattle.draws.specs.declared.Stop.TheVariants.{Rounds, Short, DrawOutOfRange, ClusteringFailed}
use Rattle.distance.specs.Distance.{dist_at}
use Rattle.partition.specs.Partition.{State}
use Rattle.candidates.specs.Candidates.{Best, nothing, found}
use Rattle.candidates.proofs.Sourced.{best_made, repeats_long}
use Rattle.base.specs.Base.{base_of}
use Rattle.improve_merge.specs.Merging.{weak_items}
use Rattle.improve_merge.proofs.Merged.{weak_many}
use Rattle.row_numbers.specs.Rows.{rows_of}
use Rattle.rng_std.specs.Seeds.{key_of}
use Rattle.rng_std.specs.Words.{word_of}
use Rattle.rng_std.proofs.Ranges.{word_below}
use Rattle.plusplus_seeded.proofs.Fine.{append_none}
use Rattle.round.specs.Round.{Run, done, ended, Opening, of_best, opening_of, after_opening, after_inner, round_of, need_of}
use Rattle.round.specs.Made.{no_draws, inner_made, own_made, round_made, draws_from}
use Rattle.round.proofs.Runs.{weak_in, OpeningTook, opening_took}

-- what ends a run for another cause than its draws
abbrev pub NoDraw : Stop → Type 0
NoDraw Rounds = Unit
NoDraw ClusteringFailed = Unit
NoDraw (Short read) = ⊥
NoDraw (DrawOutOfRange p) = ⊥

-- a run that leaves these draws, or ends for another cause than its draws
abbrev pub Leaves : List ℕ → Run → Type 0
Leaves rest (done s ms read left) = left ≡ rest
Leaves rest (ended q ms) = NoDraw q

after_leaves : (x : ℕ → ℕ → Float) (m : ℕ) (base : State) (rest : List ℕ) (r : Run) → Leaves rest r → Leaves rest (after_inner x m base r)
after_leaves x m base rest (done s ms read left) h = h
after_leaves x m base rest (ended q ms) h = h

module _ (w : ℕ → ℕ) (small : (i : ℕ) → w i < 2 ^ 32) (book : List Float) (n repeats : ℕ) where
  -- a start, on its own draws and whatever stands behind them
  pub opening_made : (rows : List ℕ) → 2 ≤ length rows → (i : ℕ)
      → (u : Best) × ((read : ℕ) (rest : List ℕ) → opening_of book n repeats rows read ((own_made w book n repeats rows i).draws ++ rest) ≡ of_best (length rows) (drawn u rest))
  unfolding opening_of
  opening_made rows two i =
      let m = length rows in
      let some : 0 < length rows = omega arith in
      let x = dist_at book n rows in
      let ds = (own_made w book n repeats rows i).draws in
      let b = best_made w small x m some repeats i in (
        b.0,
        λ read rest.
            let h : need_of repeats m ≤ length (ds ++ rest) = omega (arith, length-append ds rest, repeats_long w small x m some repeats i) in
            rw (le-ltb (length (ds ++ rest)) (need_of repeats m) h, b.1 read rest),
      )

  module _ (left : ℕ) (rows : List ℕ) (read i : ℕ) (rest : List ℕ)
      (inner : (rows' : List ℕ) (read' i' : ℕ) → 2 ≤ length rows' → Leaves rest (round_of book n repeats left rows' read' ((round_made w book n repeats left rows' i').draws ++ rest))) where
    -- the round after its start, by the best
    after_made : (u : Best) (ds : List ℕ) → OpeningTook (need_of repeats (length rows)) ds (length rows) (of_best (length rows) (drawn u []))
        → Leaves rest (after_opening (round_of book n repeats left) book n rows read
        (of_best (length rows) (drawn u ((inner_made (round_made w book n repeats left) rows (of_best (length rows) (drawn u [])) i).draws ++ rest))))
    unfolding after_opening
    after_made nothing ds h = tt
    after_made (found c) ds h = by_test (leb (weak_in (base_of (length rows) c)) 2) refl
      where
        by_test : (t : Bool) → leb (weak_in (base_of (length rows) c)) 2 ≡ t
            → Leaves rest (cond t
            (done (base_of (length rows) c) (length rows ∷ []) read ((cond t (no_draws i) (round_made w book n repeats left (rows_of rows (weak_items (base_of (length rows) c))) i)).draws ++ rest))
            (after_inner (dist_at book n rows) (length rows) (base_of (length rows) c)
            (round_of book n repeats left (rows_of rows (weak_items (base_of (length rows) c))) read ((cond t (no_draws i) (round_made w book n repeats left (rows_of rows (weak_items (base_of (length rows) c))) i)).draws ++ rest))))
        by_test true e = refl
        by_test false e =
            let base = base_of (length rows) c in
            let weak : 2 ≤ length (rows_of rows (weak_items base)) = omega (arith, length-map (weak_items base) (numbers rows), leb-false (weak_in base) 2 e, weak_many (length rows) base h.0) in
            after_leaves (dist_at book n rows) (length rows) (base_of (length rows) c) rest
            (round_of book n repeats left (rows_of rows (weak_items base)) read ((round_made w book n repeats left (rows_of rows (weak_items base)) i).draws ++ rest)) (inner (rows_of rows (weak_items (base_of (length rows) c))) read i weak)

  pub round_made_lem : (left : ℕ) (rows : List ℕ) (read i : ℕ) (rest : List ℕ) → 2 ≤ length rows
      → Leaves rest (round_of book n repeats left rows read ((round_made w book n repeats left rows i).draws ++ rest))
  unfolding round_of round_made
  round_made_lem zero rows read i rest some = tt
  round_made_lem (suc left) rows read i rest some =
      let o = opening_made rows some i in
      let own = own_made w book n repeats rows i in
      let later : Opening → List ℕ = λ (O : Opening). (inner_made (round_made w book n repeats left) rows O own.next).draws in
      let O = of_best (length rows) (drawn o.0 []) in
      let e : opening_of book n repeats rows 0 own.draws ≡ O = ap (opening_of book n repeats rows 0) (sym (append_none own.draws)) ∙ o.1 0 [] in
      let f : opening_of book n repeats rows read ((own.draws ++ later O) ++ rest) ≡ of_best (length rows) (drawn o.0 (later O ++ rest)) =
      ap (opening_of book n repeats rows read) (append_assoc own.draws (later O) rest) ∙ o.1 read (later O ++ rest) in
      subst (λ (P : Opening). Leaves rest (after_opening (round_of book n repeats left) book n rows (read + need_of repeats (length rows)) (opening_of book n repeats rows read ((own.draws ++ later P) ++ rest)))) (sym e)
      (subst (λ (P : Opening). Leaves rest (after_opening (round_of book n repeats left) book n rows (read + need_of repeats (length rows)) P)) (sym f)
      (after_made left rows (read + need_of repeats (length rows)) own.next rest (λ rows' read' i' h. round_made_lem left rows' read' i' rest h) o.0 own.draws
      (subst (OpeningTook (need_of repeats (length rows)) own.draws (length rows)) e (opening_took book n repeats rows 0 own.draws some))))

-- The run on the draws of a seed takes all of them, and is not refused by 7 or 8.
pub seed_run : (seed : ℕ) (book : List Float) (n repeats : ℕ) → 2 ≤ n → Leaves [] (round_of book n repeats 32 (listed (λ i. i) n) 0 (draws_from seed book n repeats))
seed_run seed book n repeats some =
    subst (λ (l : List ℕ). Leaves [] (round_of book n repeats 32 (listed (λ i. i) n) 0 l)) (append_none (draws_from seed book n repeats))
    (round_made_lem (word_of (key_of seed)) (word_below (key_of seed)) book n repeats 32 (listed (λ i. i) n) 0 _ [] (rw (length-listed (λ i. i) n) some))
