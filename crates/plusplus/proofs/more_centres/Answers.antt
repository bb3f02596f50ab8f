use Rattle.std.specs.Prelude.{Ok}
use Rattle.std.proofs.lemmas.Result.{err_from_is_err_and}
use Prim.Native.Nat.{◌+◌}
use mathlib.Core.Path.{◌∙◌, ◌≡◌, refl, sym}
use mathlib.Core.List.{[], ◌++◌, ◌∷◌}
use native.Mathlib.Omega.{arith}
use native.Mathlib.Numerals.{add-one}
use lib.ListN.{drop, length, length-set, set, take}
use lib.Seq.{take_all, take-suc-set}
use Rattle.plusplus.specs.Seeding.{Weights}
use Rattle.draws.specs.Draws.{Drawn}
use Rattle.draws.specs.Counts.{trials_of}
use Rattle.plusplus_trials.specs.Trials.{next_of, table, tried_of}
use Rattle.draws.proofs.Counting.{trials_some}
use Rattle.plusplus.proofs.Turns.{centre_best, centre_none, centre_stopped, seeded_done, seeded_stopped, turn_next}
use Rattle.plusplus_pick.specs.declared.Trial.{Trial}
use Rattle.plusplus.proofs.more_centres.Goals as goal
use Rattle.plusplus.proofs.more_centres.Goals.{After-next_centre, In-loop-j}

-- the search of a turn
abbrev found : After-next_centre → Drawn Trial
found c =
    let a = c.args in
    let m = length a.weights.now in
    next_of (table a.squares.now m) m (trials_of (length a.centres.now)) c.loop-j.weights c.loop-j.at (drop c.loop-j.at a.draws.now)

tried-is : (c : After-next_centre) → c.next_centre.result ≡ tried_of (found c)
tried-is c = let l = c.loop-j in rw (l.invariant.6, l.invariant.1) at c.next_centre.ensures.value

weights-are : (c : After-next_centre)
    → Weights (table c.args.squares.now (length c.args.weights.now)) (length c.args.weights.now) c.loop-j.weights (found c) c.next_centre.new.weights
weights-are c = let l = c.loop-j in rw (l.invariant.6, l.invariant.1) at c.next_centre.ensures.weights

pub returns-in_err-b : goal.returns-in_err-b
returns-in_err-b c =
    let a = c.args in
    let l = c.loop-j in
    let m = length a.weights.now in
    let k = length a.centres.now in
    let e = sym (tried-is (goal.at.returns-in_err-b c).After-next_centre) ∙ c.in_err-b.was in
    let v = centre_stopped (table a.squares.now m) m (trials_of k) c.requires.weighed.0.some (trials_some k) k l.j l.at l.weights (take l.j l.centres) a.draws.now c.loop-j-test.true e in
    let x = err_from_is_err_and c.from_residual.result c.from_residual.ensures.1 in
    rw (x.1, x.2) (seeded_stopped _ _ _ _ (v.0, l.invariant.7 ∙ v.1, v.2))

pub loop-j-preserved : goal.loop-j-preserved
loop-j-preserved c =
    let a = c.args in
    let l = c.loop-j in
    let m = length a.weights.now in
    let k = length a.centres.now in
    let b = c.in_ok-b.b in
    let h = c.loop-j-test.true in
    let e : tried_of (found (goal.at.loop-j-preserved c).After-next_centre) ≡ Ok b = sym (tried-is (goal.at.loop-j-preserved c).After-next_centre) ∙ c.in_ok-b.was in
    let r : take (l.j + 1) (set l.centres l.j b.pick) ≡ take l.j l.centres ++ (b.pick ∷ []) = rw add-one (take-suc-set l.centres l.j b.pick (omega (arith, l.invariant.5, h))) in (
      refl,
      l.invariant.1,
      omega arith,
      omega (arith, h),
      omega (arith, l.invariant.1, l.invariant.4, turn_next l.j (trials_of k) l.invariant.2),
      simp length-set l.invariant.5,
      c.next_centre.auto.weights ∙ l.invariant.6,
      rw (l.invariant.1, r) (l.invariant.7 ∙ centre_best (table a.squares.now m) m (trials_of k) c.requires.weighed.0.some (trials_some k) k l.j l.at b l.weights c.next_centre.new.weights (take l.j l.centres) a.draws.now h e (weights-are (goal.at.loop-j-preserved c).After-next_centre)),
      c.next_centre.auto.sums ∙ l.invariant.8,
    )

pub returns : goal.returns
returns c =
    let a = c.args in
    let l = c.loop-j in
    let m = length a.weights.now in
    let k = length a.centres.now in
    let j : l.j ≡ k = omega arith in
    seeded_done _ _ _ _ _ _ (l.invariant.7 ∙ centre_none (table a.squares.now m) m (trials_of k) c.requires.weighed.0.some (trials_some k) k l.j l.at l.weights (take l.j l.centres) (drop l.at a.draws.now) (omega arith))
    (sym (take_all l.j l.centres (omega (arith, l.invariant.5)))) (l.invariant.4 ∙ rw j refl)
