use Rattle.std.proofs.lemmas.Result.{err_from_is_err_and}
use Prim.Native.Nat.{◌-◌, ◌<◌, ◌≤◌, ℕ}
use mathlib.Core.Path.{◌∙◌, ◌≡◌, ap, refl, subst, sym}
use native.Mathlib.Omega.{arith}
use lib.Ieee.{Float}
use Rattle.plusplus_seeded.specs.declared.Source.{Source}
use Rattle.draws.specs.Counts.{count_of, seedings_of, tries}
use Rattle.plusplus_seeded.specs.Sources.{RngOf, moved_on, words_by}
use Rattle.kmeans.specs.Steps.{seed_given, seed_moved}
use Rattle.candidates.specs.Made.{repeat_moved, tries_given, tries_made, tries_moved}
use Rattle.candidates.specs.Steps.{searched, SearchedBy, best_from}
use Rattle.distance_columns.specs.Columns.{points_at}
use Rattle.silhouette_areas.proofs.Laws.{points_stay, round_kept}
use Rattle.candidates.specs.Candidates.{tries_from}
use Rattle.candidates.proofs.Turns.{lists_stay, moved_end, tries_none, turn_done, turn_stopped, turn_supply}
use Rattle.candidates.proofs.Laws.{count_is, tries_few}
use Rattle.candidates.proofs.Answers.{done_by, searched_done, stopped_by}
use Rattle.candidates.proofs.each_k.Goals as goal
use Rattle.candidates.proofs.each_k.Goals.{After-try_k}

-- the candidate of a turn, with the points that were lent
turn : (c : After-try_k)
    → SearchedBy (tries_from (points_at c.args.area.now c.args.m) c.args.m c.loop-k.k 1 (best_from c.loop-k.best c.loop-k.labels c.loop-k.scores) c.loop-k.here.at (seed_given (points_at c.args.area.now c.args.m) c.args.m c.loop-k.k c.loop-k.here c.args.draws.now))
    (seed_moved (points_at c.args.area.now c.args.m) c.args.m c.loop-k.k c.loop-k.here) c.try_k.result c.try_k.new.labels c.try_k.new.scores
turn c =
    let a = c.args in
    let l = c.loop-k in
    subst
    (λ (x : ℕ → ℕ → Float). SearchedBy (tries_from x a.m l.k 1 (best_from l.best l.labels l.scores) l.here.at (seed_given x a.m l.k l.here a.draws.now)) (seed_moved x a.m l.k l.here) c.try_k.result c.try_k.new.labels c.try_k.new.scores)
    (points_stay a.m l.area a.area.now l.invariant.4) c.try_k.ensures.searched_by

pub loop-k-init : goal.loop-k-init
loop-k-init c =
    let p = c.requires in
    let a = c.args in
    let m = a.m in
    let x = points_at a.area.now m in
    let from = a.from in
    let e : c.groups_end-end.result - 2 ≡ tries m = omega (arith, c.groups_end-end.ensures) in
    let n : seedings_of 2 (c.groups_end-end.result - 2) ≡ count_of m = ap (seedings_of 2) e ∙ sym (count_is m) in
    (c.groups_end-end.ensures, omega arith, omega (arith, c.groups_end-end.ensures), rw n p.2, refl, refl, p.3, ap (λ (j : ℕ). tries_from x m 2 j (best_from a.kept a.labels.now a.scores.now) from.at (tries_given x m 2 j from a.draws.now)) (sym e), ap (λ (y : ℕ). moved_on from y (λ i. (tries_made (words_by from) x m 2 (tries m) i).next)) (count_is m) ∙ ap (λ (j : ℕ). tries_moved x m 2 j from) (sym e), p.4, refl)

pub try_k-requires : goal.try_k-requires
try_k-requires c =
    let p = c.requires in
    let a = c.args in
    let l = c.loop-k in
    let h : l.k < c.groups_end-end.result = c.loop-k-test.true in
    (round_kept a.m l.area a.area.now l.invariant.4 l.invariant.5 p.0, record { two = l.invariant.1; names = omega (arith, h, l.invariant.0, tries_few a.m p.1); supplies = turn_supply (points_at a.area.now a.m) a.m p.0.held.some l.k c.groups_end-end.result (best_from l.best l.labels l.scores) l.here a.draws.now h l.invariant.3 }, l.invariant.6, l.invariant.9)

pub returns-in_err-found : goal.returns-in_err-found
returns-in_err-found c =
    let a = c.args in
    let m = a.m in
    let x = points_at a.area.now m in
    let l = c.loop-k in
    let ds = seed_given x m l.k l.here a.draws.now in
    let labels = c.try_k.new.labels in
    let scores = c.try_k.new.scores in
    let u = best_from l.best l.labels l.scores in
    let q = rw c.in_err-found.was at (turn (goal.at.returns-in_err-found c).After-try_k) in
    let end = c.groups_end-end.result in
    let h : l.k < end = c.loop-k-test.true in
    let few : l.k ≤ m = omega (arith, h, l.invariant.0, tries_few m c.requires.1) in
    let v = turn_stopped x m c.requires.0.held.some l.k end u l.here a.draws.now (omega (arith, l.invariant.1)) few h q in
    let y = err_from_is_err_and c.from_residual.result c.from_residual.ensures.1 in
    record {
      searched_by = rw (y.1, y.2) (stopped_by (tries_from x m 2 (tries m) (best_from a.kept a.labels.now a.scores.now) a.from.at (tries_given x m 2 (tries m) a.from a.draws.now)) (repeat_moved x m a.from) _ labels scores v.0 (l.invariant.7 ∙ v.1) v.2);
      area_unchanged = c.try_k.ensures.area_unchanged ∙ l.invariant.4;
      rng_behind = rw (y.1) tt;
    }

pub loop-k-preserved : goal.loop-k-preserved
loop-k-preserved c =
    let a = c.args in
    let m = a.m in
    let x = points_at a.area.now m in
    let l = c.loop-k in
    let end = c.groups_end-end.result in
    let ds = seed_given x m l.k l.here a.draws.now in
    let labels = c.try_k.new.labels in
    let scores = c.try_k.new.scores in
    let u = best_from l.best l.labels l.scores in
    let n = c.in_ok-found.found.source in
    let b = c.in_ok-found.found.kept in
    let h : l.k < end = c.loop-k-test.true in
    let q : SearchedBy (tries_from x m l.k 1 u l.here.at ds) (seed_moved x m l.k l.here) (searched n b) labels scores = rw c.in_ok-found.was at (turn (goal.at.loop-k-preserved c).After-try_k) in
    let few : l.k ≤ m = omega (arith, h, l.invariant.0, tries_few m c.requires.1) in
    let v = turn_done x m c.requires.0.held.some l.k end u l.here a.draws.now (omega (arith, l.invariant.1)) few h q in (
      l.invariant.0,
      omega (arith, l.invariant.1),
      omega (arith, h),
      v.2 l.invariant.3,
      c.try_k.ensures.area_unchanged ∙ l.invariant.4,
      c.try_k.auto.area ∙ l.invariant.5,
      lists_stay l.invariant.6 c.try_k.auto.labels c.try_k.auto.scores c.try_k.auto.new_labels c.try_k.auto.new_scores,
      l.invariant.7 ∙ v.0,
      l.invariant.8 ∙ v.1,
      subst (λ (u : Source). RngOf u c.try_k.new.rng) (sym (searched_done (tries_from x m l.k 1 u l.here.at ds) q).1)
          (subst (λ (y : ℕ → ℕ → Float). RngOf (seed_moved y m l.k l.here) c.try_k.new.rng) (points_stay m l.area a.area.now l.invariant.4) c.try_k.ensures.rng_of),
      c.try_k.auto.rng ∙ l.invariant.10,
    )

pub returns : goal.returns
returns c =
    let a = c.args in
    let m = a.m in
    let x = points_at a.area.now m in
    let l = c.loop-k in
    let end = c.groups_end-end.result in
    let h : end ≤ l.k = omega (arith, c.loop-k-test.false) in
    let z = c.requires.0.held.some in
    let u = best_from l.best l.labels l.scores in
    let ds = tries_given x m l.k (end - l.k) l.here a.draws.now in
    let e = l.invariant.8 ∙ moved_end x m z l.k end u l.here a.draws.now h in
    record {
      searched_by = done_by (tries_from x m 2 (tries m) (best_from a.kept a.labels.now a.scores.now) a.from.at (tries_given x m 2 (tries m) a.from a.draws.now)) (repeat_moved x m a.from) l.here l.best l.labels l.scores ds (l.invariant.7 ∙ tries_none x m z l.k end u l.here a.draws.now l.here.at ds h) (sym e);
      area_unchanged = l.invariant.4;
      rng_behind = l.invariant.9;
    }
