use Rattle.std.proofs.lemmas.Result.{err_from_is_err_and}
use Prim.Native.Nat.{◌-◌, ◌<◌, ◌≤◌, zero-le, ℕ}
use mathlib.Core.Path.{◌∙◌, ◌≡◌, ap, refl, subst, sym}
use native.Mathlib.Omega.{arith}
use lib.Ieee.{Float}
use Rattle.draws.specs.Counts.{tries}
use Rattle.candidates.specs.Made.{repeat_moved, repeats_given, repeats_moved, tries_given}
use Rattle.candidates.specs.Steps.{searched, RngBehind, SearchedBy, best_from}
use Rattle.distance_columns.specs.Columns.{points_at}
use Rattle.silhouette_areas.proofs.Laws.{points_stay, round_kept}
use Rattle.candidates.specs.Candidates.{best_of, nothing, repeats_from, tries_from}
use Rattle.candidates.proofs.Turns.{lists_stay, repeat_done, repeat_stopped, repeat_supply, repeats_done, repeats_none}
use Rattle.candidates.proofs.Answers.{done_by, stopped_by}
use Rattle.candidates.proofs.each_repeat.Goals as goal
use Rattle.candidates.proofs.each_repeat.Goals.{After-each_k}

-- the candidates of a turn, with the points that were lent
turn : (c : After-each_k)
    → SearchedBy (tries_from (points_at c.args.area.now c.args.m) c.args.m 2 (tries c.args.m) (best_from c.loop-t.best c.loop-t.labels c.loop-t.scores) c.loop-t.here.at (tries_given (points_at c.args.area.now c.args.m) c.args.m 2 (tries c.args.m) c.loop-t.here c.args.draws.now))
    (repeat_moved (points_at c.args.area.now c.args.m) c.args.m c.loop-t.here) c.each_k.result c.each_k.new.labels c.each_k.new.scores
turn c =
    let a = c.args in
    let l = c.loop-t in
    subst
    (λ (x : ℕ → ℕ → Float). SearchedBy (tries_from x a.m 2 (tries a.m) (best_from l.best l.labels l.scores) l.here.at (tries_given x a.m 2 (tries a.m) l.here a.draws.now)) (repeat_moved x a.m l.here) c.each_k.result c.each_k.new.labels c.each_k.new.scores)
    (points_stay a.m l.area a.area.now l.invariant.2) c.each_k.ensures.searched_by

pub loop-t-init : goal.loop-t-init
unfolding best_of
loop-t-init c =
    let a = c.args in
    let m = a.m in
    let x = points_at a.area.now m in
    let from = a.from in
    let e : a.repeat - 0 ≡ a.repeat = omega arith in
    (zero-le, rw e c.requires.1.supplies, refl, refl, c.requires.2, ap (λ (r : ℕ). repeats_from x m r nothing from.at (repeats_given x m r from a.draws.now)) (sym e), ap (λ (r : ℕ). repeats_moved x m r from) (sym e), c.requires.3, refl)

pub each_k-requires : goal.each_k-requires
each_k-requires c =
    let p = c.requires in
    let a = c.args in
    let l = c.loop-t in
    let h : l.t < a.repeat = c.loop-t-test.true in
    (round_kept a.m l.area a.area.now l.invariant.2 l.invariant.3 p.0, p.1.two, repeat_supply (points_at a.area.now a.m) a.m p.1.two l.t a.repeat (best_from l.best l.labels l.scores) l.here a.draws.now h l.invariant.1, l.invariant.4, l.invariant.7)

pub returns-in_err-found : goal.returns-in_err-found
returns-in_err-found c =
    let a = c.args in
    let m = a.m in
    let x = points_at a.area.now m in
    let l = c.loop-t in
    let labels = c.each_k.new.labels in
    let scores = c.each_k.new.scores in
    let u = best_from l.best l.labels l.scores in
    let q = rw c.in_err-found.was at (turn (goal.at.returns-in_err-found c).After-each_k) in
    let v = repeat_stopped x m c.requires.1.two l.t a.repeat u l.here a.draws.now c.loop-t-test.true q in
    let y = err_from_is_err_and c.from_residual.result c.from_residual.ensures.1 in
    rw (y.1, y.2) (stopped_by (best_of x m a.repeat a.from.at (repeats_given x m a.repeat a.from a.draws.now)) (repeats_moved x m a.repeat a.from) _ labels scores v.0 (l.invariant.5 ∙ v.1) v.2)

pub loop-t-preserved : goal.loop-t-preserved
loop-t-preserved c =
    let a = c.args in
    let m = a.m in
    let x = points_at a.area.now m in
    let l = c.loop-t in
    let labels = c.each_k.new.labels in
    let scores = c.each_k.new.scores in
    let u = best_from l.best l.labels l.scores in
    let n = c.in_ok-found.found.source in
    let b = c.in_ok-found.found.kept in
    let h : l.t < a.repeat = c.loop-t-test.true in
    let q : SearchedBy (tries_from x m 2 (tries m) u l.here.at (tries_given x m 2 (tries m) l.here a.draws.now)) (repeat_moved x m l.here) (searched n b) labels scores = rw c.in_ok-found.was at (turn (goal.at.loop-t-preserved c).After-each_k) in
    let v = repeat_done x m c.requires.1.two l.t a.repeat u l.here a.draws.now h q in
    let g : RngBehind (searched n b) c.each_k.new.rng = rw c.in_ok-found.was at c.each_k.ensures.rng_behind in
    (omega (arith, h), v.2 l.invariant.1, c.each_k.ensures.area_unchanged ∙ l.invariant.2, c.each_k.auto.area ∙ l.invariant.3, lists_stay l.invariant.4 c.each_k.auto.labels c.each_k.auto.scores c.each_k.auto.new_labels c.each_k.auto.new_scores, l.invariant.5 ∙ v.0, l.invariant.6 ∙ v.1, g, c.each_k.auto.rng ∙ l.invariant.8)

pub returns : goal.returns
returns c =
    let a = c.args in
    let m = a.m in
    let x = points_at a.area.now m in
    let l = c.loop-t in
    let h : a.repeat ≤ l.t = omega (arith, c.loop-t-test.false) in
    let two = c.requires.1.two in
    let u = best_from l.best l.labels l.scores in
    let ds = repeats_given x m (a.repeat - l.t) l.here a.draws.now in
    let e = l.invariant.6 ∙ repeats_done x m two l.t a.repeat u l.here a.draws.now h in
    done_by (best_of x m a.repeat a.from.at (repeats_given x m a.repeat a.from a.draws.now)) (repeats_moved x m a.repeat a.from) l.here l.best l.labels l.scores ds (l.invariant.5 ∙ repeats_none x m two l.t a.repeat u l.here a.draws.now l.here.at ds h) (sym e)
