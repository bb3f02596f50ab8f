use Rattle.std.proofs.Common.{◌∙◌, ◌≡◌, ◌<◌, ◌≤◌, ◌+◌, ◌-◌, ap, refl, sym, arith, length}
use Rattle.std.proofs.lemmas.Result.{err_from_is_err_and}
use Rattle.plusplus_pick.specs.Potentials.{limit, trial}
use Rattle.plusplus_trials.specs.Trials.{against, table, tried_of}
use Rattle.lists.specs.Lists.{cells}
use Rattle.draws.proofs.Taken.{draw_value, take_stopped, take_value}
use Rattle.plusplus_trials.proofs.first_trials.Goals as goal

pub try_two-t-requires : goal.try_two-t-requires
try_two-t-requires c =
    let a = c.args in
    let l : a.from < length a.draws.now = omega (arith, c.requires.c_bound.1, c.requires.c_bound.2) in
    let v = rw c.limit.ensures at (sym c.in_ok-d.ensures) in
    record { weighed = c.requires.weighed; c_bound = (c.requires.c_bound.0, (draw_value (limit a.total (length a.weights.now)) a.draws.now a.from l v).0) }

pub returns-in_err-d : goal.returns-in_err-d
returns-in_err-d c =
    let a = c.args in
    let m = length a.weights.now in
    let q = limit a.total m in
    let f = against (table a.squares.now m) (cells a.weights.now) a.total m in
    let s = trial (table a.squares.now m) (cells a.weights.now) a.total m a.c in
    let k : (0 < a.more) × (a.from + a.more ≤ length a.draws.now) = (c.requires.c_bound.1, c.requires.c_bound.2) in
    let l : a.from < length a.draws.now = omega arith in
    let h : a.from < a.from + a.more = omega arith in
    let n : a.from + a.more - a.from ≡ a.more = omega arith in
    let e = rw c.limit.ensures at (sym c.in_err-d.ensures) in
    let t = rw n at (take_stopped q f a.draws.now (a.from + a.more) a.from s h l e) in
    let x = err_from_is_err_and c.from_residual.result c.from_residual.ensures.1 in
    rw (x.1, x.2, t.0, t.1) refl

pub returns : goal.returns
returns c =
    let a = c.args in
    let m = length a.weights.now in
    let q = limit a.total m in
    let f = against (table a.squares.now m) (cells a.weights.now) a.total m in
    let s = trial (table a.squares.now m) (cells a.weights.now) a.total m a.c in
    let k : (0 < a.more) × (a.from + a.more ≤ length a.draws.now) = (c.requires.c_bound.1, c.requires.c_bound.2) in
    let l : a.from < length a.draws.now = omega arith in
    let h : a.from < a.from + a.more = omega arith in
    let n : a.from + a.more - a.from ≡ a.more = omega arith in
    let v = rw c.limit.ensures at (sym c.in_ok-d.ensures) in
    let t = rw n at (take_value q f a.draws.now (a.from + a.more) a.from s h l v) in
    let e : a.from + a.more - (a.from + 1) ≡ a.more - 1 = omega arith in
    let b : c.better-b.result ≡ f s c.in_ok-d.d = c.better-b.ensures ∙ rw (c.try_two-t.ensures.0, c.try_two-t.ensures.1) refl in
    c.later_trials.ensures ∙ rw (b, ← e) (ap tried_of (sym t))
