use Rattle.std.proofs.Common.{◌<◌, ◌+◌, refl, sym, arith, length, drop}
use Rattle.std.proofs.lemmas.Result.{err_from_is_err_and}
use Rattle.plusplus_pick.specs.Potentials.{limit}
use Rattle.plusplus_trials.specs.Trials.{against, table}
use Rattle.lists.specs.Lists.{cells}
use Rattle.draws.proofs.Taken.{draw_value, take_none, take_stopped, take_value}
use Rattle.plusplus_trials.proofs.last_trial.Goals as goal

pub returns-then-from-end : goal.returns-then-from-end
returns-then-from-end c =
    let a = c.args in
    let m = length a.weights.now in
    rw (take_none (limit a.total m) (against (table a.squares.now m) (cells a.weights.now) a.total m) (drop a.from a.draws.now) a.end a.from a.b c.if-from-end.true) refl

pub try_draw-t-requires : goal.try_draw-t-requires
try_draw-t-requires c =
    let a = c.args in
    let l : a.from < length a.draws.now = omega (arith, c.requires.end_bound.1) in
    let e = rw c.limit.ensures at (sym c.in_ok-d.ensures) in
    record { weighed = (c.requires.weighed.0, c.requires.weighed.1); d_bound = (draw_value (limit a.total (length a.weights.now)) a.draws.now a.from l e).0 }

pub returns-in_err-d : goal.returns-in_err-d
returns-in_err-d c =
    let a = c.args in
    let m = length a.weights.now in
    let l : a.from < length a.draws.now = omega (arith, c.requires.end_bound.1) in
    let e = rw c.limit.ensures at (sym c.in_err-d.ensures) in
    let t = take_stopped (limit a.total m) (against (table a.squares.now m) (cells a.weights.now) a.total m) a.draws.now a.end a.from a.b c.if-from-end.false l e in
    let x = err_from_is_err_and c.from_residual.result c.from_residual.ensures.1 in
    rw (x.1, x.2, t.0, t.1) refl

pub returns : goal.returns
returns c =
    let a = c.args in
    let m = length a.weights.now in
    let f = against (table a.squares.now m) (cells a.weights.now) a.total m in
    let l : a.from < length a.draws.now = omega (arith, c.requires.end_bound.1) in
    let e = rw c.limit.ensures at (sym c.in_ok-d.ensures) in
    let t = take_value (limit a.total m) f a.draws.now a.end a.from a.b c.if-from-end.false l e in
    let n = take_none (limit a.total m) f (drop (a.from + 1) a.draws.now) a.end (a.from + 1) (f a.b c.in_ok-d.d) c.requires.end_bound.0 in
    rw (t, n, c.better.ensures, c.try_draw-t.ensures) refl
