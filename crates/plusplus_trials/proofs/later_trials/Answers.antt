use Rattle.std.proofs.Common.{◌∙◌, ◌≡◌, ◌<◌, ◌+◌, ◌-◌, ap, refl, sym, arith, length, drop}
use Rattle.draws.specs.Draws.{takes}
use Rattle.std.proofs.lemmas.Result.{err_from_is_err_and}
use Rattle.plusplus_pick.specs.Potentials.{limit}
use Rattle.plusplus_trials.specs.Trials.{against, table}
use Rattle.lists.specs.Lists.{cells}
use Rattle.draws.proofs.Taken.{draw_value, take_stopped, take_value}
use Rattle.plusplus_trials.proofs.later_trials.Goals as goal

pub try_two-t-requires : goal.try_two-t-requires
try_two-t-requires c =
    let a = c.args in
    let i = c.loop-i.i in
    let top = limit a.total (length a.weights.now) in
    let k : i + 1 < length a.draws.now = omega (arith, c.requires.more_in_bounds) in
    let l : i < length a.draws.now = omega arith in
    let e = rw c.limit-top.ensures at (sym c.in_ok-c.ensures) in
    let f = rw c.limit-top.ensures at (sym c.in_ok-d.ensures) in
    record {
      weighed = c.requires.weighed;
      c_bound = ((draw_value top a.draws.now i l e).0, (draw_value top a.draws.now (i + 1) k f).0);
    }

pub returns-in_err-c : goal.returns-in_err-c
returns-in_err-c c =
    let a = c.args in
    let i = c.loop-i.i in
    let m = length a.weights.now in
    let k : i < a.from + a.more = omega arith in
    let l : i < length a.draws.now = omega (arith, c.requires.more_in_bounds) in
    let e = rw c.limit-top.ensures at (sym c.in_err-c.ensures) in
    let t = take_stopped (limit a.total m) (against (table a.squares.now m) (cells a.weights.now) a.total m) a.draws.now (a.from + a.more) i c.loop-i.b k l e in
    let x = err_from_is_err_and c.from_residual.result c.from_residual.ensures.1 in
    rw (x.1, x.2, c.loop-i.invariant.3, t.0, t.1) refl

pub returns-in_err-d : goal.returns-in_err-d
returns-in_err-d c =
    let a = c.args in
    let i = c.loop-i.i in
    let m = length a.weights.now in
    let f = against (table a.squares.now m) (cells a.weights.now) a.total m in
    let k : i < a.from + a.more = omega arith in
    let l : i < length a.draws.now = omega (arith, c.requires.more_in_bounds) in
    let l2 : i + 1 < length a.draws.now = omega (arith, c.requires.more_in_bounds) in
    let e = rw c.limit-top.ensures at (sym c.in_ok-c.ensures) in
    let e2 = rw c.limit-top.ensures at (sym c.in_err-d.ensures) in
    let v = take_value (limit a.total m) f a.draws.now (a.from + a.more) i c.loop-i.b k l e in
    let t = take_stopped (limit a.total m) f a.draws.now (a.from + a.more) (i + 1) (f c.loop-i.b c.in_ok-c.c) c.loop-i-test.true l2 e2 in
    let x = err_from_is_err_and c.from_residual-in_err-d.result c.from_residual-in_err-d.ensures.1 in
    rw (x.1, x.2, c.loop-i.invariant.3, v, t.0, t.1) refl

pub loop-i-preserved : goal.loop-i-preserved
loop-i-preserved c =
    let a = c.args in
    let i = c.loop-i.i in
    let m = length a.weights.now in
    let q = limit a.total m in
    let f = against (table a.squares.now m) (cells a.weights.now) a.total m in
    let k : i < a.from + a.more = omega arith in
    let l : i < length a.draws.now = omega (arith, c.requires.more_in_bounds) in
    let l2 : i + 1 < length a.draws.now = omega (arith, c.requires.more_in_bounds) in
    let e = rw c.limit-top.ensures at (sym c.in_ok-c.ensures) in
    let e2 = rw c.limit-top.ensures at (sym c.in_ok-d.ensures) in
    let v = take_value q f a.draws.now (a.from + a.more) i c.loop-i.b k l e in
    let w = take_value q f a.draws.now (a.from + a.more) (i + 1) (f c.loop-i.b c.in_ok-c.c) c.loop-i-test.true l2 e2 in
    let n : i + 1 + 1 ≡ i + 2 = omega arith in
    let s : c.better-b.result ≡ f (f c.loop-i.b c.in_ok-c.c) c.in_ok-d.d = c.better-b.ensures ∙ rw (c.better.ensures, c.try_two-t.ensures.0, c.try_two-t.ensures.1) refl in (
      c.limit-top.ensures,
      omega arith,
      omega arith,
      rw (← n) (c.loop-i.invariant.3 ∙ v ∙ w ∙ ap (λ z. takes q f (a.from + a.more - (i + 1 + 1)) z (i + 1 + 1) (drop (i + 1 + 1) a.draws.now)) (sym s)),
    )
