use Rattle.std.proofs.Common.{◌∙◌, ◌<◌, ◌-◌, ap, refl, sym, arith, length}
use Rattle.std.proofs.lemmas.Result.{err_from_is_err_and}
use Rattle.plusplus_pick.specs.Potentials.{limit}
use Rattle.plusplus_trials.specs.Trials.{table, tried_of}
use Rattle.lists.specs.Lists.{cells}
use Rattle.lists.specs.Sums.{sum_to}
use Rattle.draws.proofs.Taken.{draw_value}
use Rattle.plusplus_trials.proofs.Centring.{best_stopped, best_value}
use Rattle.plusplus_trials.proofs.best_trial.Goals as goal

pub four_trials-requires : goal.four_trials-requires
four_trials-requires c =
    let a = c.args in
    let l : a.at < length a.draws.now = omega (arith, c.requires.le_count.0, c.requires.le_count.1) in
    let v = rw c.limit.ensures at (sym c.in_ok-c.ensures) in
    record {
      weighed = c.requires.weighed;
      c_bound = ((draw_value (limit a.total (length a.weights.now)) a.draws.now a.at l v).0, omega (arith, c.requires.le_count.0), omega (arith, c.requires.le_count.0, c.requires.le_count.1));
    }

pub first_trials-requires : goal.first_trials-requires
first_trials-requires c =
    let a = c.args in
    let l : a.at < length a.draws.now = omega (arith, c.requires.le_count.0, c.requires.le_count.1) in
    let v = rw c.limit.ensures at (sym c.in_ok-c.ensures) in
    record {
      weighed = c.requires.weighed;
      c_bound = ((draw_value (limit a.total (length a.weights.now)) a.draws.now a.at l v).0, omega (arith, c.requires.le_count.0), omega (arith, c.requires.le_count.0, c.requires.le_count.1));
    }

pub returns-in_err-c : goal.returns-in_err-c
returns-in_err-c c =
    let a = c.args in
    let m = length a.weights.now in
    let total = sum_to (cells a.weights.now) m in
    let l : a.at < length a.draws.now = omega (arith, c.requires.le_count.0, c.requires.le_count.1) in
    let e = rw (c.limit.ensures, c.requires.weighed.2) at (sym c.in_err-c.ensures) in
    let t = best_stopped (table a.squares.now m) (cells a.weights.now) total m (a.count - 1) a.draws.now a.at l e in
    let x = err_from_is_err_and c.from_residual.result c.from_residual.ensures.1 in
    rw (x.1, x.2, t.0, t.1) refl

pub returns-then-count-ge4 : goal.returns-then-count-ge4
returns-then-count-ge4 c =
    let a = c.args in
    let m = length a.weights.now in
    let total = sum_to (cells a.weights.now) m in
    let l : a.at < length a.draws.now = omega (arith, c.requires.le_count.0, c.requires.le_count.1) in
    let v = rw (c.limit.ensures, c.requires.weighed.2) at (sym c.in_ok-c.ensures) in
    let t = best_value (table a.squares.now m) (cells a.weights.now) total m (a.count - 1) a.draws.now a.at l v in
    c.four_trials.ensures ∙ rw c.requires.weighed.2 (ap tried_of (sym t))

pub returns : goal.returns
returns c =
    let a = c.args in
    let m = length a.weights.now in
    let total = sum_to (cells a.weights.now) m in
    let l : a.at < length a.draws.now = omega (arith, c.requires.le_count.0, c.requires.le_count.1) in
    let v = rw (c.limit.ensures, c.requires.weighed.2) at (sym c.in_ok-c.ensures) in
    let t = best_value (table a.squares.now m) (cells a.weights.now) total m (a.count - 1) a.draws.now a.at l v in
    c.first_trials.ensures ∙ rw c.requires.weighed.2 (ap tried_of (sym t))
