use Rattle.std.proofs.Common.{ℕ, List, ◌∙◌, ◌≡◌, ◌<◌, ◌≤◌, ◌+◌, ◌-◌, ap, refl, sym, arith, length, drop}
use Rattle.draws.specs.Stops.{draw_of}
use Rattle.draws.specs.Draws.{one_draw, takes, refused}
use Rattle.draws.specs.declared.Stop.{Stop}
use Rattle.draws.specs.declared.Stop.TheVariants.{DrawOutOfRange}
use Rattle.std.specs.Prelude.{Ok, Err}
use Rattle.std.proofs.lemmas.Result.{err_from_is_err_and}
use Rattle.plusplus_pick.specs.Potentials.{better, limit, trial}
use Rattle.plusplus_pick.specs.declared.Trial.{Trial}
use Rattle.plusplus_trials.specs.Trials.{against, table, tried_of}
use Rattle.lists.specs.Lists.{cells}
use Rattle.draws.proofs.Taken.{draw_value, take_stopped, take_value}
use Rattle.plusplus_trials.proofs.four_trials.Goals as goal

-- the first three of the draws from place i on, by the answer of each
module _ {S : Type 0} (most : ℕ) (step : S → ℕ → S) (draws : List ℕ) (i more : ℕ) (s : S) (h : 3 ≤ more) (l : i + more ≤ length draws) where
  first-value : {d : ℕ} → draw_of (one_draw most i (drop i draws)) ≡ Ok d
      → takes most step more s i (drop i draws) ≡ takes most step (i + more - (i + 1)) (step s d) (i + 1) (drop (i + 1) draws)
  first-value e =
      let n : i + more - i ≡ more = omega arith in
      let t = take_value most step draws (i + more) i s (omega (arith, h)) (omega (arith, h, l)) e in
      rw n at t

  second-value : {d e : ℕ} → draw_of (one_draw most i (drop i draws)) ≡ Ok d → draw_of (one_draw most (i + 1) (drop (i + 1) draws)) ≡ Ok e
      → takes most step more s i (drop i draws) ≡ takes most step (i + more - (i + 2)) (step (step s d) e) (i + 2) (drop (i + 2) draws)
  second-value {d} a b =
      let n : i + 1 + 1 ≡ i + 2 = omega arith in
      let t = take_value most step draws (i + more) (i + 1) (step s d) (omega (arith, h)) (omega (arith, h, l)) b in
      first-value a ∙ rw n at t

  third-value : {d e f : ℕ} → draw_of (one_draw most i (drop i draws)) ≡ Ok d → draw_of (one_draw most (i + 1) (drop (i + 1) draws)) ≡ Ok e
      → draw_of (one_draw most (i + 2) (drop (i + 2) draws)) ≡ Ok f
      → takes most step more s i (drop i draws) ≡ takes most step (i + more - (i + 3)) (step (step (step s d) e) f) (i + 3) (drop (i + 3) draws)
  third-value {d} {e} a b g =
      let n : i + 2 + 1 ≡ i + 3 = omega arith in
      let t = take_value most step draws (i + more) (i + 2) (step (step s d) e) (omega (arith, h)) (omega (arith, h, l)) g in
      second-value a b ∙ rw n at t

  first-stopped : {q : Stop} → draw_of (one_draw most i (drop i draws)) ≡ Err q → (takes most step more s i (drop i draws) ≡ refused i) × (q ≡ DrawOutOfRange i)
  first-stopped e =
      let n : i + more - i ≡ more = omega arith in
      let t = take_stopped most step draws (i + more) i s (omega (arith, h)) (omega (arith, h, l)) e in
      rw n at t

  second-stopped : {d : ℕ} {q : Stop} → draw_of (one_draw most i (drop i draws)) ≡ Ok d → draw_of (one_draw most (i + 1) (drop (i + 1) draws)) ≡ Err q
      → (takes most step more s i (drop i draws) ≡ refused (i + 1)) × (q ≡ DrawOutOfRange (i + 1))
  second-stopped {d} a b =
      let t = take_stopped most step draws (i + more) (i + 1) (step s d) (omega (arith, h)) (omega (arith, h, l)) b in
      (first-value a ∙ t.0, t.1)

  third-stopped : {d e : ℕ} {q : Stop} → draw_of (one_draw most i (drop i draws)) ≡ Ok d → draw_of (one_draw most (i + 1) (drop (i + 1) draws)) ≡ Ok e
      → draw_of (one_draw most (i + 2) (drop (i + 2) draws)) ≡ Err q
      → (takes most step more s i (drop i draws) ≡ refused (i + 2)) × (q ≡ DrawOutOfRange (i + 2))
  third-stopped {d} {e} a b g =
      let t = take_stopped most step draws (i + more) (i + 2) (step (step s d) e) (omega (arith, h)) (omega (arith, h, l)) g in
      (second-value a b ∙ t.0, t.1)

pub try_four-t-requires : goal.try_four-t-requires
try_four-t-requires c =
    let a = c.args in
    let q = limit a.total (length a.weights.now) in
    let k : (3 ≤ a.more) × (a.from + a.more ≤ length a.draws.now) = (c.requires.c_bound.1, c.requires.c_bound.2) in
    let l : a.from < length a.draws.now = omega arith in
    let l1 : a.from + 1 < length a.draws.now = omega arith in
    let l2 : a.from + 2 < length a.draws.now = omega arith in
    let v = rw c.limit-top.ensures at (sym c.in_ok-d.ensures) in
    let w = rw c.limit-top.ensures at (sym c.in_ok-e.ensures) in
    let x = rw c.limit-top.ensures at (sym c.in_ok-f.ensures) in
    record {
      weighed = c.requires.weighed;
      c_bound = (c.requires.c_bound.0, (draw_value q a.draws.now a.from l v).0, (draw_value q a.draws.now (a.from + 1) l1 w).0, (draw_value q a.draws.now (a.from + 2) l2 x).0);
    }

pub returns-in_err-d : goal.returns-in_err-d
returns-in_err-d c =
    let a = c.args in
    let m = length a.weights.now in
    let q = limit a.total m in
    let f = against (table a.squares.now m) (cells a.weights.now) a.total m in
    let s = trial (table a.squares.now m) (cells a.weights.now) a.total m a.c in
    let k = c.requires.c_bound in
    let e = rw c.limit-top.ensures at (sym c.in_err-d.ensures) in
    let t = first-stopped q f a.draws.now a.from a.more s k.1 k.2 e in
    let x = err_from_is_err_and c.from_residual.result c.from_residual.ensures.1 in
    rw (x.1, x.2, t.0, t.1) refl

pub returns-in_err-e : goal.returns-in_err-e
returns-in_err-e c =
    let a = c.args in
    let m = length a.weights.now in
    let q = limit a.total m in
    let f = against (table a.squares.now m) (cells a.weights.now) a.total m in
    let s = trial (table a.squares.now m) (cells a.weights.now) a.total m a.c in
    let k = c.requires.c_bound in
    let v = rw c.limit-top.ensures at (sym c.in_ok-d.ensures) in
    let e = rw c.limit-top.ensures at (sym c.in_err-e.ensures) in
    let t = second-stopped q f a.draws.now a.from a.more s k.1 k.2 v e in
    let x = err_from_is_err_and c.from_residual-in_err-e.result c.from_residual-in_err-e.ensures.1 in
    rw (x.1, x.2, t.0, t.1) refl

pub returns-in_err-f : goal.returns-in_err-f
returns-in_err-f c =
    let a = c.args in
    let m = length a.weights.now in
    let q = limit a.total m in
    let f = against (table a.squares.now m) (cells a.weights.now) a.total m in
    let s = trial (table a.squares.now m) (cells a.weights.now) a.total m a.c in
    let k = c.requires.c_bound in
    let v = rw c.limit-top.ensures at (sym c.in_ok-d.ensures) in
    let w = rw c.limit-top.ensures at (sym c.in_ok-e.ensures) in
    let e = rw c.limit-top.ensures at (sym c.in_err-f.ensures) in
    let t = third-stopped q f a.draws.now a.from a.more s k.1 k.2 v w e in
    let x = err_from_is_err_and c.from_residual-in_err-f.result c.from_residual-in_err-f.ensures.1 in
    rw (x.1, x.2, t.0, t.1) refl

pub returns : goal.returns
returns c =
    let a = c.args in
    let m = length a.weights.now in
    let q = limit a.total m in
    let f = against (table a.squares.now m) (cells a.weights.now) a.total m in
    let s = trial (table a.squares.now m) (cells a.weights.now) a.total m a.c in
    let k = c.requires.c_bound in
    let v = rw c.limit-top.ensures at (sym c.in_ok-d.ensures) in
    let w = rw c.limit-top.ensures at (sym c.in_ok-e.ensures) in
    let x = rw c.limit-top.ensures at (sym c.in_ok-f.ensures) in
    let t = third-value q f a.draws.now a.from a.more s k.1 k.2 v w x in
    let n : a.from + a.more - (a.from + 3) ≡ a.more - 3 = omega arith in
    let r = c.try_four-t.ensures in
    let p : c.better-2.result ≡ f (f s c.in_ok-d.d) c.in_ok-e.e = c.better-2.ensures ∙ rw (c.better.ensures, r.0, r.1, r.2) refl in
    let b : c.better-b.result ≡ f (f (f s c.in_ok-d.d) c.in_ok-e.e) c.in_ok-f.f =
    c.better-b.ensures ∙ ap (better c.better-2.result) r.3 ∙ ap (λ (z : Trial). f z c.in_ok-f.f) p in
    c.later_trials.ensures ∙ rw (b, ← n) (ap tried_of (sym t))
