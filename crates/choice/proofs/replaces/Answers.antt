use mathlib.Core.Path.{◌≡◌, refl}
use mathlib.Core.Bool.{false, true}
use lib.Ieee.{eq, lt, neg}
use Rattle.choice.specs.Replaces.{replaces}
use Rattle.choice.proofs.replaces.Goals as goal

pub returns-then-best-stat : goal.returns-then-best-stat
unfolding replaces
returns-then-best-stat c =
    let h : lt c.in-Some.best.stat c.args.stat ≡ true = c.if-best-stat.true in
    rw (c.in-Some.is, h) refl

pub returns-then-stat-best : goal.returns-then-stat-best
unfolding replaces
returns-then-stat-best c =
    let h : lt c.in-Some.best.stat c.args.stat ≡ false = c.if-best-stat.false in
    let q : eq c.args.stat c.in-Some.best.stat ≡ true = c.if-stat-best.true in
    rw (c.in-Some.is, h, q) refl

pub returns-in-None : goal.returns-in-None
unfolding neg
returns-in-None c = rw (c.infinity.ensures, c.in-None.is) refl

pub returns-else-stat-best : goal.returns-else-stat-best
unfolding replaces
returns-else-stat-best c =
    let h : lt c.in-Some.best.stat c.args.stat ≡ false = c.if-best-stat.false in
    let q : eq c.args.stat c.in-Some.best.stat ≡ false = c.if-stat-best.false in
    rw (c.in-Some.is, h, q) refl
