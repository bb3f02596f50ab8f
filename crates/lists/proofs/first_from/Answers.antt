use Rattle.std.proofs.Common.{◌≡◌, length, sym, refl, arith, rules, le-leb}
use borrow.Author.Tests.{lt-leb}
use Rattle.lists.specs.Lists.{first_from, first_to}
use Rattle.lists.proofs.First.{first_more, first_found}
use Rattle.lists.proofs.first_from.Goals as goal

pub loop-k-init : goal.loop-k-init
unfolding first_to
loop-k-init c = refl

pub returns-then-limit-x : goal.returns-then-limit-x
unfolding first_from
returns-then-limit-x c = first_found _ _ _ c.loop-k.invariant (le-leb _ _ c.if-limit-x.true) (search rules)

pub loop-k-preserved : goal.loop-k-preserved
loop-k-preserved c = first_more _ _ c.loop-k.invariant (lt-leb _ _ c.if-limit-x.false)

pub returns : goal.returns
unfolding first_from
returns c = let e : c.loop-k.k ≡ length c.args.xs.now = omega arith in sym (rw e at c.loop-k.invariant)
