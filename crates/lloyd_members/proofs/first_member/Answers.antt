use mathlib.Core.Path.{◌≡◌, refl, sym}
use native.Mathlib.Omega.{arith}
use lib.ListN.{length}
use borrow.Author.Tests.{eq-eqb, ne_eqb}
use Rattle.lists.specs.Lists.{first_to}
use Rattle.lists.proofs.First.{first_more, first_found}
use Rattle.lloyd_members.proofs.first_member.Goals as goal

pub loop-i-init : goal.loop-i-init
unfolding first_to
loop-i-init c = refl

pub returns-then-x-l : goal.returns-then-x-l
returns-then-x-l c = first_found _ _ _ c.loop-i.invariant (eq-eqb _ _ c.if-x-l.true) c.loop-i-test.true

pub loop-i-preserved : goal.loop-i-preserved
loop-i-preserved c = first_more _ _ c.loop-i.invariant (ne_eqb _ _ c.if-x-l.false)

pub returns : goal.returns
returns c = let e : c.loop-i.i ≡ length c.args.labels.now = omega arith in sym (rw e at c.loop-i.invariant)
