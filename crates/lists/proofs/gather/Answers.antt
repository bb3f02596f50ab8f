use Rattle.std.proofs.Common.{◌≡◌, ◌+◌, ◌*◌, take, set, refl, ap, ◌∙◌, arith, length-set, rules}
use lib.Ieee.{nan}
use Rattle.lists.proofs.Parts.{get_d_front}
use Rattle.lists.proofs.Areas.{stores, stores_kept, stores_more, stores_put}
use Rattle.lists.proofs.gather.Goals as goal

pub loop-j-init : goal.loop-j-init
unfolding stores
loop-j-init c = (search rules, refl, refl)

pub loop-j-preserved : goal.loop-j-preserved
loop-j-preserved c =
    let a = c.args in
    let l = c.loop-j in
    let low = c.requires.1 l.j c.loop-j-test.true in
    let kept : take a.to l.xs ≡ take a.to a.xs.now = stores_kept _ _ _ _ l.invariant.2 in
    let e = get_d_front a.to (a.from + l.j * a.step) l.xs a.xs.now nan low kept in
    (search rules, simp length-set l.invariant.1, ap (set l.xs (a.to + l.j)) e ∙ stores_more _ _ _ _ l.invariant.2)

pub returns : goal.returns
returns c =
    let e : c.loop-j.j ≡ c.args.count = omega arith in
    stores_put nan _ _ _ _ (rw e at c.loop-j.invariant.2) c.requires.0
