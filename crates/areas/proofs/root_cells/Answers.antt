use Prim.Native.Nat.{◌+◌, ◌<◌}
use mathlib.Core.Path.{◌∙◌, ◌≡◌, ap, refl}
use native.Mathlib.Omega.{arith}
use lib.ListN.{set, take}
use lib.Ieee.{nan}
use Rattle.sqrt.specs.Root.{root}
use Rattle.lists.proofs.Parts.{get_d_front}
use Rattle.lists.proofs.Areas.{stores, stores_kept, stores_more, stores_put}
use Rattle.areas.proofs.root_cells.Goals as goal

pub loop-j-init : goal.loop-j-init
unfolding stores
loop-j-init c = refl

pub loop-j-preserved : goal.loop-j-preserved
loop-j-preserved c =
    let a = c.args in
    let l = c.loop-j in
    let low : a.from + l.j < a.to = omega (arith, c.loop-j-test.true, c.requires.0) in
    let kept : take a.to l.area ≡ take a.to a.area.now = stores_kept _ _ _ _ l.invariant in
    let e = c.sqrt.ensures ∙ ap root (get_d_front a.to (a.from + l.j) l.area a.area.now nan low kept) in
    ap (set l.area (a.to + l.j)) e ∙ stores_more _ _ _ _ l.invariant

pub returns : goal.returns
returns c =
    let e : c.loop-j.j ≡ c.args.count = omega arith in
    stores_put nan _ _ _ _ (rw e at c.loop-j.invariant) c.requires.1
