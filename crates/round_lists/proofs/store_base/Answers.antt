use Prim.Native.Nat.{◌*◌, ◌+◌, ◌-◌, ℕ}
use mathlib.Core.Path.{◌≡◌}
use native.Mathlib.Omega.{arith}
use lib.ListN.{length}
use Rattle.round_lists.proofs.Storing.{stored_law}
use Rattle.round_lists.proofs.store_base.Goals as goal

pub returns : goal.returns
returns c =
    let m : ℕ = length c.args.order.now in
    let k : c.args.n + m - c.args.n ≡ m = omega arith in
    let j : 2 * c.args.n + m - 2 * c.args.n ≡ m = omega arith in
    stored_law c.args.n c.args.order.now c.args.sizes.now c.args.scores.now c.args.wi.now c.args.wf.now c.requires.0 c.requires.1 c.requires.2
    _ _ k j c.copy.ensures.after c.copy-2.ensures.after c.copy-3.ensures.after
