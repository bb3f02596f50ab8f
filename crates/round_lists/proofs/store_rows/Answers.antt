use Prim.Native.Nat.{◌*◌, ◌+◌, ◌-◌}
use mathlib.Core.Path.{◌≡◌}
use native.Mathlib.Omega.{arith}
use lib.ListN.{length}
use Rattle.round_lists.proofs.Storing.{placed_law}
use Rattle.round_lists.proofs.store_rows.Goals as goal

pub returns : goal.returns
returns c =
    let k : 3 * c.args.n + length c.args.items.now - 3 * c.args.n ≡ length c.args.items.now = omega arith in
    placed_law c.args.n c.args.m c.args.items.now c.args.wi.now c.requires.0 _ k c.copy.ensures.after c.translate.ensures
