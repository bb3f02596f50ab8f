use Prim.Native.Nat.{◌*◌, ◌+◌, ◌-◌}
use mathlib.Core.Path.{◌∙◌, ◌≡◌, refl}
use native.Mathlib.Omega.{arith}
use Rattle.lists.proofs.Parts.{put_same}
use Rattle.areas.proofs.Regions.{square_row_is}
use Rattle.areas.proofs.square_row.Goals as goal

pub returns : goal.returns
returns c =
    let m = c.args.m in
    let at = 2 * (m * m) + c.args.i * m in
    let k : at + m - (at + c.args.i) ≡ m - c.args.i = omega arith in
    put_same (at + c.args.i) (at + m - (at + c.args.i)) (m - c.args.i) c.gather.new.xs k (c.copy.ensures.after ∙ c.squared_item.ensures) ∙ square_row_is c.args.area.now m c.args.i c.requires.0 c.gather.ensures refl
