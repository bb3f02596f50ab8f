use Rattle.areas.proofs.Regions.{third_made, third_turned, points_kept}
use Rattle.areas.proofs.squares_in.Goals as goal

pub returns : goal.returns
returns c =
    let area = c.args.area.now in
    let m = c.args.m in
    let four = c.requires in
    let e = c.transpose.ensures in
    let f = c.square_all.ensures in
    (third_turned area m four e f, third_made area m four e f, points_kept area m four e f)
