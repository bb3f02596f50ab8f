use Prim.Native.Nat.{◌*◌}
use mathlib.Core.Path.{◌∙◌, ap}
use mathlib.Core.List.{List, ◌++◌}
use lib.ListN.{drop, length}
use lib.Ieee.{Float}
use Rattle.distance.specs.Distance.{dist_at}
use Rattle.distance_pairwise.proofs.Handed.{fourth_area, wiped_same}
use Rattle.distance_pairwise.proofs.measure_book.Goals as goal

pub returns : goal.returns
returns c =
    let m = length c.args.rows.now in
    let d = dist_at c.args.book.now c.args.n c.args.rows.now in
    let floats = c.args.floats.now in
    let e = ap (λ (x : List Float). x ++ drop (4 * (m * m)) floats) c.book_pairs.ensures in
    (c.hand_out.ensures.0 ∙ fourth_area d m floats e, c.hand_out.ensures.1 ∙ wiped_same d m floats e)
