use Prim.Native.Nat.{◌*◌}
use mathlib.Core.Path.{◌∙◌}
use lib.ListN.{drop, length}
use Rattle.distance.specs.Distance.{dist_at}
use Rattle.lists.specs.Lists.{flat}
use Rattle.lists.proofs.Listed.{listed_length}
use Rattle.areas.proofs.Regions.{pairs_begin, pairs_matrix}
use Rattle.areas.proofs.book_pairs.Goals as goal

pub returns : goal.returns
returns c =
    let m = length c.args.rows.now in
    let d = dist_at c.args.book.now c.args.n c.args.rows.now in
    let p = c.distances_through.ensures in
    c.pairs_in.ensures ∙ pairs_begin c.distances_through.new.out (drop (m * m) c.args.area.now) m (listed_length (flat d m) (m * m) p) ∙ pairs_matrix d m p
