use Prim.Native.Nat.{◌*◌, ◌-◌}
use mathlib.Core.Path.{◌∙◌, ap}
use native.Mathlib.Omega.{arith}
use lib.ListN.{length}
use lib.Ieee.{nan}
use Rattle.lloyd_nearest.specs.Nearest.{nearest_to}
use Rattle.lists.specs.Lists.{cells, part, row}
use Rattle.lists.proofs.Listed.{listed_same}
use Rattle.lloyd_table.specs.Area.{table_row}
use Rattle.lloyd_table.proofs.Rows.{in_table}
use Rattle.lloyd_pass.proofs.assign_in.Goals as goal

pub returns : goal.returns
returns c =
    let m = length c.args.labels.now in
    let n = 5 * (m * m) - 4 * (m * m) in record {
      dists_after = c.assign.ensures.dists_after ∙ listed_same nan (λ i. (nearest_to (λ l. cells (row (part (4 * (m * m)) n c.args.area.now) m l) i) c.args.k).value) (λ i. (nearest_to (λ l. cells (table_row c.args.area.now m l) i) c.args.k).value) m (λ i h. ap (λ b. b.value) (in_table c.args.area.now m c.args.k n i c.requires.0 (omega arith)));
      labels_after = c.assign.ensures.labels_after ∙ listed_same 0 (λ i. (nearest_to (λ l. cells (row (part (4 * (m * m)) n c.args.area.now) m l) i) c.args.k).at) (λ i. (nearest_to (λ l. cells (table_row c.args.area.now m l) i) c.args.k).at) m (λ i h. ap (λ b. b.at) (in_table c.args.area.now m c.args.k n i c.requires.0 (omega arith)));
    }
