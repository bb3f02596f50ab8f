use Prim.Native.Nat.{◌*◌, ◌-◌}
use native.Mathlib.Omega.{arith}
use Rattle.silhouette_areas.proofs.Laws.{fourth_scores}
use Rattle.silhouette_areas.proofs.scores_with.Goals as goal

pub returns : goal.returns
returns c =
    let m = c.args.m in
    record { scored = fourth_scores c.requires.prepared.0 (4 * (m * m) - 3 * (m * m)) (omega arith) c.args.labels.now c.requires.prepared.1 c.scores_by_label.ensures }
