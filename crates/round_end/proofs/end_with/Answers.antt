use Prim.Native.Nat.{◌*◌, ◌+◌, ◌-◌, ℕ}
use mathlib.Core.Path.{◌∙◌, ◌≡◌}
use native.Mathlib.Omega.{arith}
use lib.ListN.{length}
use Rattle.round_end.proofs.Ends.{end_round_law, end_round_part}
use Rattle.round_end.proofs.end_with.Goals as goal

pub returns : goal.returns
returns c =
    let m : ℕ = length c.args.order.now in
    let n : ℕ = c.args.n in
    let k : ℕ = n + m - n in
    let j : ℕ = 2 * n + m - 2 * n in
    let ek : k ≡ m = omega arith in
    let ej : j ≡ m = omega arith in
    let i : ℕ = c.args.left * n + 5 * (m * m) - c.args.left * n in
    let ei : i ≡ 5 * (m * m) = omega arith in
    let la : length c.improve_clusters-improved.new.area ≡ i = c.improve_clusters-improved.auto.area ∙ end_round_part _ _ _ _ _ _ _ _ _ _ _ c.requires.0 i ei in
    end_round_law _ _ _ _ _ _ _ _ _ _ _ c.requires.0 k j c.copy.new.to ek ej c.copy.ensures.after _ _ _ _ _ c.weak_items-weak.ensures _ _ _ _ _ c.improve_clusters-improved.ensures i c.improve_clusters-improved.new.area ei la _ _ _ _
    c.choose.ensures.0 c.choose.ensures.1 c.choose.ensures.2 c.choose.ensures.3
