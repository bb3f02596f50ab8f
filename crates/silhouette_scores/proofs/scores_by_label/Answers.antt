use Prim.Native.Nat.{ℕ}
use mathlib.Core.Path.{◌∙◌, ◌≡◌, ap}
use mathlib.Core.Bool.{false}
use native.Mathlib.Omega.{arith}
use lib.ListN.{length, replicate}
use lib.Ieee.{Float, inf}
use Rattle.silhouette_scores.proofs.Turns.{midway_none, scores_done}
use Rattle.silhouette_scores.proofs.scores_by_label.Goals as goal

pub loop-l-init : goal.loop-l-init
loop-l-init c =
    let e = c.fill.ensures.after (λ y e. e) ∙ ap (λ (x : Float). replicate (length c.args.scores.now) x) c.infinity.ensures ∙ ap (λ (x : ℕ). replicate x (inf false)) c.requires.scores_len.0 in
    midway_none c.args.across.now c.args.labels.now e c.requires.scores_len.2

pub returns : goal.returns
returns c =
    let e : c.loop-l.l ≡ c.args.k = omega arith in
    scores_done c.args.across.now c.args.labels.now c.args.k (rw e at c.loop-l.invariant) c.requires.by_index.0 c.requires.by_index.1 c.finish.ensures
