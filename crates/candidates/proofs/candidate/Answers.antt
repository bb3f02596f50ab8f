use Rattle.std.proofs.lemmas.Result.{err_from_is_err_and}
use Prim.Native.Nat.{ℕ}
use mathlib.Core.Path.{◌∙◌, ap}
use native.Mathlib.Omega.{arith}
use lib.Ieee.{Float}
use Rattle.kmeans.specs.Steps.{labelled, LabelledBy, seed_given, seed_moved}
use Rattle.kmeans.specs.Clustering.{kmeans_of}
use Rattle.lists.specs.Lists.{numbers}
use Rattle.silhouette_areas.specs.Scoring.{scores_of}
use Rattle.distance_columns.specs.Columns.{points_at}
use Rattle.silhouette_areas.proofs.Laws.{points_stay, round_kept}
use Rattle.candidates.proofs.Turns.{candidate_made, candidate_refused, labels_done}
use Rattle.candidates.proofs.candidate.Goals as goal

pub scores_in-requires : goal.scores_in-requires
scores_in-requires c =
    let p = c.requires in
    let a = c.args in
    let new = c.labels_by.new.labels in
    let ds = seed_given (points_at a.area.now a.m) a.m a.k a.src a.draws.now in
    let q : LabelledBy (kmeans_of (points_at a.area.now a.m) a.m a.k a.src.at ds) (seed_moved (points_at a.area.now a.m) a.m a.k a.src) a.labels.now (labelled c.in_ok-labelled.labelled.source c.in_ok-labelled.labelled.ended) new = rw c.in_ok-labelled.was at c.labels_by.ensures.labelled_by in
    let v = labels_done (points_at a.area.now a.m) a.m a.k p.0.held.some (omega (arith, p.1.two)) a.src.at ds (seed_moved (points_at a.area.now a.m) a.m a.k a.src) a.labels.now new q in
    (round_kept a.m c.labels_by.new.area a.area.now c.labels_by.ensures.area_unchanged c.labels_by.auto.area p.0, v.1, p.3, p.1.names, v.2)

pub returns-in_err-labelled : goal.returns-in_err-labelled
returns-in_err-labelled c =
    let p = c.requires in
    let a = c.args in
    let new = c.labels_by.new.labels in
    let ds = seed_given (points_at a.area.now a.m) a.m a.k a.src a.draws.now in
    let q = rw c.in_err-labelled.was at c.labels_by.ensures.labelled_by in
    let y = err_from_is_err_and c.from_residual.result c.from_residual.ensures.1 in
    record {
      tried_by = rw (y.1, y.2) (candidate_refused (points_at a.area.now a.m) a.m a.k p.0.held.some (omega (arith, p.1.two)) a.src.at ds (seed_moved (points_at a.area.now a.m) a.m a.k a.src) a.labels.now new a.scores.now q);
      area_unchanged = c.labels_by.ensures.area_unchanged;
      rng_of = c.labels_by.ensures.rng_of;
    }

pub returns : goal.returns
returns c =
    let p = c.requires in
    let a = c.args in
    let new = c.labels_by.new.labels in
    let ds = seed_given (points_at a.area.now a.m) a.m a.k a.src a.draws.now in
    let q : LabelledBy (kmeans_of (points_at a.area.now a.m) a.m a.k a.src.at ds) (seed_moved (points_at a.area.now a.m) a.m a.k a.src) a.labels.now (labelled c.in_ok-labelled.labelled.source c.in_ok-labelled.labelled.ended) new = rw c.in_ok-labelled.was at c.labels_by.ensures.labelled_by in
    let scored = c.scores_in.ensures ∙ ap (λ (x : ℕ → ℕ → Float). scores_of x a.m (numbers new)) (points_stay a.m c.labels_by.new.area a.area.now c.labels_by.ensures.area_unchanged) in
    record {
      tried_by = candidate_made (points_at a.area.now a.m) a.m a.k p.0.held.some (omega (arith, p.1.two)) a.src.at ds (seed_moved (points_at a.area.now a.m) a.m a.k a.src) a.labels.now new q scored c.tstat_value-stat.ensures c.mean_of_value-mean.ensures;
      area_unchanged = c.labels_by.ensures.area_unchanged;
      rng_of = c.labels_by.ensures.rng_of;
    }
