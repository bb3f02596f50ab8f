use Rattle.std.proofs.lemmas.Result.{err_from_is_err_and}
use mathlib.Core.Path.{◌∙◌, ◌≡◌, sym}
use mathlib.Core.Bool.{false, true}
use Rattle.kmeans.specs.Steps.{seed_given, seed_moved}
use Rattle.choice.specs.Replaces.{replaces_kept}
use Rattle.candidates.specs.Steps.{made, TriedBy, best_from}
use Rattle.distance_columns.specs.Columns.{points_at}
use Rattle.candidates.specs.Candidates.{candidate_from}
use Rattle.candidates.proofs.Turns.{try_new, try_old, try_refused}
use Rattle.candidates.proofs.try_k.Goals as goal

pub returns-then-not-replaces : goal.returns-then-not-replaces
returns-then-not-replaces c =
    let a = c.args in
    let n = c.in_ok-tried.tried.source in
    let stat = c.in_ok-tried.tried.stat in
    let mean = c.in_ok-tried.tried.mean in
    let labels = c.candidate.new.labels in
    let scored = c.candidate.new.scores in
    let ds = seed_given (points_at a.area.now a.m) a.m a.k a.src a.draws.now in
    let q : TriedBy (candidate_from (points_at a.area.now a.m) a.m a.k a.src.at ds) (seed_moved (points_at a.area.now a.m) a.m a.k a.src) (made n stat mean) labels scored = rw c.in_ok-tried.was at c.candidate.ensures.tried_by in
    let h : replaces_kept stat mean a.kept ≡ false = sym c.replaces.ensures ∙ c.if-not-replaces.true in
    record {
      searched_by = try_old a.kept a.labels.now labels a.scores.now scored stat mean (points_at a.area.now a.m) a.m a.k a.src.at ds (seed_moved (points_at a.area.now a.m) a.m a.k a.src) q h;
      area_unchanged = c.candidate.ensures.area_unchanged;
      rng_of = c.candidate.ensures.rng_of;
    }

pub returns-in_err-tried : goal.returns-in_err-tried
returns-in_err-tried c =
    let a = c.args in
    let labels = c.candidate.new.labels in
    let scored = c.candidate.new.scores in
    let ds = seed_given (points_at a.area.now a.m) a.m a.k a.src a.draws.now in
    let q = rw c.in_err-tried.was at c.candidate.ensures.tried_by in
    let y = err_from_is_err_and c.from_residual.result c.from_residual.ensures.1 in
    record {
      searched_by = rw (y.1, y.2) (try_refused (points_at a.area.now a.m) a.m a.k a.src.at ds (seed_moved (points_at a.area.now a.m) a.m a.k a.src) (best_from a.kept a.labels.now a.scores.now) a.labels.now labels a.scores.now scored q);
      area_unchanged = c.candidate.ensures.area_unchanged;
      rng_of = c.candidate.ensures.rng_of;
    }

pub returns : goal.returns
returns c =
    let a = c.args in
    let n = c.in_ok-tried.tried.source in
    let stat = c.in_ok-tried.tried.stat in
    let mean = c.in_ok-tried.tried.mean in
    let labels = c.candidate.new.labels in
    let scored = c.candidate.new.scores in
    let ds = seed_given (points_at a.area.now a.m) a.m a.k a.src a.draws.now in
    let q : TriedBy (candidate_from (points_at a.area.now a.m) a.m a.k a.src.at ds) (seed_moved (points_at a.area.now a.m) a.m a.k a.src) (made n stat mean) labels scored = rw c.in_ok-tried.was at c.candidate.ensures.tried_by in
    let h : replaces_kept stat mean a.kept ≡ true = sym c.replaces.ensures ∙ c.if-not-replaces.false in
    let t = try_new a.kept a.labels.now labels a.scores.now scored stat mean (points_at a.area.now a.m) a.m a.k a.src.at ds (seed_moved (points_at a.area.now a.m) a.m a.k a.src) q h in
    record {
      searched_by = rw (c.copy.ensures.after, c.copy-2.ensures.after) t;
      area_unchanged = c.candidate.ensures.area_unchanged;
      rng_of = c.candidate.ensures.rng_of;
    }
