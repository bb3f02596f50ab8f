use Prim.Native.Nat.{◌*◌, ◌≤◌}
use mathlib.Core.Path.{◌∙◌, refl, sym}
use native.Mathlib.Omega.{arith}
use lib.ListN.{length}
use lib.Seq.{length-take-le}
use Rattle.draws.specs.Counts.{seeding_of}
use Rattle.kmeans_answers.proofs.Runs.{areas_back, enough_draws, too_few}
use Rattle.kmeans_labels.proofs.run_labels.Goals as goal

pub returns-then-too_few : goal.returns-then-too_few
returns-then-too_few c = record {
  labels_after = too_few (seeding_of c.args.k) c.args.draws.now _ c.args.labels.now (sym c.too_few.ensures ∙ c.if-too_few.true);
  floats_unchanged = refl;
}

pub returns : goal.returns
returns c =
    let h : 5 * (c.args.n * c.args.n) ≤ length c.args.floats.now = omega (arith, c.requires.4) in
    let e = sym c.too_few.ensures ∙ c.if-too_few.false in
    let l = c.labels_alone.auto.area ∙ length-take-le (5 * (c.args.n * c.args.n)) c.args.floats.now h in
    record {
      labels_after = enough_draws (seeding_of c.args.k) c.args.draws.now _ c.args.labels.now e c.labels_alone.ensures;
      floats_unchanged = areas_back c.args.n c.args.floats.now c.labels_alone.new.area l;
    }
