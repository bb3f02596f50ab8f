use Prim.Native.Nat.{ℕ}
use mathlib.Core.Path.{◌∙◌, ◌≡◌, ap}
use lib.ListN.{length}
use Rattle.std.proofs.lemmas.Result.{err_from_is_err_and}
use Rattle.lists.specs.Lists.{first_from}
use Rattle.refusals.specs.Table.{Refusal, refusal}
use Rattle.refusals.proofs.Laws.{err_worked, fits_asked, ok_worked}
use Rattle.silhouette.specs.Leaf.{lists_fit, silhouettes_of}
use Rattle.silhouette.proofs.Called.{ready}
use Rattle.silhouette.proofs.silhouette_from_pairwise.Goals as goal
use Rattle.silhouette.proofs.silhouette_from_pairwise.Goals.{After-check}

-- what the checks answer, in the definition's words
module _ (d : After-check) {q : Refusal} where
  checked : q ≡ refusal (length d.args.pairwise.now) d.args.n d.args.n d.lists_fit-fits.result d.first_from-bad.result (length d.args.labels.now)
      → q ≡ refusal (length d.args.pairwise.now) d.args.n d.args.n (lists_fit d.args.n (length d.args.labels.now) (length d.args.scores.now) (length d.args.floats.now)) (first_from d.args.n d.args.labels.now) (length d.args.labels.now)
  checked e =
      e ∙ ap (λ (b : ℕ). refusal (length d.args.pairwise.now) d.args.n d.args.n d.lists_fit-fits.result b (length d.args.labels.now)) d.first_from-bad.ensures
      ∙ fits_asked _ _ _ _ _ _ _ d.lists_fit-fits.ensures

pub returns-in_err-check : goal.returns-in_err-check
unfolding silhouettes_of
returns-in_err-check c =
    let p = err_from_is_err_and c.from_residual.result c.from_residual.ensures.1 in
    rw (p.1, p.2) (err_worked _ _ _ c.args.n c.args.floats.now (checked (goal.at.returns-in_err-check c).After-check c.in_err-check.ensures))

pub score_checked-requires : goal.score_checked-requires
score_checked-requires c =
    let r = ready c.args.pairwise.now c.args.n c.args.labels.now c.args.scores.now c.args.floats.now (checked (goal.at.score_checked-requires c).After-check c.in_ok-check.ensures) in record { n_nonzero = r.0; by_index = r.1 }

pub returns : goal.returns
unfolding silhouettes_of
returns c = ok_worked _ c.args.n c.args.floats.now (checked (goal.at.returns c).After-check c.in_ok-check.ensures) c.score_checked.ensures.scores_after c.score_checked.ensures.floats_after
