use borrow.Author.Tests.{le-ltb, lt-ltb}
use Rattle.exports_statistics.specs.Draws.{draws_for}
use Rattle.exports_statistics.proofs.onc_draws_for.Goals as goal
use Rattle.exports_statistics.proofs.onc_draws_for.Goals.{then-names-lt2-via-then-names-lt2, then-names-lt2-via-else-names-lt2+then-names-gt256}

pub returns-then-names-lt2 : goal.returns-then-names-lt2
unfolding draws_for
returns-then-names-lt2 c =
    elim c.then-names-lt2.branch [
      | then-names-lt2-via-then-names-lt2 w ↦ rw (lt-ltb _ 2 w.if-names-lt2.true)
      | then-names-lt2-via-else-names-lt2+then-names-gt256 w ↦ rw (le-ltb _ 2 w.if-names-lt2.false, lt-ltb 256 _ w.if-names-gt256.true)
    ]

pub returns : goal.returns
unfolding draws_for
returns c = rw (le-ltb _ 2 c.if-names-lt2.false, le-ltb 256 _ c.if-names-gt256.false) c.draws_for.ensures
