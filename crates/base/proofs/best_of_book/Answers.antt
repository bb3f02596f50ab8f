use Prim.Native.Nat.{ℕ}
use native.Mathlib.Omega.{arith}
use lib.ListN.{length}
use lib.Ieee.{Float}
use Rattle.distance.specs.Distance.{dist_at}
use Rattle.silhouette_areas.proofs.Laws.{book_round}
use Rattle.base.proofs.Laws.{book_searched}
use Rattle.base.proofs.best_of_book.Goals as goal

pub best_candidate-requires : goal.best_candidate-requires
best_candidate-requires c =
    let m : ℕ = length c.args.rows.now in
    let x : ℕ → ℕ → Float = dist_at c.args.book.now c.args.n c.args.rows.now in
    (book_round x m c.args.area.now c.book_pairs.ensures (omega (arith, c.requires.1.two)) c.requires.0.few_read c.requires.2, c.requires.1, c.requires.3, c.requires.4)

pub returns : goal.returns
returns c =
    let m : ℕ = length c.args.rows.now in
    let x : ℕ → ℕ → Float = dist_at c.args.book.now c.args.n c.args.rows.now in
    book_searched x m c.requires.1.two c.args.area.now c.book_pairs.ensures
    c.args.repeat c.args.src c.args.draws.now c.best_candidate.ensures
