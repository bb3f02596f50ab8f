use Prim.Native.Nat.{ℕ}
use mathlib.Core.Path.{◌∙◌, ◌≡◌, sym}
use mathlib.Core.List.{List}
use native.Mathlib.Omega.{arith}
use lib.ListN.{length}
use lib.Ieee.{Float}
use Rattle.distance.specs.Distance.{dist_at}
use Rattle.candidates.specs.Made.{repeats_given}
use Rattle.base.proofs.Laws.{found_below}
use Rattle.base.proofs.base_of_book.Goals as goal

pub groups_of-groups-requires : goal.groups_of-groups-requires
groups_of-groups-requires c =
    let m : ℕ = length c.args.rows.now in
    let x : ℕ → ℕ → Float = dist_at c.args.book.now c.args.n c.args.rows.now in
    let l : List ℕ = c.best_of_book.new.labels in
    let e : length l ≡ m = c.best_of_book.auto.labels ∙ c.requires.3 in
    let q = rw (c.in_ok-found.was, c.in-Some.is) at c.best_of_book.ensures in (
      omega (arith, e, c.requires.0.few_read),
      c.requires.4 ∙ sym e,
      c.requires.5 ∙ sym e,
      λ i h. rw e (found_below x m c.args.repeat c.requires.1.two c.args.src.at (repeats_given x m c.args.repeat c.args.src c.args.draws.now) q i (omega (arith, h, e))),
    )
