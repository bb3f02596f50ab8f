use Rattle.std.specs.Prelude.{Ok}
use Rattle.plusplus_pick.specs.Potentials.{with}
use Rattle.lists.specs.Lists.{cells, listed}
use Rattle.plusplus.specs.Seeding.{Weights}
use Rattle.std.proofs.lemmas.Result.{err_from_is_err_and}
use Prim.Native.Nat.{◌+◌, ◌<◌, ◌≤◌}
use mathlib.Core.Path.{◌∙◌, ◌≡◌, sym}
use native.Mathlib.Omega.{arith}
use lib.ListN.{drop, length}
use Rattle.draws.specs.Draws.{Drawn}
use Rattle.plusplus_trials.specs.Trials.{next_of, table, tried_of}
use Rattle.plusplus_trials.proofs.Centring.{next_took, search_best, search_stopped}
use Rattle.draws.proofs.Taken.{Ends, ends_map}
use Rattle.plusplus.proofs.Turns.{row_fits, weights_best, weights_stopped}
use Rattle.plusplus_pick.specs.declared.Trial.{Trial}
use Rattle.plusplus.proofs.centre_by_sums.Goals as goal
use Rattle.plusplus.proofs.centre_by_sums.Goals.{Start}

-- the search, and that its pick is an item
abbrev found : Start → Drawn Trial
found s = next_of (table s.args.squares.now (length s.args.weights.now)) (length s.args.weights.now) s.args.count s.args.weights.now s.args.at (drop s.args.at s.args.draws.now)

abbrev Pick : Start → Trial → Type 0
Pick s b = b.pick < length s.args.weights.now

picks : (s : Start) → Ends (λ b rest. Pick s b) (λ p. Unit) (found s)
picks s =
    let a = s.args in
    let m = length a.weights.now in
    let ds = drop a.at a.draws.now in
    ends_map (λ b rest. (b.pick < m) × (rest ≡ drop a.count ds) × (a.count ≤ length ds)) (λ p. (a.at ≤ p) × (p < a.at + a.count)) (λ b rest. Pick s b) (λ p. Unit) (found s)
    (next_took (table a.squares.now m) m a.count s.requires.weighed.0.some (omega (arith, s.requires.le_count.0)) a.weights.now a.at ds) (λ b rest h. h.0) (λ p h. tt)

below : (s : Start) (b : Trial) → tried_of (found s) ≡ Ok b → Pick s b
below s b e = search_best (λ x rest. Pick s x) (λ p. Unit) (Pick s b) (found s) e (picks s) (λ rest d h. h)

pub row_of-requires : goal.row_of-requires
row_of-requires c =
    let s = (goal.at.row_of-requires c).Start in
    let w = s.requires.weighed.0 in
    (w.few, omega (arith, w.square), omega (arith, w.some, below s c.in_ok-b.b (sym c.best_trial.ensures ∙ c.in_ok-b.was)))

pub keep_lesser-requires : goal.keep_lesser-requires
keep_lesser-requires c =
    let s = (goal.at.keep_lesser-requires c).Start in
    let w = s.requires.weighed.0 in
    row_fits s.args.squares.now (length s.args.weights.now) _ c.row_of.ensures (omega (arith, w.square))
    (omega (arith, w.some, below s c.in_ok-b.b (sym c.best_trial.ensures ∙ c.in_ok-b.was)))

pub returns-in_err-b : goal.returns-in_err-b
returns-in_err-b c =
    let s = (goal.at.returns-in_err-b c).Start in
    let m = length s.args.weights.now in
    let e = sym c.best_trial.ensures ∙ c.in_err-b.was in
    let x = err_from_is_err_and c.from_residual.result c.from_residual.ensures.1 in
    record { value = rw (x.1, x.2) (sym e); weights = weights_stopped (table s.args.squares.now m) m s.args.weights.now s.args.weights.now (found s) (search_stopped (found s) e) }

pub returns : goal.returns
returns c =
    let s = (goal.at.returns c).Start in
    let m = length s.args.weights.now in
    let w = s.args.weights.now in
    let b = c.in_ok-b.b in
    let l = c.keep_lesser.new.weights in
    let e : tried_of (found s) ≡ Ok b = sym c.best_trial.ensures ∙ c.in_ok-b.was in
    let k : l ≡ listed (with (table s.args.squares.now m) (cells w) b.pick) m = c.keep_lesser.ensures ∙ rw c.row_of.ensures in
    record {
      value = sym e;
      weights = search_best (λ x rest. Pick s x) (λ p. Unit) (Weights (table s.args.squares.now m) m w (found s) l) (found s) e (picks s)
          (λ rest d h. weights_best (table s.args.squares.now m) m w l (found s) d k);
    }
