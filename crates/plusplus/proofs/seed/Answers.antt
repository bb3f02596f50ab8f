use Rattle.std.specs.Prelude.{Ok}
use Rattle.std.proofs.lemmas.Result.{err_from_is_err_and}
use Prim.Native.Nat.{◌*◌, ◌+◌, ◌-◌, ◌<◌, ℕ}
use mathlib.Core.Path.{◌∙◌, ◌≡◌, refl, sym}
use mathlib.Core.List.{[], ◌∷◌}
use native.Mathlib.Omega.{arith}
use lib.ListN.{drop, length, length-set, set, take}
use lib.Seq.{take-suc-set}
use lib.Ieee.{nan}
use Rattle.plusplus.specs.Seeding.{centres_of, seeding}
use Rattle.draws.specs.Stops.{draw_of}
use Rattle.draws.specs.Draws.{index_draw}
use Rattle.draws.specs.Counts.{seeding_of, trials_of}
use Rattle.plusplus_trials.specs.Trials.{table}
use Rattle.lists.specs.Lists.{listed, row}
use Rattle.draws.proofs.Taken.{draw_value}
use Rattle.lists.proofs.Listed.{listed_of}
use Rattle.lists.proofs.Matrix.{row_long}
use Rattle.plusplus.proofs.Turns.{seeded_same, seeded_stopped, seeding_stopped, seeding_value}
use Rattle.plusplus.proofs.seed.Goals as goal
use Rattle.plusplus.proofs.seed.Goals.{Start}

-- the first draw is in the list, and what it gives is an item
inside : (s : Start) → s.args.at < length s.args.draws.now
inside s = omega (arith, s.requires.asked.enough)

item : (s : Start) {d : ℕ} → draw_of (index_draw (length s.args.weights.now) s.args.at (drop s.args.at s.args.draws.now)) ≡ Ok d → d < length s.args.weights.now
item s e = (draw_value (length s.args.weights.now) s.args.draws.now s.args.at (inside s) e).0

first-row : (s : Start) (d : ℕ) → d < length s.args.weights.now → length (row s.args.squares.now (length s.args.weights.now) d) ≡ length s.args.weights.now
first-row s d h = row_long s.args.squares.now (length s.args.weights.now) d (omega (arith, s.requires.square)) h

pub row_of-requires : goal.row_of-requires
row_of-requires c =
    (c.requires.few, omega (arith, c.requires.square), item (goal.at.row_of-requires c).Start (sym c.draw_below.ensures ∙ c.in_ok-d.was))

pub copy-requires : goal.copy-requires
copy-requires c =
    rw c.row_of.ensures (first-row (goal.at.copy-requires c).Start c.in_ok-d.d (item (goal.at.copy-requires c).Start (sym c.draw_below.ensures ∙ c.in_ok-d.was)))

pub returns-in_err-d : goal.returns-in_err-d
returns-in_err-d c =
    let a = c.args in
    let m = length a.weights.now in
    let x = err_from_is_err_and c.from_residual.result c.from_residual.ensures.1 in
    rw (x.1, x.2) (seeded_stopped _ _ _ _ (seeding_stopped (table a.squares.now m) m (length a.centres.now) a.at a.draws.now (inside (goal.at.returns-in_err-d c).Start) (sym c.draw_below.ensures ∙ c.in_err-d.was)))

pub returns : goal.returns
returns c =
    let a = c.args in
    let m = length a.weights.now in
    let k = length a.centres.now in
    let d = c.in_ok-d.d in
    let q = table a.squares.now m in
    let v = sym c.draw_below.ensures ∙ c.in_ok-d.was in
    let ws = c.copy.new.to in
    let cs = set a.centres.now 0 d in
    let w : ws ≡ listed (q d) m = c.copy.ensures.after ∙ c.row_of.ensures ∙ listed_of nan (q d) m (row a.squares.now m d) (first-row (goal.at.returns c).Start d (item (goal.at.returns c).Start v)) (λ i l. refl) in
    let n : length ws ≡ m = c.copy.ensures.len in
    let l : length cs ≡ k = length-set a.centres.now 0 d in
    let t : take 1 cs ≡ d ∷ [] = take-suc-set a.centres.now 0 d (omega (arith, c.requires.asked.two)) in
    let e : centres_of (table a.squares.now (length ws)) (length ws) (trials_of (length cs)) (length cs - 1) ws (take 1 cs) (a.at + 1) (drop (a.at + 1) a.draws.now) ≡ seeding q m k a.at (drop a.at a.draws.now) =
    rw (n, l, t, w) (sym (seeding_value q m k a.at a.draws.now (inside (goal.at.returns c).Start) v)) in
    let u : a.at + 1 + (length cs - 1) * trials_of (length cs) ≡ a.at + seeding_of k = rw l (omega arith) in
    seeded_same _ _ _ _ _ _ e u c.more_centres.ensures
