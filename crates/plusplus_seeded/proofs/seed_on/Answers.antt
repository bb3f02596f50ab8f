use Prim.Native.Nat.{◌+◌, ◌<◌, ◌^◌, ◌≤◌, ℕ}
use mathlib.Core.Path.{◌∙◌, ◌≡◌, refl, sym}
use mathlib.Core.List.{[], ◌∷◌}
use native.Mathlib.Omega.{arith}
use lib.ListN.{length, length-set, set, take}
use lib.Seq.{length-take-le, take-suc-set}
use lib.Ieee.{nan}
use Rattle.plusplus_trials.specs.Trials.{table}
use Rattle.rng_std.specs.States.{key_in}
use Rattle.rng_std.specs.Words.{word_of}
use Rattle.lists.specs.Lists.{listed, row}
use Rattle.draws.proofs.Counting.{trials_few}
use Rattle.rng_std.proofs.Ranges.{index_below, index_next, word_below}
use Rattle.lists.proofs.Matrix.{row_long}
use Rattle.lists.proofs.Listed.{listed_of}
use Rattle.plusplus_seeded.specs.Seeded.{seed_made}
use Rattle.plusplus_seeded.proofs.seed_on.Goals as goal
use Rattle.plusplus_seeded.proofs.seed_on.Goals.{After-random_range-first, Start}

-- the first draw, and the place behind it
abbrev words : After-random_range-first → ℕ → ℕ
words c = word_of (key_in c.args.rng.now)

abbrev items : After-random_range-first → ℕ
items c = length c.args.weights.now

some_items : (s : Start) → 0 < length s.args.weights.now
some_items s = omega (arith, s.requires.0.two, s.requires.0.names)

item : (c : After-random_range-first) → c.random_range-first.result.value < items c
item c = rw c.random_range-first.ensures.value-is (index_below (words c) (word_below (key_in c.args.rng.now)) (items c) (omega (arith, c.requires.0.two, c.requires.0.names)) c.args.taken)

next-few : (c : After-random_range-first) → c.random_range-first.result.taken < 2 ^ 59 + 2
next-few c = omega (arith, c.random_range-first.ensures.taken_is, index_next (words c) (word_below (key_in c.args.rng.now)) (items c) c.args.taken, c.requires.0.early)

first-row : (s : Start) (d : ℕ) → d < length s.args.weights.now → length (row s.args.squares.now (length s.args.weights.now) d) ≡ length s.args.weights.now
first-row s d h = row_long s.args.squares.now (length s.args.weights.now) d (omega (arith, s.requires.0.square)) h

pub row_of-requires : goal.row_of-requires
row_of-requires c = (c.requires.0.few, omega (arith, c.requires.0.square), item (goal.at.row_of-requires c).After-random_range-first)

pub copy-requires : goal.copy-requires
copy-requires c = rw c.row_of.ensures (first-row (goal.at.copy-requires c).Start c.random_range-first.result.value (item (goal.at.copy-requires c).After-random_range-first))

pub more_from-requires : goal.more_from-requires
more_from-requires c =
    let p = c.requires.0 in
    let a = c.args in
    let e = c.copy.ensures.len in
    let m = length a.weights.now in
    let h : m ≤ length c.buffer-sums.result = omega (arith, c.buffer-sums.ensures, p.few) in
    let t : c.trials-count.result ≤ length c.buffer-draws.result = omega (arith, c.buffer-draws.ensures, c.trials-count.ensures, trials_few (length a.centres.now)) in
    let n = next-few (goal.at.more_from-requires c).After-random_range-first in
    let i = c.random_range-first.ensures in record {
      weighed = (
        record { few = rw e p.few; some = rw e (some_items (goal.at.more_from-requires c).Start); square = rw e p.square },
        record { holds = rw i.taken_is i.moved.holds; early = omega arith; some = rw e (some_items (goal.at.more_from-requires c).Start); few = rw e p.few },
        n,
        length-take-le m c.buffer-sums.result h ∙ sym e,
      );
      in_bounds = simp length-set (p.two, omega (arith, p.names, p.few), length-take-le c.trials-count.result c.buffer-draws.result t ∙ c.trials-count.ensures);
    }

pub returns : goal.returns
unfolding seed_made
returns c =
    let a = c.args in
    let m = length a.weights.now in
    let k = length a.centres.now in
    let d = c.random_range-first.result.value in
    let q = table a.squares.now m in
    let ws = c.copy.new.to in
    let cs = set a.centres.now 0 d in
    let w : ws ≡ listed (q d) m = c.copy.ensures.after ∙ c.row_of.ensures ∙ listed_of nan (q d) m (row a.squares.now m d) (first-row (goal.at.returns c).Start d (item (goal.at.returns c).After-random_range-first)) (λ i l. refl) in
    let n : length ws ≡ m = c.copy.ensures.len in
    let l : length cs ≡ k = length-set a.centres.now 0 d in
    let t : take 1 cs ≡ d ∷ [] = take-suc-set a.centres.now 0 d (omega (arith, c.requires.0.two)) in
    let i = c.random_range-first.ensures in
    let e = c.more_from.ensures in
    (e.0 ∙ rw (i.moved.key_is, n, l, t, w, i.taken_is, i.value-is), e.1 ∙ rw (i.moved.key_is, n, l, w, i.taken_is, i.value-is), record { key_is = e.2.key_is ∙ i.moved.key_is; holds = e.2.holds })
