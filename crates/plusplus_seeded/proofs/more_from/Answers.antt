use Prim.Native.Nat.{◌*◌, ◌+◌, ◌-◌, ◌<◌, ◌≤◌, ℕ}
use mathlib.Core.Path.{◌∙◌, ◌≡◌, ap, refl, sym}
use mathlib.Core.List.{List, [], ◌++◌, ◌∷◌, append_assoc}
use native.Mathlib.Omega.{arith}
use native.Mathlib.Numerals.{add-one}
use lib.ListN.{length, length-set, set, take}
use lib.Seq.{take_all, take-suc-set}
use lib.Ieee.{Float}
use Rattle.plusplus_trials.specs.Trials.{table}
use Rattle.plusplus_pick.specs.Potentials.{with}
use Rattle.rng_std.specs.States.{key_in}
use Rattle.rng_std.specs.Words.{word_of}
use Rattle.lists.specs.Sums.{sum_to}
use Rattle.lists.specs.Lists.{cells, listed}
use Rattle.rng_std.proofs.Ranges.{word_below}
use Rattle.plusplus.proofs.Turns.{turn_next}
use Rattle.plusplus_seeded.specs.Seeded.{centre_of, centre_rule, more_made, place_of}
use Rattle.plusplus_seeded.proofs.Fine.{append_none}
use Rattle.plusplus_seeded.proofs.Rules.{place_few}
use Rattle.plusplus_seeded.proofs.Made.{none_made, turn_made}
use Rattle.plusplus_seeded.proofs.more_from.Goals as goal
use Rattle.plusplus_seeded.proofs.more_from.Goals.{After-next_from-next}

abbrev words : After-next_from-next → ℕ → ℕ
words c = word_of (key_in c.args.rng.now)

abbrev squared : After-next_from-next → ℕ → ℕ → Float
squared c = table c.args.squares.now (length c.args.weights.now)

abbrev items : After-next_from-next → ℕ
items c = length c.args.weights.now

abbrev count : After-next_from-next → ℕ
count c = length c.args.draws.now

picked : (c : After-next_from-next) → c.next_from-next.result.pick ≡ centre_of (words c) (squared c) (items c) (count c) c.loop-j.weights c.loop-j.taken
picked c = let l = c.loop-j in rw (l.invariant.7.key_is, l.invariant.4, l.invariant.5) at c.next_from-next.ensures.pick_value

weights-are : (c : After-next_from-next) → c.next_from-next.new.weights ≡ listed (with (squared c) (cells c.loop-j.weights) c.next_from-next.result.pick) (items c)
weights-are c = let l = c.loop-j in rw l.invariant.4 at c.next_from-next.ensures.weights_after

taken-are : (c : After-next_from-next) → c.next_from-next.result.taken ≡ place_of (centre_rule (words c) (squared c) (items c) (count c) c.loop-j.weights) (count c) c.loop-j.taken
taken-are c = let l = c.loop-j in rw (l.invariant.7.key_is, l.invariant.4, l.invariant.5) at c.next_from-next.ensures.taken_value.0

taken_few : (c : After-next_from-next) → c.next_from-next.result.taken ≤ c.loop-j.taken + 2 * count c
taken_few c =
    omega (arith, taken-are c, place_few (words c) (word_below (key_in c.args.rng.now)) (sum_to (cells c.loop-j.weights) (items c)) (items c) (count c) c.loop-j.taken)

made : (c : After-next_from-next) → c.loop-j.j < length c.args.centres.now
    → ((more_made (words c) (squared c) (items c) (count c) (length c.args.centres.now - c.loop-j.j) c.loop-j.weights c.loop-j.taken).centres
    ≡ c.next_from-next.result.pick ∷ (more_made (words c) (squared c) (items c) (count c) (length c.args.centres.now - (c.loop-j.j + 1)) c.next_from-next.new.weights c.next_from-next.result.taken).centres)
    × ((more_made (words c) (squared c) (items c) (count c) (length c.args.centres.now - c.loop-j.j) c.loop-j.weights c.loop-j.taken).next
    ≡ (more_made (words c) (squared c) (items c) (count c) (length c.args.centres.now - (c.loop-j.j + 1)) c.next_from-next.new.weights c.next_from-next.result.taken).next)
made c h =
    turn_made (words c) (squared c) (items c) (count c) (length c.args.centres.now) c.loop-j.j c.loop-j.weights c.loop-j.taken
    c.next_from-next.new.weights c.next_from-next.result.taken c.next_from-next.result.pick h (picked c) (weights-are c) (taken-are c)

pub loop-j-preserved : goal.loop-j-preserved
loop-j-preserved c =
    let a = c.args in
    let l = c.loop-j in
    let h = c.loop-j-test.true in
    let p = c.next_from-next.result.pick in
    let k = length a.centres.now in
    let v = made (goal.at.loop-j-preserved c).After-next_from-next h in
    let m = c.next_from-next.ensures.taken_value.1 in
    let r : take (l.j + 1) (set l.centres l.j p) ≡ take l.j l.centres ++ (p ∷ []) = rw add-one (take-suc-set l.centres l.j p (omega (arith, l.invariant.3, h))) in
    let rest : List ℕ = (more_made (words (goal.at.loop-j-preserved c).After-next_from-next) (squared (goal.at.loop-j-preserved c).After-next_from-next) (items (goal.at.loop-j-preserved c).After-next_from-next) (count (goal.at.loop-j-preserved c).After-next_from-next) (k - (l.j + 1)) c.next_from-next.new.weights c.next_from-next.result.taken).centres in (
      refl,
      omega arith,
      omega (arith, h),
      simp length-set l.invariant.3,
      c.next_from-next.auto.weights ∙ l.invariant.4,
      c.next_from-next.auto.draws ∙ l.invariant.5,
      c.next_from-next.auto.sums ∙ l.invariant.6,
      record { key_is = m.key_is ∙ l.invariant.7.key_is; holds = m.holds },
      omega (arith, taken_few (goal.at.loop-j-preserved c).After-next_from-next, l.invariant.8, turn_next l.j (count (goal.at.loop-j-preserved c).After-next_from-next) l.invariant.1),
      l.invariant.9 ∙ ap (λ (x : List ℕ). take l.j l.centres ++ x) v.0 ∙ sym (append_assoc (take l.j l.centres) (p ∷ []) rest) ∙ ap (λ (x : List ℕ). x ++ rest) (sym r),
      l.invariant.10 ∙ v.1,
    )

pub returns : goal.returns
returns c =
    let a = c.args in
    let l = c.loop-j in
    let m = length a.weights.now in
    let v = none_made (word_of (key_in a.rng.now)) (table a.squares.now m) m (length a.draws.now) (length a.centres.now) l.j l.weights l.taken (omega arith) in
    rw (← c.requires.in_bounds.2) (sym (l.invariant.9 ∙ ap (λ (x : List ℕ). take l.j l.centres ++ x) v.0 ∙ append_none (take l.j l.centres) ∙ take_all l.j l.centres (omega (arith, l.invariant.3))), sym (l.invariant.10 ∙ v.1), l.invariant.7)
