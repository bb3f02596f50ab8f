use Rattle.std.specs.Prelude.{Ok, Err}
use mathlib.Core.Path.{subst}
use Rattle.lists.specs.Lists.{cells, listed}
use Rattle.plusplus.specs.Seeding.{Weights}
use Rattle.plusplus_pick.specs.Potentials.{with}
use Rattle.plusplus_seeded.specs.Seeded.{centre_rule, place_of}
use Prim.Native.Nat.{◌<◌, ℕ}
use mathlib.Core.Path.{◌∙◌, ◌≡◌, ap, sym}
use mathlib.Core.List.{List, []}
use native.Mathlib.Omega.{arith}
use lib.ListN.{length}
use lib.Ieee.{Float}
use Rattle.draws.specs.Draws.{Drawn, drawn}
use Rattle.plusplus_trials.specs.Trials.{next_of, table, tried_of}
use Rattle.rng_std.specs.States.{key_in}
use Rattle.rng_std.specs.Words.{word_of}
use Rattle.rng_std.proofs.Ranges.{word_below}
use Rattle.plusplus_seeded.specs.Seeded.{centre_draws, draws_by, pick_of, rule_of}
use Rattle.plusplus_seeded.proofs.Fine.{pick_fine}
use Rattle.plusplus_seeded.proofs.Made.{centre_fine, centre_long}
use Rattle.plusplus_pick.specs.declared.Trial.{Trial}
use Rattle.plusplus_seeded.proofs.next_from.Goals as goal
use Rattle.plusplus_seeded.proofs.next_from.Goals.{After-centre_by_sums}

-- the words, the items, the draws of a centre, and what they find
abbrev words : After-centre_by_sums → ℕ → ℕ
words c = word_of (key_in c.args.rng.now)

abbrev squared : After-centre_by_sums → ℕ → ℕ → Float
squared c = table c.args.squares.now (length c.args.weights.now)

abbrev items : After-centre_by_sums → ℕ
items c = length c.args.weights.now

abbrev trials : After-centre_by_sums → ℕ
trials c = length c.args.draws.now

abbrev given_draws : After-centre_by_sums → List ℕ
given_draws c = centre_draws (words c) (squared c) (items c) (trials c) c.args.weights.now c.args.taken

abbrev search-of : After-centre_by_sums → List ℕ → Drawn Trial
search-of c ds = next_of (squared c) (items c) (trials c) c.args.weights.now 0 ds

draws_are : (c : After-centre_by_sums) → c.draw_all-next.new.draws ≡ given_draws c
draws_are c =
    c.draw_all-next.ensures.0
    ∙ ap (λ (x : Float). draws_by (rule_of (words c) x (items c)) (trials c) c.args.taken) c.sum_weights-total.ensures.0

fine : (c : After-centre_by_sums)
    → (b : Trial) × (search-of c (given_draws c) ≡ drawn b []) × (pick_of (search-of c (given_draws c)) ≡ b.pick)
fine c =
    let s = c in
    let some : 0 < length s.args.draws.now = omega (arith, s.requires.in_bounds.0) in
    let f = pick_fine (squared c) (items c) (trials c) s.args.weights.now (given_draws c) some
    (centre_long (words c) (word_below (key_in s.args.rng.now)) (squared c) (items c) (trials c) s.requires.weighed.1.some some s.args.weights.now s.args.taken)
    (centre_fine (words c) (word_below (key_in s.args.rng.now)) (squared c) (items c) (trials c) s.requires.weighed.1.some some s.args.weights.now s.args.taken) in
    (f.0, f.1, f.2)

taken-are : (c : After-centre_by_sums) → c.draw_all-next.result ≡ place_of (centre_rule (words c) (squared c) (items c) (trials c) c.args.weights.now) (trials c) c.args.taken
taken-are c =
    c.draw_all-next.ensures.1
    ∙ ap (λ (x : Float). place_of (rule_of (words c) x (items c)) (trials c) c.args.taken) c.sum_weights-total.ensures.0

found : (c : After-centre_by_sums) → c.centre_by_sums.result ≡ Ok (fine c).0
found c = c.centre_by_sums.ensures.value ∙ ap (λ (l : List ℕ). tried_of (search-of c l)) (draws_are c) ∙ ap tried_of (fine c).1

weights-are : (c : After-centre_by_sums) → c.centre_by_sums.new.weights ≡ listed (with (squared c) (cells c.args.weights.now) (fine c).0.pick) (items c)
weights-are c =
    subst (λ (D : Drawn Trial). Weights (squared c) (items c) c.args.weights.now D c.centre_by_sums.new.weights)
    (ap (search-of c) (draws_are c) ∙ (fine c).1) c.centre_by_sums.ensures.weights

pub returns-in-Err : goal.returns-in-Err
returns-in-Err c =
    let b = (fine (goal.at.returns-in-Err c).After-centre_by_sums).0 in
    let s = c.in-Err._stop in
    let e : Err s ≡ Ok b = sym c.in-Err.is ∙ found (goal.at.returns-in-Err c).After-centre_by_sums in
    let z : ◌≡◌ {A = ℕ} 0 1 = cc in
    absurd (omega arith)

pub returns-in-Ok : goal.returns-in-Ok
returns-in-Ok c =
    let f = (goal.at.returns-in-Ok c).After-centre_by_sums in
    let x = (fine f).0 in
    let b = c.in-Ok.b in
    let e : Ok b ≡ Ok x = sym c.in-Ok.is ∙ found f in
    let d : b ≡ x = cc in
    let p : b.pick ≡ x.pick = ap (λ (y : Trial). y.pick) d in
    record {
      pick_value = p ∙ sym (fine f).2;
      weights_after = weights-are f ∙ ap (λ (y : ℕ). listed (with (squared f) (cells c.args.weights.now) y) (items f)) (sym p);
      taken_value = (taken-are f, c.draw_all-next.ensures.2);
    }
