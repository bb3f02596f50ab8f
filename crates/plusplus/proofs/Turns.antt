-- The steps of the loop over centres, and what the answers of the calls say of the definition.
use Rattle.std.specs.Prelude.{Ok, Err, Result}
use Prim.Native.Nat.{ℕ, suc, ◌+◌, ◌-◌, ◌*◌, ◌<◌, ◌≤◌}
use mathlib.Core.Path.{◌≡◌, refl, sym, ◌∙◌, subst}
use mathlib.Core.List.{List, [], ◌∷◌, ◌++◌}
use native.Mathlib.Nat.{mul-le-mul_right, suc-mul}
use native.Mathlib.Omega.{arith}
use lib.ListN.{length, drop}
use lib.Seq.{drop-drop}
use lib.Ieee.{Float}
use Rattle.lists.specs.Lists.{cells, listed, row}
use Rattle.lists.proofs.Matrix.{row_long}
use Rattle.draws.specs.declared.Stop.{Stop}
use Rattle.draws.specs.declared.Stop.TheVariants.{DrawOutOfRange}
use Rattle.draws.specs.Counts.{trials_of}
use Rattle.draws.specs.Draws.{Drawn, drawn, refused, index_draw}
use Rattle.draws.specs.Stops.{draw_of}
use Rattle.draws.proofs.Taken.{draw_value, draw_stopped}
use Rattle.plusplus_pick.specs.declared.Trial.{Trial}
use Rattle.plusplus_pick.specs.Potentials.{with}
use Rattle.plusplus_trials.specs.Trials.{next_of, tried_of}
use Rattle.plusplus_trials.proofs.Centring.{next_took, search_stopped, search_best}
use Rattle.plusplus.specs.Seeding.{centres_of, seeding, Weights, SeededBy}

-- the draws of one centre are among those of the centres that are left
pub turn-fits : (j k t : ℕ) → 1 ≤ j → j < k → (j - 1) * t + t ≤ (k - 1) * t
turn-fits j k t a b =
    let s : suc (j - 1) ≤ k - 1 = omega arith in
    omega (arith, mul-le-mul_right t s, suc-mul (j - 1) t)

pub turn_next : (j t : ℕ) → 1 ≤ j → (j - 1) * t + t ≡ (j + 1 - 1) * t
turn_next j t a =
    let s : j + 1 - 1 ≡ suc (j - 1) = omega arith in
    rw s (sym (suc-mul (j - 1) t))

pub row_fits : (squares : List Float) (m i : ℕ) {r : List Float} → r ≡ row squares m i → m * m ≤ length squares → i < m → length r ≡ m
row_fits squares m i e h l = rw e (row_long squares m i h l)

-- what the draws made, where one at place p was out of range and the run ends with s
abbrev pub StoppedBy : {S : Type 0} → Drawn S → Stop → Type 0
StoppedBy R s = (p : ℕ) × (R ≡ refused p) × (s ≡ DrawOutOfRange p)

-- what a call that ends so answers
pub seeded_stopped : (R : Drawn (List ℕ)) (next : ℕ) (s : Stop) (l : List ℕ) → StoppedBy R s → SeededBy R next (Err s) l
seeded_stopped R next s l (p, e, h) = record { answer_is = rw (e, h) refl; centres_are = rw e tt }

pub seeded_done : (R : Drawn (List ℕ)) (next n : ℕ) (l cs ds : List ℕ) → R ≡ drawn cs ds → l ≡ cs → n ≡ next → SeededBy R next (Ok n) l
seeded_done R next n l cs ds e h q = record { answer_is = rw (e, q) refl; centres_are = rw e h }

pub seeded_same : (R R' : Drawn (List ℕ)) (n n' : ℕ) (r : Result ℕ Stop) (l : List ℕ) → R ≡ R' → n ≡ n' → SeededBy R n r l → SeededBy R' n' r l
seeded_same R R' n n' r l e h s = subst (λ (x : ℕ). SeededBy R' x r l) h (subst (λ (D : Drawn (List ℕ)). SeededBy D n r l) e s)

pub weights_stopped : (q : ℕ → ℕ → Float) (m : ℕ) (ws ws' : List Float) (D : Drawn Trial) {s : Stop} → StoppedBy D s → Weights q m ws D ws'
weights_stopped q m ws ws' D (p, e, h) = rw e tt

pub weights_best : (q : ℕ → ℕ → Float) (m : ℕ) (ws ws' : List Float) (D : Drawn Trial) {b : Trial} {rest : List ℕ} → D ≡ drawn b rest
    → ws' ≡ listed (with q (cells ws) b.pick) m → Weights q m ws D ws'
weights_best q m ws ws' D e h = rw e h

module _ (q : ℕ → ℕ → Float) (m t : ℕ) (z : 0 < m) (some : 0 < t) where
  centre_refused : (k j at p : ℕ) (ws : List Float) (cs draws : List ℕ) → j < k → next_of q m t ws at (drop at draws) ≡ refused p
      → centres_of q m t (k - j) ws cs at (drop at draws) ≡ refused p
  unfolding centres_of
  centre_refused k j at p ws cs draws l e = let r : k - j ≡ suc (k - (j + 1)) = omega arith in rw (r, e)

  pub centre_stopped : (k j at : ℕ) {s : Stop} (ws : List Float) (cs draws : List ℕ) → j < k → tried_of (next_of q m t ws at (drop at draws)) ≡ Err s
      → StoppedBy (centres_of q m t (k - j) ws cs at (drop at draws)) s
  centre_stopped k j at ws cs draws l e =
      let v = search_stopped (next_of q m t ws at (drop at draws)) e in
      (v.0, centre_refused k j at v.0 ws cs draws l v.1, v.2)

  pub centre_best : (k j at : ℕ) (b : Trial) (ws ws' : List Float) (cs draws : List ℕ) → j < k → tried_of (next_of q m t ws at (drop at draws)) ≡ Ok b
      → Weights q m ws (next_of q m t ws at (drop at draws)) ws'
      → centres_of q m t (k - j) ws cs at (drop at draws) ≡ centres_of q m t (k - (j + 1)) ws' (cs ++ (b.pick ∷ [])) (at + t) (drop (at + t) draws)
  unfolding centres_of
  centre_best k j at b ws ws' cs draws l e u =
      let s : k - j ≡ suc (k - (j + 1)) = omega arith in
      let ds = drop at draws in
      search_best (λ x rest. (x.pick < m) × (rest ≡ drop t ds) × (t ≤ length ds)) (λ p. (at ≤ p) × (p < at + t))
      (centres_of q m t (k - j) ws cs at ds ≡ centres_of q m t (k - (j + 1)) ws' (cs ++ (b.pick ∷ [])) (at + t) (drop (at + t) draws))
      (next_of q m t ws at ds) e (next_took q m t z some ws at ds)
      (λ rest d h.
      let v : ws' ≡ listed (with q (cells ws) b.pick) m = subst (λ (D : Drawn Trial). Weights q m ws D ws') d u in
      rw (s, d, v, h.1 ∙ drop-drop t at draws))

  pub centre_none : (k j at : ℕ) (ws : List Float) (cs ds : List ℕ) → k ≤ j → centres_of q m t (k - j) ws cs at ds ≡ drawn cs ds
  unfolding centres_of
  centre_none k j at ws cs ds l = let s : k - j ≡ 0 = omega arith in rw s

-- the first centre, by the answer of its draw
module _ (q : ℕ → ℕ → Float) (m k at : ℕ) (draws : List ℕ) (l : at < length draws) where
  pub seeding_stopped : {s : Stop} → draw_of (index_draw m at (drop at draws)) ≡ Err s → StoppedBy (seeding q m k at (drop at draws)) s
  unfolding seeding
  seeding_stopped e = let v = draw_stopped m draws at l e in (at, rw v.1 refl, v.0)

  pub seeding_value : {c : ℕ} → draw_of (index_draw m at (drop at draws)) ≡ Ok c
      → seeding q m k at (drop at draws) ≡ centres_of q m (trials_of k) (k - 1) (listed (q c) m) (c ∷ []) (at + 1) (drop (at + 1) draws)
  unfolding seeding
  seeding_value e = rw (draw_value m draws at l e).1
