-- A draw that ends a seeding is out of range, where there are draws enough (specs/Ranges.antt); and a draw out of range ends it, there or in front of it.
use Prim.Native.Nat.{ℕ, zero, suc, ◌+◌, ◌-◌, ◌*◌, ◌<◌, ◌≤◌}
use mathlib.Core.Path.{◌≡◌, refl, sym, ◌∙◌, ap, subst}
use mathlib.Core.List.{List, [], ◌∷◌, ◌++◌, foldl-append}
use native.Mathlib.Nat.{suc-mul, zero-mul, not-suc-le-zero, le_of_suc-le-suc}
use native.Mathlib.Omega.{arith}
use lib.ListN.{length, drop}
use lib.Seq.{drop-drop}
use lib.Ieee.{Float, fin, inf, nan, lt, is_nan}
use Rattle.lists.specs.Lists.{cells, listed, numbers}
use Rattle.lists.specs.Sums.{sum_to}
use Rattle.lists.proofs.Listed.{get_d_listed, listed_same}
use Rattle.lists.proofs.Sums.{sum_same}
use Rattle.draws.specs.Counts.{trials_of, seeding_of}
use Rattle.draws.specs.Draws.{Drawn, drawn, refused, one_draw, and_then}
use Rattle.draws.proofs.Counting.{trials_some}
use Rattle.draws.proofs.Taken.{Ends, took}
use Rattle.draws.proofs.Bad.{Reads, Above, reads_map, then_reads, takes_bad, Stops, then_stops, takes_out}
use Rattle.plusplus_pick.specs.declared.Trial.{Trial}
use Rattle.plusplus_pick.specs.Potentials.{lesser_number, with, limit}
use Rattle.plusplus_trials.specs.Trials.{next_of}
use Rattle.plusplus_trials.proofs.Bad.{next_bad, next_out}
use Rattle.plusplus_trials.proofs.Centring.{next_took}
use Rattle.plusplus.specs.Seeding.{centres_of, first_centres, seeding}
use Rattle.plusplus.specs.Ranges.{weight_to, OutOfRange, first, trial}

-- a NaN gives way
lesser_nan : (x : Float) → lesser_number nan x ≡ x
unfolding lt is_nan
lesser_nan nan = refl
lesser_nan (inf s) = refl
lesser_nan (fin s n e) = refl

module _ (q : ℕ → ℕ → Float) (m : ℕ) where
  -- the weights, in a list, with one centre, and with one more
  pub weights_one : (c : ℕ) → listed (q c) m ≡ listed (weight_to q (c ∷ [])) m
  weights_one c = listed_same nan (q c) (weight_to q (c ∷ [])) m (λ i h. sym (lesser_nan (q c i)))

  pub weights_more : (ws : List Float) (cs : List ℕ) (c : ℕ) → ws ≡ listed (weight_to q cs) m → listed (with q (cells ws) c) m ≡ listed (weight_to q (cs ++ (c ∷ []))) m
  weights_more ws cs c e =
      listed_same nan (with q (cells ws) c) (weight_to q (cs ++ (c ∷ []))) m
      (λ i h.
      ap (λ (w : Float). lesser_number w (q c i)) (ap (λ (l : List Float). cells l i) e ∙ get_d_listed (weight_to q cs) m i nan h)
      ∙ sym (foldl-append (λ w p. lesser_number w (q p i)) nan cs (c ∷ [])))

  pub total_is : (ws : List Float) (cs : List ℕ) → ws ≡ listed (weight_to q cs) m → sum_to (cells ws) m ≡ sum_to (weight_to q cs) m
  total_is ws cs e = sum_same (cells ws) (weight_to q cs) m (λ i h. ap (λ (l : List Float). cells l i) e ∙ get_d_listed (weight_to q cs) m i nan h)

-- the draw at place p is one of the trials for a centre, `turn` centres more having been chosen behind cs, and not below its limit
record OfTrial (q : ℕ → ℕ → Float) (m t j : ℕ) (ws : List Float) (cs : List ℕ) (at : ℕ) (draws : List ℕ) (p : ℕ) : Type 0 where
  turn : ℕ
  which : ℕ
  centres : List ℕ
  turn_few : turn < j
  which_few : which < t
  chosen : centres_of q m t turn ws cs at (drop at draws) ≡ drawn centres (drop (at + turn * t) draws)
  place : p ≡ at + turn * t + which
  bad : limit (sum_to (weight_to q centres) m) m ≤ numbers draws p

module _ (q : ℕ → ℕ → Float) (m t : ℕ) (draws : List ℕ) (some : 0 < t) where
  -- a trial for the next centre
  trial_next : (j : ℕ) (ws : List Float) (cs : List ℕ) → ws ≡ listed (weight_to q cs) m → (at p : ℕ) → Above (limit (sum_to (cells ws) m) m) at t draws p
      → OfTrial q m t (suc j) ws cs at draws p
  unfolding centres_of
  trial_next j ws cs e at p b =
      let z : at + 0 * t ≡ at = omega (arith, zero-mul t) in
      record {
        turn = 0;
        which = p - at;
        centres = cs;
        turn_few = omega arith;
        which_few = omega (arith, b.0, b.1);
        chosen = rw z refl;
        place = omega (arith, z, b.0);
        bad = subst (λ (x : Float). limit x m ≤ numbers draws p) (total_is q m ws cs e) b.2;
      }

  -- a trial for a later one
  trial_later : (j : ℕ) (ws : List Float) (cs : List ℕ) (at p : ℕ) (x : Trial) → next_of q m t ws at (drop at draws) ≡ drawn x (drop (at + t) draws)
      → OfTrial q m t j (listed (with q (cells ws) x.pick) m) (cs ++ (x.pick ∷ [])) (at + t) draws p → OfTrial q m t (suc j) ws cs at draws p
  unfolding centres_of
  trial_later j ws cs at p x e o =
      let z : at + t + o.turn * t ≡ at + suc o.turn * t = omega (arith, suc-mul o.turn t) in
      record {
        turn = suc o.turn;
        which = o.which;
        centres = o.centres;
        turn_few = omega (arith, o.turn_few);
        which_few = o.which_few;
        chosen = rw e (o.chosen ∙ ap (λ (i : ℕ). drawn o.centres (drop i draws)) z);
        place = omega (arith, z, o.place);
        bad = o.bad;
      }

  centres_bad : (j : ℕ) (ws : List Float) (cs : List ℕ) → ws ≡ listed (weight_to q cs) m → (at : ℕ) → at + j * t ≤ length draws
      → Reads draws (at + j * t) (OfTrial q m t j ws cs at draws) (centres_of q m t j ws cs at (drop at draws))
  unfolding centres_of
  centres_bad zero ws cs e at l = let z : at ≡ at + 0 * t = omega (arith, zero-mul t) in ap (λ (i : ℕ). drop i draws) z
  centres_bad (suc j) ws cs e at l =
      then_reads draws (at + t) (at + suc j * t) (Above (limit (sum_to (cells ws) m) m) at t draws) (OfTrial q m t (suc j) ws cs at draws)
      (next_of q m t ws at (drop at draws)) (λ x rest. centres_of q m t j (listed (with q (cells ws) x.pick) m) (cs ++ (x.pick ∷ [])) (at + t) rest)
      (next_bad q m t some ws draws at (omega (arith, suc-mul j t)))
      (λ x d.
      let ws' = listed (with q (cells ws) x.pick) m in
      let cs' = cs ++ (x.pick ∷ []) in
      reads_map draws (at + t + j * t) (at + suc j * t) (OfTrial q m t j ws' cs' (at + t) draws) (OfTrial q m t (suc j) ws cs at draws)
      (centres_of q m t j ws' cs' (at + t) (drop (at + t) draws))
      (centres_bad j ws' cs' (weights_more q m ws cs x.pick e) (at + t) (omega (arith, suc-mul j t)))
      (omega (arith, suc-mul j t)) (λ p o. trial_later j ws cs at p x d o))
      (λ p b. trial_next j ws cs e at p b)

pub seeding_bad : (q : ℕ → ℕ → Float) (m k : ℕ) (draws : List ℕ) (at : ℕ) → at + seeding_of k ≤ length draws
    → Reads draws (at + seeding_of k) (OutOfRange q m k at draws) (seeding q m k at (drop at draws))
unfolding seeding
seeding_bad q m k draws at l =
    then_reads draws (at + 1) (at + seeding_of k) (Above m at 1 draws) (OutOfRange q m k at draws)
    (one_draw m at (drop at draws)) (λ c rest. centres_of q m t (k - 1) (listed (q c) m) (c ∷ []) (at + 1) rest)
    (takes_bad m (λ s d. d) draws 1 0 at (omega arith))
    (λ c e.
    reads_map draws (at + 1 + (k - 1) * t) (at + seeding_of k) (OfTrial q m t (k - 1) (listed (q c) m) (c ∷ []) (at + 1) draws) (OutOfRange q m k at draws)
    (centres_of q m t (k - 1) (listed (q c) m) (c ∷ []) (at + 1) (drop (at + 1) draws))
    (centres_bad q m t draws (trials_some k) (k - 1) (listed (q c) m) (c ∷ []) (weights_one q m c) (at + 1) (omega arith))
    (omega arith) (λ p o. of_trial c e p o))
    (λ p b. let z : at ≡ p = omega (arith, b.0, b.1) in subst (OutOfRange q m k at draws) z (first (subst (λ (i : ℕ). m ≤ numbers draws i) (sym z) b.2)))
  where
    t : ℕ
    t = trials_of k

    of_trial : (c : ℕ) → one_draw m at (drop at draws) ≡ drawn c (drop (at + 1) draws) → (p : ℕ) → OfTrial q m (trials_of k) (k - 1) (listed (q c) m) (c ∷ []) (at + 1) draws p
        → OutOfRange q m k at draws p
    of_trial c e p o =
        let is : first_centres q m k o.turn at (drop at draws) ≡ drawn o.centres (drop (at + 1 + o.turn * trials_of k) draws) = rw e o.chosen in
        subst (OutOfRange q m k at draws) (sym o.place)
        (trial o.turn o.which o.centres o.turn_few o.which_few is
        (subst (λ (i : ℕ). limit (sum_to (weight_to q o.centres) m) m ≤ numbers draws i) o.place o.bad))

-- a trial's draw out of range, with j centres more chosen in front of it
module _ (q : ℕ → ℕ → Float) (m t : ℕ) (z : 0 < m) (some : 0 < t) (draws : List ℕ) (i : ℕ) (which : i < t) (chosen : List ℕ) where
  abbrev Out : (j more : ℕ) → List Float → List ℕ → ℕ → Type 0
  Out j more ws cs at =
      ws ≡ listed (weight_to q cs) m → centres_of q m t j ws cs at (drop at draws) ≡ drawn chosen (drop (at + j * t) draws)
      → limit (sum_to (weight_to q chosen) m) m ≤ numbers draws (at + j * t + i) → Stops (at + j * t + i) (centres_of q m t more ws cs at (drop at draws))

  out_now : (more : ℕ) (ws : List Float) (cs : List ℕ) (at : ℕ) → Out 0 (suc more) ws cs at
  unfolding centres_of
  out_now more ws cs at e d b =
      let same : cs ≡ chosen = cc in
      let total : sum_to (cells ws) m ≡ sum_to (weight_to q chosen) m = total_is q m ws cs e ∙ ap (λ (l : List ℕ). sum_to (weight_to q l) m) same in
      then_stops (at + 0 * t + i) (next_of q m t ws at (drop at draws)) (λ x rest. centres_of q m t more (listed (with q (cells ws) x.pick) m) (cs ++ (x.pick ∷ [])) (at + t) rest)
      (next_out q m t ws draws at (at + 0 * t + i) (omega arith, omega (arith, zero-mul t), subst (λ (x : Float). limit x m ≤ numbers draws (at + 0 * t + i)) (sym total) b))

  out_later : (j more : ℕ) (ws : List Float) (cs : List ℕ) (at : ℕ) → ((ws : List Float) (cs : List ℕ) → Out j more ws cs (at + t)) → Out (suc j) (suc more) ws cs at
  unfolding centres_of
  out_later j more ws cs at ih e d b =
      by_next (next_of q m t ws at (drop at draws)) (next_took q m t z some ws at (drop at draws)) d
    where
      by_next : (D : Drawn Trial) → Ends (λ x rest. (x.pick < m) × (rest ≡ drop t (drop at draws)) × (t ≤ length (drop at draws))) (λ p. (at ≤ p) × (p < at + t)) D
          → and_then D (λ x rest. centres_of q m t j (listed (with q (cells ws) x.pick) m) (cs ++ (x.pick ∷ [])) (at + t) rest) ≡ drawn chosen (drop (at + suc j * t) draws)
          → Stops (at + suc j * t + i) (and_then D (λ x rest. centres_of q m t more (listed (with q (cells ws) x.pick) m) (cs ++ (x.pick ∷ [])) (at + t) rest))
      by_next (drawn x rest) h c =
          let y : at + t + j * t ≡ at + suc j * t = omega (arith, suc-mul j t) in
          let ws' = listed (with q (cells ws) x.pick) m in
          let cs' = cs ++ (x.pick ∷ []) in
          let r : rest ≡ drop (at + t) draws = h.1 ∙ drop-drop t at draws in
          let c' : centres_of q m t j ws' cs' (at + t) (drop (at + t) draws) ≡ drawn chosen (drop (at + t + j * t) draws) =
          ap (centres_of q m t j ws' cs' (at + t)) (sym r) ∙ c ∙ ap (λ (n : ℕ). drawn chosen (drop n draws)) (sym y) in
          let b' : limit (sum_to (weight_to q chosen) m) m ≤ numbers draws (at + t + j * t + i) = subst (λ (n : ℕ). limit (sum_to (weight_to q chosen) m) m ≤ numbers draws (n + i)) (sym y) b in
          subst (λ (n : ℕ). Stops (n + i) (centres_of q m t more ws' cs' (at + t) rest)) y
          (subst (λ (l : List ℕ). Stops (at + t + j * t + i) (centres_of q m t more ws' cs' (at + t) l)) (sym r) (ih ws' cs' (weights_more q m ws cs x.pick e) c' b'))
      by_next (refused p) h c = let n : ◌≡◌ {A = ℕ} 0 1 = cc in let y : ⊥ = omega arith in absurd y

  centres_out : (j more : ℕ) → j < more → (ws : List Float) (cs : List ℕ) (at : ℕ) → Out j more ws cs at
  centres_out j zero h ws cs at = absurd (not-suc-le-zero h)
  centres_out zero (suc more) h ws cs at = out_now more ws cs at
  centres_out (suc j) (suc more) h ws cs at = out_later j more ws cs at (λ ws' cs'. centres_out j more (le_of_suc-le-suc h) ws' cs' (at + t))

module _ (q : ℕ → ℕ → Float) (m k : ℕ) (draws : List ℕ) (at : ℕ) where
  pub seeding_out : 0 < m → {p : ℕ} → OutOfRange q m k at draws p → Stops p (seeding q m k at (drop at draws))
  unfolding seeding
  seeding_out z (first b) =
      then_stops at (one_draw m at (drop at draws)) (λ c rest. centres_of q m (trials_of k) (k - 1) (listed (q c) m) (c ∷ []) (at + 1) rest)
      (takes_out m (λ s d. d) draws 1 0 at at (omega arith, omega arith, b))
  seeding_out z (trial j i cs turn which d b) = by_first (one_draw m at (drop at draws)) (took m (λ s d. d) (λ d. Unit) (λ s d h g. tt) 1 0 at (drop at draws) tt) d
    where
      by_first : (D : Drawn ℕ) → Ends (λ c rest. Unit × (rest ≡ drop 1 (drop at draws)) × (1 ≤ length (drop at draws))) (λ p. (at ≤ p) × (p < at + 1)) D
          → and_then D (λ c rest. centres_of q m (trials_of k) j (listed (q c) m) (c ∷ []) (at + 1) rest) ≡ drawn cs (drop (at + 1 + j * trials_of k) draws)
          → Stops (at + 1 + j * trials_of k + i) (and_then D (λ c rest. centres_of q m (trials_of k) (k - 1) (listed (q c) m) (c ∷ []) (at + 1) rest))
      by_first (drawn c rest) h e =
          let r : rest ≡ drop (at + 1) draws = h.1 ∙ drop-drop 1 at draws in
          subst (λ (l : List ℕ). Stops (at + 1 + j * trials_of k + i) (centres_of q m (trials_of k) (k - 1) (listed (q c) m) (c ∷ []) (at + 1) l)) (sym r)
          (centres_out q m (trials_of k) z (trials_some k) draws i which cs j (k - 1) turn (listed (q c) m) (c ∷ []) (at + 1) (weights_one q m c)
          (ap (centres_of q m (trials_of k) j (listed (q c) m) (c ∷ []) (at + 1)) (sym r) ∙ e) b)
      by_first (refused p) h e = let n : ◌≡◌ {A = ℕ} 0 1 = cc in let y : ⊥ = omega arith in absurd y

  -- it does not stand in front of the seeding's draws
  pub out_from : {p : ℕ} → OutOfRange q m k at draws p → at ≤ p
  out_from (first b) = omega arith
  out_from (trial j i cs turn which d b) = omega arith
