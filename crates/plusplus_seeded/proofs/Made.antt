-- A seeding by the draws that a generator gave makes the centres that it made, takes all of them and no more, and is not refused.
use mathlib.Core.Path.{◌≡◌, refl, ◌∙◌, sym, ap}
use mathlib.Core.List.{List, [], ◌∷◌, ◌++◌, append_assoc}
use Prim.Native.Nat.{ℕ, zero, suc, ◌+◌, ◌-◌, ◌*◌, ◌^◌, ◌<◌, ◌≤◌}
use native.Mathlib.Omega.{arith}
use native.Mathlib.Nat.{suc-mul, zero-mul}
use borrow.Author.Tests.{lt-ltb}
use lib.ListN.{length, length-append}
use lib.Ieee.{Float}
use Rattle.lists.specs.Lists.{cells, listed}
use Rattle.lists.specs.Sums.{sum_to}
use Rattle.lists.proofs.Listed.{length-listed, get_d_listed}
use Rattle.draws.specs.Counts.{trials_of, seeding_of}
use Rattle.draws.specs.Draws.{drawn, takes, and_then}
use Rattle.draws.proofs.Counting.{trials_some}
use Rattle.plusplus_pick.specs.Potentials.{limit, with}
use Rattle.plusplus_trials.specs.Trials.{next_of}
use Rattle.plusplus.specs.Seeding.{centres_of, seeding}
use Rattle.rng_std.specs.Words.{index_from}
use Rattle.rng_std.proofs.Ranges.{index_below, index_next}
use Rattle.plusplus_seeded.specs.Seeded.{place_of, centre_rule, centre_draws, centre_of, more_made, seed_made}
use Rattle.plusplus_seeded.proofs.Rules.{rule_below, place_few}
use Rattle.plusplus_seeded.proofs.Fine.{Fine, pick_fine, append_none}

module _ (w : ℕ → ℕ) (small : (i : ℕ) → w i < 2 ^ 32) (q : ℕ → ℕ → Float) (m t : ℕ) (z : 0 < m) (some : 0 < t) where
  -- the draws of a centre
  pub centre_long : (ws : List Float) (i : ℕ) → length (centre_draws w q m t ws i) ≡ t
  centre_long ws i = length-listed (λ j. (centre_rule w q m t ws (place_of (centre_rule w q m t ws) j i)).value) t

  pub centre_fine : (ws : List Float) (i : ℕ) → Fine (limit (sum_to (cells ws) m) m) (centre_draws w q m t ws i)
  centre_fine ws i j l =
      let h : j < t = omega (arith, centre_long ws i) in
      rw (get_d_listed (λ j. (centre_rule w q m t ws (place_of (centre_rule w q m t ws) j i)).value) t j 0 h)
      (rule_below w small (sum_to (cells ws) m) m (place_of (centre_rule w q m t ws) j i) z)

  -- the centres that the draws make are those that were made
  pub more_made_lem : (j : ℕ) (ws : List Float) (i : ℕ) (cs : List ℕ) (at : ℕ) (rest : List ℕ)
      → centres_of q m t j ws cs at ((more_made w q m t j ws i).draws ++ rest) ≡ drawn (cs ++ (more_made w q m t j ws i).centres) rest
  unfolding centres_of more_made
  more_made_lem zero ws i cs at rest = ap (λ l. drawn l rest) (sym (append_none cs))
  more_made_lem (suc j) ws i cs at rest =
      let ds = centre_draws w q m t ws i in
      let p = centre_of w q m t ws i in
      let r = more_made w q m t j (listed (with q (cells ws) p) m) (place_of (centre_rule w q m t ws) t i) in
      let f = pick_fine q m t ws ds some (centre_long ws i) (centre_fine ws i) in
      ap (λ l. and_then (next_of q m t ws at l) (λ b left. centres_of q m t j (listed (with q (cells ws) b.pick) m) (cs ++ (b.pick ∷ [])) (at + t) left)) (append_assoc ds r.draws rest)
      ∙ ap (λ D. and_then D (λ b left. centres_of q m t j (listed (with q (cells ws) b.pick) m) (cs ++ (b.pick ∷ [])) (at + t) left)) (f.3 at (r.draws ++ rest))
      ∙ ap (λ c. centres_of q m t j (listed (with q (cells ws) c) m) (cs ++ (c ∷ [])) (at + t) (r.draws ++ rest)) (sym f.2)
      ∙ more_made_lem j (listed (with q (cells ws) p) m) (place_of (centre_rule w q m t ws) t i) (cs ++ (p ∷ [])) (at + t) rest
      ∙ ap (λ l. drawn l rest) (append_assoc cs (p ∷ []) r.centres)

  -- how many draws there are
  pub more_long : (j : ℕ) (ws : List Float) (i : ℕ) → length (more_made w q m t j ws i).draws ≡ j * t
  unfolding more_made
  more_long zero ws i = sym (zero-mul t)
  more_long (suc j) ws i =
      let v : List Float = listed (with q (cells ws) (centre_of w q m t ws i)) m in
      length-append (centre_draws w q m t ws i) (more_made w q m t j v (place_of (centre_rule w q m t ws) t i)).draws
      ∙ omega (arith, centre_long ws i, more_long j v (place_of (centre_rule w q m t ws) t i), suc-mul j t)

  -- how many words
  pub more_few : (j : ℕ) (ws : List Float) (i : ℕ) → (more_made w q m t j ws i).next ≤ i + 2 * (j * t)
  unfolding more_made
  more_few zero ws i = omega arith
  more_few (suc j) ws i =
      let v : List Float = listed (with q (cells ws) (centre_of w q m t ws i)) m in
      omega (arith, more_few j v (place_of (centre_rule w q m t ws) t i), place_few w small (sum_to (cells ws) m) m t i, suc-mul j t)

-- a turn of the loop over the centres
module _ (w : ℕ → ℕ) (q : ℕ → ℕ → Float) (m t k j : ℕ) (ws : List Float) (i : ℕ) where
  pub turn_made : (ws' : List Float) (i' p : ℕ) → j < k → p ≡ centre_of w q m t ws i → ws' ≡ listed (with q (cells ws) p) m → i' ≡ place_of (centre_rule w q m t ws) t i
      → ((more_made w q m t (k - j) ws i).centres ≡ p ∷ (more_made w q m t (k - (j + 1)) ws' i').centres) × ((more_made w q m t (k - j) ws i).next ≡ (more_made w q m t (k - (j + 1)) ws' i').next)
  unfolding more_made
  turn_made ws' i' p l e u n = let s : k - j ≡ suc (k - (j + 1)) = omega arith in rw (s, n, u, e) (refl, refl)

  pub none_made : k ≤ j → ((more_made w q m t (k - j) ws i).centres ≡ []) × ((more_made w q m t (k - j) ws i).next ≡ i)
  unfolding more_made
  none_made l = let s : k - j ≡ 0 = omega arith in rw s (refl, refl)

-- k centres
module _ (w : ℕ → ℕ) (small : (i : ℕ) → w i < 2 ^ 32) (q : ℕ → ℕ → Float) (m k : ℕ) (z : 0 < m) where
  -- The seeding on the draws that were made, whatever stands behind them and whatever the place of the first is: the centres that were made.
  pub seed_made_lem : (i at : ℕ) (rest : List ℕ) → seeding q m k at ((seed_made w q m k i).draws ++ rest) ≡ drawn (seed_made w q m k i).centres rest
  unfolding seeding seed_made takes
  seed_made_lem i at rest =
      let d = index_from w m i in
      rw (lt-ltb d.value m (index_below w small m z i))
      (more_made_lem w small q m (trials_of k) z (trials_some k) (k - 1) (listed (q d.value) m) d.next (d.value ∷ []) (at + 1) rest)

  -- its draws are as many as a seeding takes, at most two words for each
  pub seed_long : 0 < k → (i : ℕ) → length (seed_made w q m k i).draws ≡ seeding_of k
  unfolding seed_made
  seed_long one_of_lem i =
      let d = index_from w m i in
      omega (arith, more_long w small q m (trials_of k) z (trials_some k) (k - 1) (listed (q d.value) m) d.next)

  pub seed_few : (i : ℕ) → (seed_made w q m k i).next ≤ i + 2 * seeding_of k
  unfolding seed_made
  seed_few i =
      let d = index_from w m i in
      omega (arith, index_next w small m i, more_few w small q m (trials_of k) z (trials_some k) (k - 1) (listed (q d.value) m) d.next)
