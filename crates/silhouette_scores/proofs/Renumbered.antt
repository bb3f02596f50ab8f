-- Labels numbered anew, from 0 in their order without those that are not used: the scores stay.
use Prim.Native.Nat.{ℕ, zero, suc, ◌+◌, ◌<◌, ◌≤◌}
use mathlib.Core.Path.{◌≡◌, refl, sym, ◌∙◌, ap}
use mathlib.Core.Bool.{Bool, true, false, cond, not, ◌&&◌}
use mathlib.Core.Logic.{⊎_elim, by_cases}
use native.Mathlib.Numerals.{add-one}
use native.Mathlib.Nat.{eq-or-lt_of_le}
use native.Mathlib.Omega.{arith}
use native.Mathlib.Decide.{ℕ_discrete, dec_lt}
use borrow.Author.Tests.{eq-eqb, ne_eqb}
use lib.Dec.{eqb}
use lib.Ieee.{Float, add, binary64}
use Rattle.lists.specs.Sums.{zero64, fold_if, count_if}
use Rattle.lists.proofs.Sums.{fold_same, fold_none, count-le}
use Rattle.lists.proofs.Tests.{impossible, or-true}
use Rattle.silhouette_scores.specs.Scores.{member, group_sum, group_count, least, score_from, silhouette}
use Rattle.silhouette_scores.proofs.Least.{least_beyond}

-- the rank of a label: how many labels below it are used
module _ (used : ℕ → Bool) where
  -- a used label has a lower rank than any label above it
  rank_less : (k l : ℕ) → used k ≡ true → k < l → count_if used k < count_if used l
  unfolding fold_if
  rank_less k zero t h = absurd (omega arith)
  rank_less k (suc l) t h =
      ⊎_elim (λ q. rw (← q, t) (omega arith)) (λ q. by_test (used l) (rank_less k l t q)) (eq-or-lt_of_le {n = k} {m = l} (omega arith))
    where
      by_test : (b : Bool) → count_if used k < count_if used l → count_if used k < cond b (count_if used l + 1) (count_if used l)
      by_test true r = omega arith
      by_test false r = r

  -- so two used labels of one rank are one label
  rank_same : (k l : ℕ) → used k ≡ true → used l ≡ true → count_if used k ≡ count_if used l → k ≡ l
  rank_same k l t u e =
      by_cases (dec_lt k l)
      (λ h. absurd (omega (arith, rank_less k l t h)))
      (λ h. by_cases (dec_lt l k) (λ q. absurd (omega (arith, rank_less l k u q))) (λ q. omega arith))

  rank_test : (k l : ℕ) → used k ≡ true → used l ≡ true → eqb (count_if used k) (count_if used l) ≡ eqb k l
  rank_test k l t u =
      by_cases (ℕ_discrete k l)
      (λ e. eq-eqb (count_if used k) (count_if used l) (ap (count_if used) e) ∙ sym (eq-eqb k l e))
      (λ e. ne_eqb (count_if used k) (count_if used l) (λ q. e (rank_same k l t u q)) ∙ sym (ne_eqb k l e))

  -- sums t and counts d by rank are the sums s and counts c of the used labels; the others have no member
  module _ (s t : ℕ → Float) (c d : ℕ → ℕ) (own : ℕ) (has-rank : used own ≡ true) (sums : (l : ℕ) → used l ≡ true → t (count_if used l) ≡ s l)
      (counts : (l : ℕ) → used l ≡ true → d (count_if used l) ≡ c l) (none : (l : ℕ) → used l ≡ false → c l ≡ 0) where
    least_next : (l : ℕ) (b : Bool) → used l ≡ b → least t d (count_if used own) (count_if used l) ≡ least s c own l
        → least t d (count_if used own) (cond b (count_if used l + 1) (count_if used l)) ≡ least s c own (suc l)
    unfolding least
    least_next l true e before = rw (add-one (count_if used l), rank_test l own e has-rank, sums l e, counts l e, before)
    least_next l false e before = rw (eq-eqb (c l) 0 (none l e), or-true (eqb l own)) before

    pub least_ranked : (l : ℕ) → least t d (count_if used own) (count_if used l) ≡ least s c own l
    unfolding fold_if least
    least_ranked zero = refl
    least_ranked (suc l) = least_next l (used l) refl (least_ranked l)

-- n items with labels f; g are their ranks
module _ (d : ℕ → Float) (f g : ℕ → ℕ) (used : ℕ → Bool) (n : ℕ) (below : (j : ℕ) → j < n → f j < n) (of-items : (j : ℕ) → j < n → used (f j) ≡ true)
    (ranks : (j : ℕ) → j < n → g j ≡ count_if used (f j)) (i : ℕ) (h : i < n) where
  alike : (l : ℕ) → used l ≡ true → (j : ℕ) → j < n → member g i (count_if used l) j ≡ member f i l j
  alike l u j b =
      ap (λ (t : Bool). t && not (eqb j i)) (ap (λ (k : ℕ). eqb k (count_if used l)) (ranks j b) ∙ rank_test used (f j) l (of-items j b) u)

  sums : (l : ℕ) → used l ≡ true → group_sum d g n i (count_if used l) ≡ group_sum d f n i l
  sums l u =
      fold_same (member g i (count_if used l)) (member f i l) (λ x k. add binary64 x (d k)) (λ x k. add binary64 x (d k)) zero64 n (alike l u) (λ x k b. refl)

  counts : (l : ℕ) → used l ≡ true → group_count g n i (count_if used l) ≡ group_count f n i l
  counts l u = fold_same (member g i (count_if used l)) (member f i l) (λ c k. c + 1) (λ c k. c + 1) 0 n (alike l u) (λ c k b. refl)

  -- a label that is not used has no member, and no item has the rank of n or more
  count_unused : (l : ℕ) → used l ≡ false → group_count f n i l ≡ 0
  count_unused l u =
      fold_none (member f i l) (λ c k. c + 1) 0 n
      (λ j b. rw (ne_eqb (f j) l (λ e. impossible (sym u ∙ ap used (sym e) ∙ of-items j b))))

  count_beyond : (l : ℕ) → count_if used n ≤ l → group_count g n i l ≡ 0
  count_beyond l q =
      fold_none (member g i l) (λ c k. c + 1) 0 n
      (λ j b. rw (ne_eqb (g j) l (λ e. let y : ⊥ = omega (arith, ranks j b, rank_less used (f j) n (of-items j b) (below j b)) in y)))

  pub score_renumbered : silhouette d g n i ≡ silhouette d f n i
  unfolding score_from
  score_renumbered =
      let u : used (f i) ≡ true = of-items i h in
      let leasts : least (group_sum d g n i) (group_count g n i) (count_if used (f i)) n ≡ least (group_sum d f n i) (group_count f n i) (f i) n =
      sym (least_beyond (group_sum d g n i) (group_count g n i) (count_if used (f i)) (count_if used n) n count_beyond (count-le used n))
      ∙ least_ranked used (group_sum d f n i) (group_sum d g n i) (group_count f n i) (group_count g n i) (f i) u sums counts count_unused n in
      rw (ranks i h, sums (f i) u, counts (f i) u, leasts)
