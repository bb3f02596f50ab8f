-- A score is a NaN or within -1..1, whatever the labels; and a number where the distances to the others of the item's own group are numbers.
use Prim.Native.Nat.{ℕ, zero, suc, ◌*◌, ◌^◌, ◌<◌, zero-le}
use mathlib.Core.Path.{◌≡◌, refl, sym, ap, ◌∙◌, subst}
use mathlib.Core.Logic.{◌⊎◌, inl, inr, ⊎_elim}
use mathlib.Core.Bool.{Bool, true, false, ◌&&◌, ◌||◌, cond, true≢false}
use native.Mathlib.Nat.{eq-or-lt_of_le, lt_of_le_of_lt, mul-le-mul_left}
use native.Mathlib.Omega.{arith}
use borrow.Author.Tests.{eqb-false, ne_eqb}
use lib.Dec.{T, eqb}
use lib.Ieee.{Float, nan, inf, binary64, sub, div, lt, eq, fits}
use lib.Ieee.Fits.{div-fits}
use Rattle.lists.specs.Sums.{zero64, counted, lesser}
use Rattle.lists.proofs.Sums.{count-le, count_some}
use Rattle.silhouette_scores.specs.Scores.{member, group_sum, group_count, least, score_of, score_from, silhouette}
use Rattle.certain_ranges.specs.Ranges.{Bounded, UpTo, OrNan}
use Rattle.certain_ranges.proofs.Operations.{below_inf, upto_over, upto_bounded, bounded_finite, nan_div, nan_lt, sub_nan}
use Rattle.certain_ranges.proofs.Totals.{adds_or_nan, adds_upto, sum_if_in, sum_if_nan}
use Rattle.certain_ranges.proofs.Ratios.{ratio_bounded}
use Rattle.certain_holes.proofs.Choices.{count-pos}

-- +infinity, or a double from +0 to k
abbrev OrInf : ℕ → Float → Type 0
OrInf k b = (b ≡ inf false) ⊎ (UpTo k b × T (fits binary64 b))

-- ---- one score
zero_in : Bounded 1 zero64
zero_in = zero-le

eq_nan : (y : Float) → eq nan y ≡ false
unfolding eq
eq_nan y = refl

score_inf : (a : Float) → score_of a (inf false) ≡ zero64
unfolding score_of
score_inf a = refl

score_nan : (k : ℕ) (b : Float) → UpTo k b → score_of nan b ≡ nan
unfolding score_of
score_nan k b h = rw (bounded_finite k b (upto_bounded k b h), eq_nan zero64, sub_nan b) (nan_div (cond (lt nan b) b nan))

score_ratio : (k : ℕ) (a b : Float) → UpTo k a → UpTo k b → T (fits binary64 a) → T (fits binary64 b) → Bounded 1 (score_of a b)
unfolding score_of
score_ratio k a b h g A B = rw (bounded_finite k b (upto_bounded k b g)) (go (eq a zero64 && eq b zero64) refl)
  where
    go : (z : Bool) → (eq a zero64 && eq b zero64) ≡ z → Bounded 1 (cond z zero64 (div binary64 (sub binary64 b a) (cond (lt a b) b a)))
    go true e = zero_in
    go false e = ratio_bounded k a b h g A B e

score_number : (k : ℕ) (a b : Float) → UpTo k a → T (fits binary64 a) → OrInf k b → Bounded 1 (score_of a b)
score_number k a b h A (inl e) = rw (e, score_inf a) zero_in
score_number k a b h A (inr g) = score_ratio k a b h g.0 A g.1

score_or_nan : (k : ℕ) (a b : Float) → OrNan (UpTo k) a → T (fits binary64 a) → OrInf k b → OrNan (Bounded 1) (score_of a b)
score_or_nan k a b (inr h) A g = inr (score_number k a b h A g)
score_or_nan k a b (inl e) A (inl i) = inr (rw (i, score_inf a) zero_in)
score_or_nan k a b (inl e) A (inr g) = inl (rw e (score_nan k b g.0))

-- ---- the means of the groups
lt_number : (k : ℕ) (y b : Float) → OrNan (UpTo k) y → lt y b ≡ true → UpTo k y
lt_number k y b (inl e) t = absurd (true≢false (sym t ∙ ap (λ (z : Float). lt z b) e ∙ nan_lt b))
lt_number k y b (inr h) t = h

lesser_range : (k : ℕ) (y b : Float) → OrNan (UpTo k) y → T (fits binary64 y) → OrInf k b → OrInf k (lesser y b)
lesser_range k y b h Y g = go (lt y b) refl
  where
    go : (t : Bool) → lt y b ≡ t → OrInf k (cond t y b)
    go true e = inr (lt_number k y b h e, Y)
    go false e = g

module _ (k : ℕ) (d : ℕ → Float) (label : ℕ → ℕ) (n i : ℕ) (K : k < 2 ^ 53) (N : n < 2 ^ 53) (KN : k * n < 2 ^ 53) where
  total : (l : ℕ) → k * group_count label n i l < 2 ^ 53
  total l = lt_of_le_of_lt (mul-le-mul_left k (count-le (member label i l) n)) KN

  abbrev mean : ℕ → Float
  mean l = div binary64 (group_sum d label n i l) (counted (group_count label n i l))

  over_count : (l : ℕ) → 0 < group_count label n i l → UpTo (k * group_count label n i l) (group_sum d label n i l) → UpTo k (mean l)
  over_count l C h = upto_over k (group_count label n i l) (group_sum d label n i l) C (lt_of_le_of_lt (count-le (member label i l) n) N) K h

  -- of a group that has a member, but for i
  mean_number : (l : ℕ) → 0 < group_count label n i l → ((j : ℕ) → j < n → member label i l j ≡ true → UpTo k (d j)) → UpTo k (mean l)
  mean_number l C h = over_count l C (sum_if_in UpTo adds_upto (member label i l) d k n (total l) h)

  mean_range : ((j : ℕ) → j < n → OrNan (UpTo k) (d j)) → (l : ℕ) → 0 < group_count label n i l → OrNan (UpTo k) (mean l)
  mean_range R l C = ⊎_elim
      (λ (e : group_sum d label n i l ≡ nan). inl (rw e (nan_div (counted (group_count label n i l)))))
      (λ h. inr (over_count l C h))
      (sum_if_in (λ z y. OrNan (UpTo z) y) adds_or_nan (member label i l) d k n (total l) (λ j g t. R j g))

  -- b
  least_range : ((j : ℕ) → j < n → OrNan (UpTo k) (d j)) → (own l : ℕ) → OrInf k (least (group_sum d label n i) (group_count label n i) own l)
  unfolding least
  least_range R own zero = inl refl
  least_range R own (suc l) = go (eqb l own) (eqb (group_count label n i l) 0) refl (least_range R own l)
    where
      go : (a z : Bool) → eqb (group_count label n i l) 0 ≡ z → OrInf k (least (group_sum d label n i) (group_count label n i) own l)
          → OrInf k (cond (a || z) (least (group_sum d label n i) (group_count label n i) own l) (lesser (mean l) (least (group_sum d label n i) (group_count label n i) own l)))
      go true z e h = h
      go false true e h = h
      go false false e h =
          lesser_range k (mean l) (least (group_sum d label n i) (group_count label n i) own l)
          (mean_range R l (count-pos (group_count label n i l) e)) (div-fits binary64 (group_sum d label n i l) (counted (group_count label n i l))) h

  -- the score
  pub silhouette_range : ((j : ℕ) → j < n → OrNan (UpTo k) (d j)) → OrNan (Bounded 1) (silhouette d label n i)
  unfolding score_from
  silhouette_range R = go (eqb (group_count label n i (label i)) 0) refl
    where
      go : (z : Bool) → eqb (group_count label n i (label i)) 0 ≡ z
          → OrNan (Bounded 1) (cond z zero64 (score_of (mean (label i)) (least (group_sum d label n i) (group_count label n i) (label i) n)))
      go true e = inr zero_in
      go false e =
          score_or_nan k (mean (label i)) (least (group_sum d label n i) (group_count label n i) (label i) n)
          (mean_range R (label i) (count-pos (group_count label n i (label i)) e)) (div-fits binary64 (group_sum d label n i (label i)) (counted (group_count label n i (label i))))
          (least_range R (label i) n)

  -- a number, where the distances to the others of i's own group are numbers
  pub silhouette_number : ((j : ℕ) → j < n → OrNan (UpTo k) (d j)) → ((j : ℕ) → j < n → member label i (label i) j ≡ true → UpTo k (d j)) → Bounded 1 (silhouette d label n i)
  unfolding score_from
  silhouette_number R O = go (eqb (group_count label n i (label i)) 0) refl
    where
      go : (z : Bool) → eqb (group_count label n i (label i)) 0 ≡ z
          → Bounded 1 (cond z zero64 (score_of (mean (label i)) (least (group_sum d label n i) (group_count label n i) (label i) n)))
      go true e = zero_in
      go false e =
          score_number k (mean (label i)) (least (group_sum d label n i) (group_count label n i) (label i) n)
          (mean_number (label i) (count-pos (group_count label n i (label i)) e) O) (div-fits binary64 (group_sum d label n i (label i)) (counted (group_count label n i (label i))))
          (least_range R (label i) n)

  -- 0, where no other group has a mean that is a number
  least_inf : (own l : ℕ) → ((g : ℕ) → g < l → (g ≡ own → ⊥) → 0 < group_count label n i g → mean g ≡ nan) → least (group_sum d label n i) (group_count label n i) own l ≡ inf false
  unfolding least
  least_inf own zero h = refl
  least_inf own (suc l) h = go (eqb l own) (eqb (group_count label n i l) 0) refl refl (least_inf own l (λ g r. h g (omega arith)))
    where
      go : (a z : Bool) → eqb l own ≡ a → eqb (group_count label n i l) 0 ≡ z → least (group_sum d label n i) (group_count label n i) own l ≡ inf false
          → cond (a || z) (least (group_sum d label n i) (group_count label n i) own l) (lesser (mean l) (least (group_sum d label n i) (group_count label n i) own l)) ≡ inf false
      go true z e f p = p
      go false true e f p = p
      go false false e f p = let q : mean l ≡ nan = h l (omega arith) (eqb-false l own e) (count-pos (group_count label n i l) f) in rw (q, p) (unfold lt in refl)

  pub silhouette_zero : ((g : ℕ) → g < n → (g ≡ label i → ⊥) → 0 < group_count label n i g → mean g ≡ nan) → silhouette d label n i ≡ zero64
  unfolding score_from
  silhouette_zero h = go (eqb (group_count label n i (label i)) 0)
    where
      go : (z : Bool) → cond z zero64 (score_of (mean (label i)) (least (group_sum d label n i) (group_count label n i) (label i) n)) ≡ zero64
      go true = refl
      go false = rw (least_inf (label i) n h) (score_inf (mean (label i)))

  -- b is a number, where the mean of some other group is one
  lesser_number_lem : (y b : Float) → UpTo k y → OrInf k b → UpTo k (lesser y b)
  lesser_number_lem y b h (inl e) = rw (e, below_inf k y (upto_bounded k y h)) h
  lesser_number_lem y b h (inr g) = go (lt y b)
    where
      go : (t : Bool) → UpTo k (cond t y b)
      go true = h
      go false = g.0

  least_number : ((j : ℕ) → j < n → OrNan (UpTo k) (d j)) → (own g l : ℕ) → g < l → (g ≡ own → ⊥) → 0 < group_count label n i g → UpTo k (mean g)
      → UpTo k (least (group_sum d label n i) (group_count label n i) own l)
  unfolding least
  least_number R own g zero h o c u = absurd (omega arith)
  least_number R own g (suc l) h o c u = ⊎_elim
      (λ (e : suc g ≡ suc l). let q : g ≡ l = omega arith in subst (λ (z : ℕ). UpTo k (step z (least (group_sum d label n i) (group_count label n i) own z))) q here)
      (λ (r : suc g < suc l). later (eqb l own) (eqb (group_count label n i l) 0) refl (least_number R own g l (omega arith) o c u))
      (eq-or-lt_of_le h)
    where
      step : ℕ → Float → Float
      step z b = cond (eqb z own || eqb (group_count label n i z) 0) b (lesser (mean z) b)

      here : UpTo k (step g (least (group_sum d label n i) (group_count label n i) own g))
      here = rw (ne_eqb g own o, ne_eqb (group_count label n i g) 0 (λ e. omega arith)) (lesser_number_lem (mean g) (least (group_sum d label n i) (group_count label n i) own g) u (least_range R own g))

      later : (a z : Bool) → eqb (group_count label n i l) 0 ≡ z → UpTo k (least (group_sum d label n i) (group_count label n i) own l)
          → UpTo k (cond (a || z) (least (group_sum d label n i) (group_count label n i) own l) (lesser (mean l) (least (group_sum d label n i) (group_count label n i) own l)))
      later true z e p = p
      later false true e p = p
      later false false e p = go (lt (mean l) (least (group_sum d label n i) (group_count label n i) own l)) refl
        where
          go : (t : Bool) → lt (mean l) (least (group_sum d label n i) (group_count label n i) own l) ≡ t → UpTo k (cond t (mean l) (least (group_sum d label n i) (group_count label n i) own l))
          go true t = lt_number k (mean l) (least (group_sum d label n i) (group_count label n i) own l) (mean_range R l (count-pos (group_count label n i l) e)) t
          go false t = p

  -- a NaN, where a distance to another of i's own group is one, and the distances to some other group are numbers
  pub silhouette_nan : ((j : ℕ) → j < n → OrNan (UpTo k) (d j)) → (j : ℕ) → j < n → member label i (label i) j ≡ true → d j ≡ nan
      → (g : ℕ) → g < n → (g ≡ label i → ⊥) → 0 < group_count label n i g → ((c : ℕ) → c < n → member label i g c ≡ true → UpTo k (d c)) → silhouette d label n i ≡ nan
  unfolding score_from
  silhouette_nan R j h t e g l o c u =
      rw (
        ne_eqb (group_count label n i (label i)) 0 (λ z. let some : 0 < group_count label n i (label i) = count_some (member label i (label i)) n j h t in omega arith),
        sum_if_nan (member label i (label i)) d n j h t e,
        nan_div (counted (group_count label n i (label i))),
      )
      (score_nan k (least (group_sum d label n i) (group_count label n i) (label i) n) (least_number R (label i) g n l o c (mean_number g c u)))
