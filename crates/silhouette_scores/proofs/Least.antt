-- The least mean: one more group, groups that have no member, NaNs; and that a score needs the distances and the labels below n alone.
use Prim.Native.Nat.{ℕ, zero, suc, ◌+◌, ◌<◌, ◌≤◌}
use mathlib.Core.Path.{◌≡◌, refl, ◌∙◌, ap, subst}
use mathlib.Core.Bool.{Bool, true, false, cond, not, ◌&&◌, ◌||◌}
use mathlib.Core.Logic.{⊎_elim}
use native.Mathlib.Numerals.{add-one}
use native.Mathlib.Nat.{eq-or-lt_of_le}
use native.Mathlib.Omega.{arith}
use borrow.Author.Tests.{eq-eqb, ne_eqb}
use lib.Dec.{T, eqb}
use lib.Ieee.{Float, fin, inf, nan, is_nan, of_int, add, div, lt, binary64}
use Rattle.lists.specs.Sums.{zero64, counted, lesser}
use Rattle.lists.proofs.Sums.{fold_same}
use Rattle.silhouette_scores.specs.Scores.{member, group_sum, group_count, least, score_of, score_from, silhouette}
use Rattle.lists.proofs.Tests.{or-true}

module _ (s : ℕ → Float) (c : ℕ → ℕ) (own : ℕ) where
  pub least_own : (l : ℕ) → l ≡ own → least s c own l ≡ least s c own (l + 1)
  unfolding least
  least_own l e = rw (add-one, eq-eqb l own e)

  pub least_none : (l : ℕ) → c l ≡ 0 → least s c own l ≡ least s c own (l + 1)
  unfolding least
  least_none l e = rw (add-one, eq-eqb (c l) 0 e, or-true (eqb l own))

  pub least_more : (l : ℕ) → (l ≡ own → ⊥) → (c l ≡ 0 → ⊥) → lesser (div binary64 (s l) (counted (c l))) (least s c own l) ≡ least s c own (l + 1)
  unfolding least
  least_more l e h = rw (add-one, ne_eqb l own e, ne_eqb (c l) 0 h)

  -- the groups from k on have no member
  pub least_beyond : (k n : ℕ) → ((l : ℕ) → k ≤ l → c l ≡ 0) → k ≤ n → least s c own k ≡ least s c own n
  least_beyond k zero h b = let e : k ≡ 0 = omega arith in rw e
  least_beyond k (suc n) h b =
      ⊎_elim
      (λ e. rw e)
      (λ q. least_beyond k n h (omega arith) ∙ rw (← add-one n) (least_none n (h n (omega arith))))
      (eq-or-lt_of_le {n = k} {m = suc n} b)

-- a NaN is below nothing
pub nan_over : (x : Float) → div binary64 nan x ≡ nan
unfolding div
nan_over nan = refl
nan_over (inf s) = refl
nan_over (fin s m e) = refl

pub lesser_nan : (b : Float) → lesser nan b ≡ b
unfolding lt
lesser_nan nan = refl
lesser_nan (inf s) = refl
lesser_nan (fin s m e) = refl

-- the least mean is no NaN
chosen : (t : Bool) (x b : Float) → is_nan x ≡ false → is_nan b ≡ false → is_nan (cond t x b) ≡ false
chosen true x b h g = h
chosen false x b h g = g

lesser_number_lem : (x b : Float) → is_nan b ≡ false → is_nan (lesser x b) ≡ false
unfolding is_nan
lesser_number_lem nan b h = rw (lesser_nan b) h
lesser_number_lem (inf s) b h = chosen (lt (inf s) b) (inf s) b refl h
lesser_number_lem (fin s m e) b h = chosen (lt (fin s m e) b) (fin s m e) b refl h

pub least_number : (s : ℕ → Float) (c : ℕ → ℕ) (own l : ℕ) → is_nan (least s c own l) ≡ false
unfolding least is_nan
least_number s c own zero = refl
least_number s c own (suc l) =
    let h = least_number s c own l in
    chosen (eqb l own || eqb (c l) 0) (least s c own l) (lesser (div binary64 (s l) (counted (c l))) (least s c own l)) h
    (lesser_number_lem (div binary64 (s l) (counted (c l))) (least s c own l) h)

-- -infinity over one, below each number; nothing is below it; and its score
pub low_over : (count : ℕ) → count ≡ 1 → div binary64 (inf true) (counted count) ≡ inf true
unfolding div of_int
low_over count e = rw e refl

pub lesser_low : (b : Float) → is_nan b ≡ false → lesser (inf true) b ≡ inf true
unfolding lt is_nan
lesser_low nan h = absurd (subst T h tt)
lesser_low (inf true) h = refl
lesser_low (inf false) h = refl
lesser_low (fin s m e) h = refl

pub low_lesser : (x : Float) → lesser x (inf true) ≡ inf true
unfolding lt
low_lesser nan = refl
low_lesser (inf true) = refl
low_lesser (inf false) = refl
low_lesser (fin s m e) = refl

pub score_low : (a : Float) → score_of a (inf true) ≡ zero64
unfolding score_of
score_low a = refl

-- sums and counts that agree have the same least mean
pub least_same : (s t : ℕ → Float) (c d : ℕ → ℕ) (own n : ℕ) → ((l : ℕ) → s l ≡ t l) → ((l : ℕ) → c l ≡ d l) → least s c own n ≡ least t d own n
unfolding least
least_same s t c d own zero e g = refl
least_same s t c d own (suc n) e g = rw (e n, g n, least_same s t c d own n e g)

-- distances that agree below n give the same score
pub score_same : (d f : ℕ → Float) (label : ℕ → ℕ) (n i : ℕ) → ((j : ℕ) → j < n → d j ≡ f j) → silhouette d label n i ≡ silhouette f label n i
unfolding score_from
score_same d f label n i e =
    let sums : (l : ℕ) → group_sum d label n i l ≡ group_sum f label n i l =
    λ l. fold_same (member label i l) (member label i l) (λ x k. add binary64 x (d k)) (λ x k. add binary64 x (f k)) zero64 n
    (λ k b. refl) (λ x k b. ap (add binary64 x) (e k b)) in
    rw (sums (label i), least_same (group_sum d label n i) (group_sum f label n i) (group_count label n i) (group_count label n i) (label i) n sums (λ l. refl))

-- labels that agree below n give the same score
pub score_labels : (d : ℕ → Float) (f g : ℕ → ℕ) (n i : ℕ) → i < n → ((j : ℕ) → j < n → f j ≡ g j) → silhouette d f n i ≡ silhouette d g n i
unfolding score_from
score_labels d f g n i h e =
    let alike : (l j : ℕ) → j < n → member f i l j ≡ member g i l j = λ l j b. ap (λ (x : ℕ). eqb x l && not (eqb j i)) (e j b) in
    let sums : (l : ℕ) → group_sum d f n i l ≡ group_sum d g n i l =
    λ l. fold_same (member f i l) (member g i l) (λ x k. add binary64 x (d k)) (λ x k. add binary64 x (d k)) zero64 n (alike l) (λ x k b. refl) in
    let counts : (l : ℕ) → group_count f n i l ≡ group_count g n i l =
    λ l. fold_same (member f i l) (member g i l) (λ c k. c + 1) (λ c k. c + 1) 0 n (alike l) (λ c k b. refl) in
    rw (e i h, sums (g i), counts (g i), least_same (group_sum d f n i) (group_sum d g n i) (group_count f n i) (group_count g n i) (g i) n sums counts)
