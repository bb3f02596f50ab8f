-- The t-stat: a NaN where a score is one, and a number above -infinity where every score is within -1..1.
use Prim.Native.Nat.{ℕ, ◌-◌, ◌*◌, ◌^◌, ◌≤◌, ◌<◌, zero-le}
use mathlib.Core.Path.{◌≡◌, refl, sym, ap, ◌∙◌, subst}
use mathlib.Core.Logic.{⊎_elim}
use mathlib.Core.Bool.{Bool, true, false, ◌&&◌, ◌||◌, cond, true≢false}
use native.Mathlib.Nat.{one-mul, mul_assoc, mul_comm, le_trans, le_of_eq, le_of_lt, le_of_mul-le-mul_right, mul-le-mul, mul-le-mul_right, lt_of_le_of_lt, sub-zero}
use native.Mathlib.Omega.{arith}
use borrow.Author.Tests.{ne_eqb}
use lib.Dec.{T, eqb, ltb, lit<, lit≤}
use lib.Pow.{pow_pos}
use lib.IntN.{ℤ, negsuc}
use lib.Ieee.{Float, nan, inf, fin, binary64, up, down, unlike, is_nan, of_bits, div, lt, le}
use lib.Ieee.Positive.{first_pos}
use lib.Ieee.Scale.{finite}
use Rattle.lists.specs.Sums.{zero64, sum_to, counted, square_from}
use Rattle.lists.proofs.Sums.{all_fails}
use Rattle.lists.proofs.Tests.{and-false}
use Rattle.stats.specs.Average.{same_bits, constant, exact_mean, variance_about, variance_of, deviation_of}
use Rattle.tstat.specs.Tstat.{tiny, ratio, tstat_of, plain_mean}
use Rattle.certain_ranges.specs.Ranges.{Bounded, UpTo}
use Rattle.certain_ranges.proofs.Operations.{above_inf, quotient, sized_bounded, upto_square_from, upto_over, upto_root, bounded_over, nan_div, nan_root, square_nan}
use Rattle.certain_ranges.proofs.Ratios.{or-true}
use Rattle.sqrt.proofs.Whole.{le-or-lt}
use Rattle.certain_ranges.proofs.Totals.{adds_bounded, adds_upto, sum_in, sum_nan}

-- ---- a NaN among the values
not_constant : (f : ℕ → Float) (n j : ℕ) → j < n → f j ≡ nan → constant f n ≡ false
unfolding constant
not_constant f n j h e =
    rw (sym (all_fails (λ i. same_bits (f i) (f 0)) n j h (rw e (unfold is_nan in refl)))) (and-false (finite (f 0)))

mean_nan : (f : ℕ → Float) (n j : ℕ) → j < n → f j ≡ nan → exact_mean f n ≡ nan
unfolding exact_mean
mean_nan f n j h e = rw (not_constant f n j h e, sum_nan f n j h e) (nan_div (counted n))

pub plain_nan : (f : ℕ → Float) (n j : ℕ) → j < n → f j ≡ nan → plain_mean f n ≡ nan
unfolding plain_mean
plain_nan f n j h e = rw (sum_nan f n j h e) (nan_div (counted n))

ratio_nan : ratio nan nan ≡ nan
unfolding ratio
ratio_nan = unfold le in nan_div nan

pub stat_nan : (f : ℕ → Float) (n j : ℕ) → j < n → f j ≡ nan → tstat_of f n ≡ nan
unfolding tstat_of variance_of variance_about
stat_nan f n j h e =
    rw (ne_eqb n 0 (λ z. omega arith), mean_nan f n j h e, sum_nan (λ i. square_from nan (f i)) n j h (square_nan (f j)), nan_div (counted (n - 0)), nan_root) ratio_nan

-- ---- values within -1..1
module _ (f : ℕ → Float) (n : ℕ) (some : 0 < n) (few : 4 * n < 2 ^ 53) (range : (j : ℕ) → j < n → Bounded 1 (f j)) where
  mean_bounded : Bounded 1 (exact_mean f n)
  unfolding exact_mean
  mean_bounded = go (constant f n)
    where
      go : (b : Bool) → Bounded 1 (cond b (f 0) (div binary64 (sum_to f n) (counted n)))
      go true = range 0 some
      go false = bounded_over 1 n (sum_to f n) some (omega arith) (omega arith) (sum_in Bounded adds_bounded f 1 n (omega arith) range)

  deviation_upto : UpTo 2 (deviation_of f n 0)
  unfolding variance_of variance_about
  deviation_upto =
      upto_root 4 2 (div binary64 (sum_to (λ j. square_from (exact_mean f n) (f j)) n) (counted (n - 0))) (omega arith) (omega arith)
      (subst (λ (z : ℕ). UpTo 4 (div binary64 (sum_to (λ j. square_from (exact_mean f n) (f j)) n) (counted z))) (sym (sub-zero n))
      (upto_over 4 n (sum_to (λ j. square_from (exact_mean f n) (f j)) n) some (omega arith) (omega arith)
      (sum_in UpTo adds_upto (λ j. square_from (exact_mean f n) (f j)) 4 n few
      (λ j h. upto_square_from 1 1 (exact_mean f n) (f j) (omega arith) (omega arith) mean_bounded (range j h)))))

-- a mean over a deviation above 1e-12
tiny_is : tiny ≡ fin false 0x119799812dea11 (negsuc 91)
unfolding of_bits
tiny_is = refl

not-le : (a b : ℕ) → (ltb a b || (eqb a b && true)) ≡ false → b < a
not-le a b e = ⊎_elim
    (λ (l : a ≤ b). absurd (true≢false (sym (or-true a b l) ∙ e)))
    (λ l. l)
    (le-or-lt a b)

-- above T / 2 ^ 92, where T is 2 ^ 52 at least, is at least 1 / 2 ^ 40
reciprocal : (T d n : ℕ) → 2 ^ 52 ≤ T → T * d < n * 2 ^ 92 → d ≤ n * 2 ^ 40
reciprocal T d n t h =
    le_of_mul-le-mul_right
    (le_trans (le_of_eq (mul_comm d (2 ^ 52))) (le_trans (mul-le-mul_right d t) (le_trans (le_of_lt h) (le_of_eq (sym (mul_assoc n (2 ^ 40) (2 ^ 52)))))))
    (pow_pos 52)

over_tiny : (a e d n : ℕ) → a ≤ 1 * e → d ≤ n * 2 ^ 40 → a * d ≤ 2 ^ 40 * (n * e)
over_tiny a e d n h g =
    le_trans (mul-le-mul h g)
    (le_of_eq (ap (λ (z : ℕ). z * (n * 2 ^ 40)) (one-mul e) ∙ sym (mul_assoc e n (2 ^ 40)) ∙ mul_comm (e * n) (2 ^ 40) ∙ ap (λ (z : ℕ). 2 ^ 40 * z) (mul_comm e n)))

over_deviation : (m : Float) (n : ℕ) (d : ℤ) → Bounded 1 m → 0x119799812dea11 * 1 * down d < n * up d * 2 ^ 92 → lt (inf true) (div binary64 m (fin false n d)) ≡ true
over_deviation nan n d h g = absurd h
over_deviation (inf s) n d h g = absurd h
over_deviation (fin s m e) n d h g =
    above_inf (2 ^ 40) (div binary64 (fin s m e) (fin false n d))
    (sized_bounded (unlike s false) (2 ^ 40) (div binary64 (fin s m e) (fin false n d))
    (quotient s false m n e d (2 ^ 40) (first_pos n (up d) (first_pos (n * up d) (2 ^ 92) (lt_of_le_of_lt zero-le g))) (lit< tt)
    (over_tiny (m * up e) (down e) (down d) (n * up d) h (reciprocal 0x119799812dea11 (down d) (n * up d) (lit≤ tt) g))))

ratio_above : (m s : Float) → Bounded 1 m → UpTo 2 s → lt (inf true) (ratio m s) ≡ true
ratio_above m nan h g = absurd g
ratio_above m (inf t) h g = absurd g
ratio_above m (fin true n d) h g = absurd (true≢false g.0)
ratio_above m (fin false n d) h g = unfold ratio in go (le (fin false n d) tiny) refl (lt zero64 m)
  where
    above : le (fin false n d) tiny ≡ false → 0x119799812dea11 * 1 * down d < n * up d * 2 ^ 92
    above e = not-le (n * up d * 2 ^ 92) (0x119799812dea11 * 1 * down d) (unfold le in subst (λ (z : Float). le (fin false n d) z ≡ false) tiny_is e)

    go : (b : Bool) → le (fin false n d) tiny ≡ b → (c : Bool) → lt (inf true) (cond b (cond c (inf false) zero64) (div binary64 m (fin false n d))) ≡ true
    go true e true = unfold lt in refl
    go true e false = unfold lt in refl
    go false e c = over_deviation m n d h (above e)

pub stat_above : (f : ℕ → Float) (n : ℕ) → 0 < n → 4 * n < 2 ^ 53 → ((j : ℕ) → j < n → Bounded 1 (f j)) → lt (inf true) (tstat_of f n) ≡ true
unfolding tstat_of
stat_above f n N F R = rw (ne_eqb n 0 (λ z. omega arith)) (ratio_above (exact_mean f n) (deviation_of f n 0) (mean_bounded f n N F R) (deviation_upto f n N F R))
