-- The draws of a round in the form of the demand (specs/Claim.antt).
use Rattle.std.proofs.Common.{◌≡◌, ℕ, zero, suc, ◌+◌, ◌-◌, ◌*◌, ◌^◌, ◌<◌, ◌≤◌, max, Bool, true, ltb, leb, sym, refl, ap, ◌∙◌, subst, lt_of_lt_of_le, lt_of_le_of_lt, add-zero, add-suc, mul_assoc, suc-add, mul-le-mul_left, mul-lt-mul_of_pos_right, pow-suc, mul-add, not-le_of_lt, mul_left_comm, arith, ltb-true, leb-true}
use mathlib.Core.Logic.{by_cases}
use native.Mathlib.Nat.{pow-le-pow_left, mul-lt-mul_of_pos_left}
use native.Mathlib.Decide.{dec_lt}
use Rattle.lists.specs.Sums.{all_to}
use Rattle.lists.proofs.Sums.{all_true}
use Rattle.draws.specs.Counts.{trials_of, seedings_of, count_of}
use Rattle.draws.specs.Claim.{below_e, above_e, scale_e, factorial, scaled_sum, BoundsOfE, WholeLn, ln_part, sum_from, round_draws, CountClaim}
use Rattle.draws.proofs.Counting.{trials_two}

-- the sums of the series stay above the one bound, and at least `scale_e` below the other
sums_above : (n : ℕ) → below_e * factorial (n + 14) < scaled_sum (n + 14) * scale_e
unfolding factorial scaled_sum
sums_above zero = ltb-true (below_e * factorial 14) (scaled_sum 14 * scale_e) refl
sums_above (suc n) =
    let f = factorial (n + 14) in
    let s = scaled_sum (n + 14) in
    let m = suc (n + 14) in
    let h : m * (below_e * f) < m * (s * scale_e) = mul-lt-mul_of_pos_left (sums_above n) (omega arith) in
    let e : m * (below_e * f) ≡ below_e * (m * f) = mul_left_comm m below_e f in
    let d : m * (s * scale_e) ≡ m * s * scale_e = sym (mul_assoc m s scale_e) in
    let l : below_e * (m * f) < (m * s + 1) * scale_e = omega (arith, h, e, d) in
    subst (λ (i : ℕ). below_e * factorial i < scaled_sum i * scale_e) (sym (suc-add n 14)) l

sums_below : (n : ℕ) → (scaled_sum (n + 14) + 1) * scale_e ≤ above_e * factorial (n + 14)
unfolding factorial scaled_sum
sums_below zero = leb-true ((scaled_sum 14 + 1) * scale_e) (above_e * factorial 14) refl
sums_below (suc n) =
    let f = factorial (n + 14) in
    let s = scaled_sum (n + 14) in
    let m = suc (n + 14) in
    let h : m * ((s + 1) * scale_e) ≤ m * (above_e * f) = mul-le-mul_left m (sums_below n) in
    let e : m * (above_e * f) ≡ above_e * (m * f) = mul_left_comm m above_e f in
    let d : m * ((s + 1) * scale_e) ≡ (m * s + m * 1) * scale_e = sym (mul_assoc m (s + 1) scale_e) ∙ ap (λ (x : ℕ). x * scale_e) (mul-add m s 1) in
    let l : (m * s + 1 + 1) * scale_e ≤ above_e * (m * f) = omega (arith, h, e, d) in
    subst (λ (i : ℕ). (scaled_sum i + 1) * scale_e ≤ above_e * factorial i) (sym (suc-add n 14)) l

pub bounds_of_e : BoundsOfE
bounds_of_e = record { above = sums_above; below = λ n. omega (arith, sums_below n) }

-- one test for each k from 2 to 256, computed
at_most : ℕ → Bool
at_most k = leb (above_e ^ ln_part k) (k * scale_e ^ ln_part k)

above : ℕ → Bool
above k = ltb (k * scale_e ^ suc (ln_part k)) (below_e ^ suc (ln_part k))

all_at_most : all_to (λ j. at_most (j + 2)) 255 ≡ true
unfolding all_to at_most
all_at_most = refl

all_above : all_to (λ j. above (j + 2)) 255 ≡ true
unfolding all_to above
all_above = refl

from_two : (p : ℕ → Bool) → all_to (λ j. p (j + 2)) 255 ≡ true → (k : ℕ) → 2 ≤ k → k ≤ 256 → p k ≡ true
from_two p h k two few =
    let e : k - 2 + 2 ≡ k = omega arith in
    subst (λ (i : ℕ). p i ≡ true) e (all_true (λ j. p (j + 2)) 255 h (k - 2) (omega arith))

pub whole_ln : (k : ℕ) → 2 ≤ k → k ≤ 256 → WholeLn k (ln_part k)
unfolding at_most above
whole_ln k two few =
    record {
      least = leb-true (above_e ^ ln_part k) (k * scale_e ^ ln_part k) (from_two at_most all_at_most k two few);
      most = ltb-true (k * scale_e ^ suc (ln_part k)) (below_e ^ suc (ln_part k)) (from_two above all_above k two few);
    }

-- a power of b that is above k times that of t stays above it
above_more : (t b : ℕ) → t ≤ b → 0 < b → (k a j : ℕ) → k * t ^ a < b ^ a → k * t ^ (a + j) < b ^ (a + j)
above_more t b le some k a zero h = rw (add-zero a) h
above_more t b le some k a (suc j) h =
    let p = k * t ^ (a + j) in
    let l : p * t < b ^ (a + j) * b = lt_of_le_of_lt (mul-le-mul_left p le) (mul-lt-mul_of_pos_right (above_more t b le some k a j h) some) in
    let e : k * t ^ (a + suc j) ≡ p * t = ap (λ (i : ℕ). k * t ^ i) (add-suc a j) ∙ ap (λ (x : ℕ). k * x) (pow-suc t (a + j)) ∙ sym (mul_assoc k (t ^ (a + j)) t) in
    let f : b ^ (a + suc j) ≡ b ^ (a + j) * b = ap (λ (i : ℕ). b ^ i) (add-suc a j) ∙ pow-suc b (a + j) in
    rw (e, f) l

-- so there is one whole part alone
not-below : (k v w : ℕ) → WholeLn k v → WholeLn k w → v < w → ⊥
not-below k v w a b h =
    let lower : below_e ≤ above_e = omega arith in
    let e : suc v + (w - suc v) ≡ w = omega arith in
    let l : k * scale_e ^ suc v < above_e ^ suc v = lt_of_lt_of_le a.most (pow-le-pow_left lower (suc v)) in
    let m : k * scale_e ^ w < above_e ^ w =
    subst (λ (i : ℕ). k * scale_e ^ i < above_e ^ i) e (above_more scale_e above_e (omega arith) (omega arith) k (suc v) (w - suc v) l) in
    not-le_of_lt m b.least

ln_one : (k v w : ℕ) → WholeLn k v → WholeLn k w → v ≡ w
ln_one k v w a b = by_cases (dec_lt v w) (λ h. absurd (not-below k v w a b h)) (λ n. by_cases (dec_lt w v) (λ h. absurd (not-below k w v b a h)) (λ o. omega arith))

sums : (ln : ℕ → ℕ) (k j : ℕ) → ((i : ℕ) → k ≤ i → i < k + j → ln_part i ≡ ln i) → seedings_of k j ≡ sum_from (λ i. 1 + (i - 1) * (2 + ln i)) k j
unfolding seedings_of sum_from
sums ln k zero h = refl
sums ln k (suc j) h =
    let e : trials_of k ≡ 2 + ln k = omega (arith, trials_two k, h k (omega arith) (omega arith)) in
    omega (arith, ap (λ (t : ℕ). 1 + (k - 1) * t) e, sums ln (suc k) j (λ i a b. h i (omega arith) (omega arith)))

counts : (ln : ℕ → ℕ) → ((k : ℕ) → 2 ≤ k → k ≤ 256 → WholeLn k (ln k)) → (m : ℕ) → m ≤ 256 → count_of m ≡ round_draws ln m
unfolding count_of
counts ln h m few =
    let e : max 2 (m - 1) - 1 ≡ suc (max 2 (m - 1)) - 2 = omega arith in
    sums ln 2 (max 2 (m - 1) - 1) (λ i two below. let l : i ≤ 256 = omega arith in ln_one i (ln_part i) (ln i) (whole_ln i two l) (h i two l))
    ∙ ap (sum_from (λ i. 1 + (i - 1) * (2 + ln i)) 2) e

pub count_claim : CountClaim
count_claim = record { bounds = bounds_of_e; some = whole_ln; trials = λ k two few. omega (arith, trials_two k); count = counts }
