-- The draws of a round as the demand says them: the sum, for k from 2 to the larger of 2 and m - 1, of 1 + (k - 1) times (2 + the whole part of ln k). Definitions
-- only; `count_claim` of proofs/Claim.antt proves the claim.
use Rattle.std.specs.Prelude.{◌≡◌, ℕ, zero, suc, ◌+◌, ◌-◌, ◌*◌, ◌^◌, ◌<◌, ◌≤◌, max}
use Rattle.draws.specs.Counts.{trials_of, count_of}

-- e times 10 ^ 10 lies between the first two (`BoundsOfE`)
abbrev pub below_e : ℕ
below_e = 27182818284

abbrev pub above_e : ℕ
above_e = 27182818285

abbrev pub scale_e : ℕ
scale_e = 10000000000

-- n!, and n! times the sum of 1 / i! for i from 0 to n, which is a whole number too
unfoldable pub factorial : ℕ → ℕ
factorial zero = 1
factorial (suc n) = suc n * factorial n

unfoldable pub scaled_sum : ℕ → ℕ
scaled_sum zero = 1
scaled_sum (suc n) = suc n * scaled_sum n + 1

-- e is the limit of the sums of 1 / i!. From the one up to 1 / 14! on each of them is above 2.7182818284 and below 2.7182818285.
pub record BoundsOfE : Type 0 where
  pub above : (n : ℕ) → below_e * factorial (n + 14) < scaled_sum (n + 14) * scale_e
  pub below : (n : ℕ) → scaled_sum (n + 14) * scale_e < above_e * factorial (n + 14)

-- the upper bound of e to the power w is at most k, and the lower bound to the next power is above k: so w is the whole part of ln k
pub record WholeLn (k w : ℕ) : Type 0 where
  pub least : above_e ^ w ≤ k * scale_e ^ w
  pub most : k * scale_e ^ suc w < below_e ^ suc w

-- f a + f (a + 1) + .., n terms
unfoldable pub sum_from : (ℕ → ℕ) → ℕ → ℕ → ℕ
sum_from f a zero = 0
sum_from f a (suc n) = f a + sum_from f (suc a) n

-- f a + .. + f b
abbrev pub sum_between : (ℕ → ℕ) → ℕ → ℕ → ℕ
sum_between f a b = sum_from f a (suc b - a)

-- the draws of a round of m names for one repeat, `ln` giving whole parts of logarithms
abbrev pub round_draws : (ℕ → ℕ) → ℕ → ℕ
round_draws ln m = sum_between (λ k. 1 + (k - 1) * (2 + ln k)) 2 (max 2 (m - 1))

-- the whole part of ln k, for k from 2 to 256: the trials for k, less 2
abbrev pub ln_part : ℕ → ℕ
ln_part k = trials_of k - 2

-- What is proved of the counts: the bounds are those of e; `ln_part` gives these whole parts, and the trials are 2 more; and the count is the sum with any function
-- that gives them.
pub record CountClaim : Type 0 where
  pub bounds : BoundsOfE
  pub some : (k : ℕ) → 2 ≤ k → k ≤ 256 → WholeLn k (ln_part k)
  pub trials : (k : ℕ) → 2 ≤ k → k ≤ 256 → trials_of k ≡ 2 + ln_part k
  pub count : (ln : ℕ → ℕ) → ((k : ℕ) → 2 ≤ k → k ≤ 256 → WholeLn k (ln k)) → (m : ℕ) → m ≤ 256 → count_of m ≡ round_draws ln m
