-- A share is exact: d below 2 ^ 53 is a double, and so is d over 2 ^ 53.
use Rattle.std.proofs.Common.{◌≡◌, ℕ, ◌*◌, ◌^◌, ◌<◌, true, false, T, sym, ap, ◌∙◌, subst, mul_assoc, mul_comm, mul-pos, arith, pow_pos, pow-add}
use lib.Ieee.{Float, nan, inf, fin, binary64, round, div, up, down}
use lib.Ieee.Exact.{HasValue, round_exact}
use lib.Ieee.Fits.{down_pos}
use lib.Ieee.Scale.{round_same}
use Rattle.lists.specs.Sums.{counted}
use Rattle.lists.proofs.Counted.{in_range, counted_exact}
use Rattle.draws.specs.Draws.{full, ShareClaim}

scaled : (d : ℕ) → d * 2 ^ 1074 ≡ d * 2 ^ 1021 * 2 ^ 53
scaled d = ap (λ (x : ℕ). d * x) (pow-add 2 1021 53) ∙ sym (mul_assoc d (2 ^ 1021) (2 ^ 53))

over_exact : (d : ℕ) → d < 2 ^ 53 → HasValue (round binary64 false d (2 ^ 53)) false d (2 ^ 53)
over_exact d h = round_exact binary64 false d (2 ^ 53) d 1021 (pow_pos 53) h (in_range d 1021 h (omega arith)) (scaled d)

-- a double that is d, over 2 ^ 53
divided : (x : Float) (d : ℕ) → HasValue x false d 1 → div binary64 x full ≡ round binary64 false d (2 ^ 53)
unfolding div
divided nan d v = absurd v
divided (inf s) d v = absurd v
divided (fin true m e) d v = absurd (subst T v.0 tt)
divided (fin false m e) d v =
    round_same binary64 false (m * up e * 1) (1 * 2 ^ 53 * down e) d (2 ^ 53) (mul-pos (omega arith) (down_pos e)) (pow_pos 53)
    (ap (λ (x : ℕ). x * 2 ^ 53) v.1 ∙ mul_assoc d (down e) (2 ^ 53) ∙ ap (λ (x : ℕ). d * x) (mul_comm (down e) (2 ^ 53)))

pub share_exact : ShareClaim
share_exact d h = subst (λ (x : Float). HasValue x false d (2 ^ 53)) (sym (divided (counted d) d (counted_exact d h))) (over_exact d h)
