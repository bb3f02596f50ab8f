-- A fraction that is at most b / d rounds to a double of at most b / d, where b / d is itself a double: rounding keeps the order.
use Prim.Native.Nat.{ℕ, zero, suc, ◌+◌, ◌-◌, ◌*◌, ◌%◌, ◌^◌, ◌≤◌, ◌<◌}
use mathlib.Core.Path.{◌≡◌, refl, sym, ap, ◌∙◌, subst}
use mathlib.Core.Bool.{Bool, true, false, ◌&&◌, ◌||◌, cond, true≢false}
use native.Mathlib.Nat.{mul-one, zero-mul, mul_assoc, le_of_lt, le_of_eq}
use native.Mathlib.Omega.{arith}
use lib.Dec.{T, ltb, leb, eqb, ltb→lt, leb→le, eqb→eq}
use lib.IntN.{ℤ, pos, negsuc}
use lib.Pow.{pow_pos, pow-add, shl_lt}
use lib.Ieee.{Float, nan, inf, fin, binary64, up, down, round, units, odd, le, fits}
use lib.Ieee.Digits.{back}
use lib.Ieee.Fits.{down_pos, round_is}
use lib.Ieee.Exact.{HasValue, units_val, round_exact}
use lib.Ieee.Order.{transfer, round_mono, drop, kept}
use lib.Ieee.Scale.{overflow, round_val}
use Rattle.lists.proofs.Counted.{in_range, whole_exact}
use Rattle.sqrt.proofs.Near.{pow_le_back}
use Rattle.certain_ranges.specs.Ranges.{Sized}

-- ---- the order of two values, as one of fractions
or-le : (a b : ℕ) (c : Bool) → T (ltb a b || (eqb a b && c)) → a ≤ b
or-le a b c t = go (ltb a b) (eqb a b) (ltb→lt a b) (eqb→eq a b) t
  where
    go : (x y : Bool) → (T x → a < b) → (T y → a ≡ b) → T (x || (y && c)) → a ≤ b
    go true y f g t = le_of_lt (f tt)
    go false true f g t = le_of_eq (g tt)
    go false false f g t = absurd t

le_values : (x y : Float) (a c b d : ℕ) → HasValue x false a c → HasValue y false b d → T (le x y) → a * d ≤ b * c
unfolding le
le_values nan y a c b d v w t = absurd v
le_values (inf s) y a c b d v w t = absurd v
le_values (fin true m e) y a c b d v w t = absurd (true≢false v.0)
le_values (fin false m e) nan a c b d v w t = absurd w
le_values (fin false m e) (inf s) a c b d v w t = absurd w
le_values (fin false m e) (fin true n k) a c b d v w t = absurd (true≢false w.0)
le_values (fin false m e) (fin false n k) a c b d v w t =
    transfer a b c d (m * up e) (n * up k) (down e) (down k) (down_pos e) (down_pos k) (sym v.1) (sym w.1) (or-le (m * up e * down k) (n * up k * down e) true t)

inf_not_le : (y : Float) (b d : ℕ) → HasValue y false b d → T (le (inf false) y) → ⊥
unfolding le
inf_not_le nan b d w t = t
inf_not_le (inf s) b d w t = w
inf_not_le (fin s m e) b d w t = t

units_under : (q j : ℕ) (y : Float) (b d : ℕ) → HasValue y false b d → T (le (units binary64 false q j) y) → q * 2 ^ j < overflow binary64
unfolding units
units_under q j y b d w = go (ltb (q * 2 ^ j) (overflow binary64)) (ltb→lt (q * 2 ^ j) (overflow binary64))
  where
    go : (x : Bool) → (T x → q * 2 ^ j < overflow binary64) → T (le (cond x (odd 54 false q j 1074) (inf false)) y) → q * 2 ^ j < overflow binary64
    go true h t = h tt
    go false h t = absurd (inf_not_le y b d w t)

-- from a value to a bound: G / L is the value, and at most b / d
sized : (x : Float) (s : Bool) (G L b d : ℕ) → 0 < L → 0 < d → HasValue x s G L → G * d ≤ b * L → Sized s b d x
sized nan s G L b d P D v h = v
sized (inf t) s G L b d P D v h = v
sized (fin t m e) s G L b d P D v h = (v.0, transfer (m * up e) b (down e) d G b L d P D v.1 refl h)

-- ---- the law: b / d is a double, and a / c is at most b / d
pub round_le : (s : Bool) (a c b d : ℕ) → 0 < c → 0 < d → HasValue (round binary64 false b d) false b d → a * d ≤ b * c → Sized s b d (round binary64 s a c)
round_le s a c b d C D v h =
    let q = kept 53 (a * 2 ^ 1074) c in
    let j = drop 53 (a * 2 ^ 1074) c in
    let t : T (le (round binary64 false a c) (round binary64 false b d)) = round_mono binary64 a c b d C D h in
    let u : q * 2 ^ j < overflow binary64 = units_under q j (round binary64 false b d) b d v (subst (λ (z : Float). T (le z (round binary64 false b d))) (round_is binary64 false a c) t) in
    sized (round binary64 s a c) s (q * 2 ^ j) (2 ^ 1074) b d (pow_pos 1074) D
    (subst (λ (z : Float). HasValue z s (q * 2 ^ j) (2 ^ 1074)) (sym (round_is binary64 s a c)) (units_val binary64 s q j u))
    (le_values (round binary64 false a c) (round binary64 false b d) (q * 2 ^ j) (2 ^ 1074) b d (round_val binary64 a c u) v t)

-- ---- a fraction that is a double: the value of one (a whole number below 2 ^ 53: whole_exact)
parts : (m : ℕ) (e : ℤ) → T (fits binary64 (fin false (suc m) e)) → (suc m < 2 ^ 53) × (down e ≤ 2 ^ 1074) × (suc m * up e < 2 ^ 1024 * down e)
unfolding fits
parts m e h = go (eqb (suc m % 2) 1) (ltb (suc m) (2 ^ 53)) (leb (down e) (2 ^ 1074)) (ltb (suc m * up e) (2 ^ 1024 * down e)) (ltb→lt (suc m) (2 ^ 53)) (leb→le (down e) (2 ^ 1074)) (ltb→lt (suc m * up e) (2 ^ 1024 * down e)) h
  where
    go : (A B C D : Bool) → (T B → suc m < 2 ^ 53) → (T C → down e ≤ 2 ^ 1074) → (T D → suc m * up e < 2 ^ 1024 * down e) → T (A && B && C && D)
        → (suc m < 2 ^ 53) × (down e ≤ 2 ^ 1074) × (suc m * up e < 2 ^ 1024 * down e)
    go true true true true f g k t = (f tt, g tt, k tt)
    go true true true false f g k t = absurd t
    go true true false D f g k t = absurd t
    go true false C D f g k t = absurd t
    go false B C D f g k t = absurd t

scaled_up : (m a : ℕ) → suc m * 2 ^ a * 2 ^ 1074 ≡ suc m * 2 ^ (a + 1074) * 1
scaled_up m a = mul_assoc (suc m) (2 ^ a) (2 ^ 1074) ∙ ap (λ (z : ℕ). suc m * z) (sym (pow-add 2 a 1074)) ∙ sym (mul-one (suc m * 2 ^ (a + 1074)))

scaled_down : (m a : ℕ) → suc a ≤ 1074 → suc m * 1 * 2 ^ 1074 ≡ suc m * 2 ^ (1074 - suc a) * 2 ^ suc a
scaled_down m a l =
    ap (λ (z : ℕ). z * 2 ^ 1074) (mul-one (suc m))
    ∙ ap (λ (z : ℕ). suc m * z) (ap (λ (z : ℕ). 2 ^ z) (sym (back 1074 (suc a) l)) ∙ pow-add 2 (1074 - suc a) (suc a))
    ∙ sym (mul_assoc (suc m) (2 ^ (1074 - suc a)) (2 ^ suc a))

pub double_exact : (m : ℕ) (e : ℤ) → T (fits binary64 (fin false m e)) → HasValue (round binary64 false (m * up e) (down e)) false (m * up e) (down e)
double_exact zero e h = round_exact binary64 false (0 * up e) (down e) 0 0 (down_pos e) (pow_pos 53) (pow_pos 2098) (none (up e) (down e))
  where
    none : (u d : ℕ) → 0 * u * 2 ^ 1074 ≡ 0 * 2 ^ 0 * d
    none u d = ap (λ (z : ℕ). z * 2 ^ 1074) (zero-mul u) ∙ zero-mul (2 ^ 1074) ∙ sym (zero-mul d)
double_exact (suc m) (pos a) h =
    let p = parts m (pos a) h in
    round_exact binary64 false (suc m * 2 ^ a) 1 (suc m) (a + 1074) (omega arith) p.0
    (subst (λ (z : ℕ). z < 2 ^ 2098) (mul_assoc (suc m) (2 ^ a) (2 ^ 1074) ∙ ap (λ (z : ℕ). suc m * z) (sym (pow-add 2 a 1074)))
    (shl_lt 1024 1074 (subst (λ (z : ℕ). suc m * 2 ^ a < z) (mul-one (2 ^ 1024)) p.2)))
    (scaled_up m a)
double_exact (suc m) (negsuc a) h =
    let p = parts m (negsuc a) h in
    let l : suc a ≤ 1074 = pow_le_back (suc a) 1074 p.1 in
    round_exact binary64 false (suc m * 1) (2 ^ suc a) (suc m) (1074 - suc a) (pow_pos (suc a)) p.0 (in_range (suc m) (1074 - suc a) p.0 (omega arith)) (scaled_down m a l)

-- ---- so a fraction of at most k rounds to a double of at most k
pub round_whole : (s : Bool) (a c k : ℕ) → 0 < c → k < 2 ^ 53 → a ≤ k * c → Sized s k 1 (round binary64 s a c)
round_whole s a c k C K h = round_le s a c k 1 C (omega arith) (whole_exact k K) (subst (λ (z : ℕ). z ≤ k * c) (sym (mul-one a)) h)
