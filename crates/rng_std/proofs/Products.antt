-- Products: of two words, and of a state and a constant by the halves of both.
use Rattle.std.proofs.Common.{◌≡◌, ℕ, ◌+◌, ◌*◌, ◌/◌, ◌%◌, ◌^◌, ◌<◌, sym, ap, ◌∙◌, lt_of_le_of_lt, le_of_lt, mul_assoc, mul_comm, add-mul, mul-le-mul_left, mul-lt-mul_of_pos_right, div-add-mod', arith, pow_pos, pow-add}
use mathlib.Core.Path.{subst⁻¹}
use native.Mathlib.Nat.{mul-add-mod_self_right, add-mod-mod, mod-add-mod, add-mul-mod_self_right}
use Rattle.rng_std.specs.Seeds.{advanced}

-- a product of two numbers of k bits has at most k + k
pub product_below : (k : ℕ) {a b : ℕ} → a < 2 ^ k → b < 2 ^ k → a * b < 2 ^ (k + k)
product_below k {a} {b} ha hb =
    subst⁻¹ (λ (n : ℕ). a * b < n) (pow-add 2 k k)
    (lt_of_le_of_lt (mul-le-mul_left a (le_of_lt hb)) (mul-lt-mul_of_pos_right ha (pow_pos k)))

-- what is dropped before a product is dropped behind it too
regrouped : (q m r k : ℕ) → (q * m + r) * k ≡ q * k * m + r * k
regrouped q m r k = add-mul (q * m) r k ∙ ap (λ x. x + r * k) (mul_assoc q m k ∙ ap (λ x. q * x) (mul_comm m k) ∙ sym (mul_assoc q k m))

pub dropped : (u k m : ℕ) → (u % m * k) % m ≡ (u * k) % m
dropped u k m =
    sym (mul-add-mod_self_right (u / m * k) m (u % m * k)) ∙ ap (λ x. x % m) (sym (regrouped (u / m) m (u % m) k))
    ∙ ap (λ x. x * k % m) (div-add-mod' u m)

-- a step of the state, by the halves of the state and of the constant
pub advance_law : (s : ℕ)
    → ((s % 2 ^ 32 * 0x4c957f2d + ((s / 2 ^ 32 * 0x4c957f2d + s % 2 ^ 32 * 0x5851f42d) % 2 ^ 64 * 2 ^ 32) % 2 ^ 64) % 2 ^ 64 + 0xa17654e46fbe17f3) % 2 ^ 64 ≡ advanced s
unfolding advanced
advance_law s =
    let u : ℕ = s / 2 ^ 32 * 0x4c957f2d + s % 2 ^ 32 * 0x5851f42d in
    let l : ℕ = s % 2 ^ 32 * 0x4c957f2d in
    let e : s * 0x5851f42d4c957f2d + 0xa17654e46fbe17f3 ≡ l + u * 2 ^ 32 + 0xa17654e46fbe17f3 + s / 2 ^ 32 * 0x5851f42d * 2 ^ 64 = omega arith in
    ap (λ x. ((l + x) % 2 ^ 64 + 0xa17654e46fbe17f3) % 2 ^ 64) (dropped u (2 ^ 32) (2 ^ 64))
    ∙ ap (λ x. (x + 0xa17654e46fbe17f3) % 2 ^ 64) (add-mod-mod l (u * 2 ^ 32) (2 ^ 64))
    ∙ mod-add-mod (l + u * 2 ^ 32) (2 ^ 64) 0xa17654e46fbe17f3
    ∙ sym (ap (λ x. x % 2 ^ 64) e ∙ add-mul-mod_self_right (l + u * 2 ^ 32 + 0xa17654e46fbe17f3) (s / 2 ^ 32 * 0x5851f42d) (2 ^ 64))

-- an upper half, and one with a carry
pub half_below : (p : ℕ) → p < 2 ^ 64 → p / 2 ^ 32 < 2 ^ 32
half_below p h = omega arith

bounded : (x y : ℕ) → x < 2 ^ 32 → y < 2 ^ 32 → x + y < 2 ^ 64
bounded x y hx hy = omega arith

pub carried : (p q r : ℕ) → p / 2 ^ 32 < 2 ^ 32 → q / 2 ^ 32 < 2 ^ 32 → r ≡ (p % 2 ^ 32 + q / 2 ^ 32) / 2 ^ 32 → p / 2 ^ 32 + r < 2 ^ 64
carried p q r h k e = bounded (p / 2 ^ 32) r h (rw e (half_below (p % 2 ^ 32 + q / 2 ^ 32) (omega arith)))
