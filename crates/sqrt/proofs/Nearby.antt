-- The whole number nearest √n (`Rounded n p`): there is at most one, the whole part of √(4 * n) gives it, and the size of n + p - p * p tells whether it is p, a neighbour of p, or
-- neither. Assumes nothing.
use Rattle.std.proofs.Common.{◌≡◌, ℕ, ◌+◌, ◌-◌, ◌*◌, ◌/◌, ◌%◌, ◌^◌, ◌<◌, ◌≤◌, Bool, true, false, not, T, ltb, leb, ap, ◌∙◌, subst, ⊎_elim, mul-le-mul_right, mul-le-mul, le_antisymm, lt_of_not-le, arith, ltb→lt, leb→le, nltb→le}
use lib.Dec.{nleb→lt}
use mir.Val.{bool_byte}
use Rattle.sqrt.specs.Root.{Rounded, Settled}
use Rattle.sqrt.proofs.Whole.{Floor, le-or-lt, sq_le}

-- ---- a square, from that of the number below it
next_square : (p d : ℕ) → p ≡ d + 1 → p * p ≡ d * d + 2 * d + 1
next_square p d e = ap (λ (x : ℕ). x * x) e ∙ omega arith

-- ---- there is at most one
rounded_le : (n p q : ℕ) → Rounded n p → Rounded n q → p ≤ q
rounded_le n p q r s =
    ⊎_elim (λ (h : p ≤ q). h)
    (λ (h : q < p). let e = next_square p (p - 1) (omega arith) in let k : q * q ≤ (p - 1) * (p - 1) = sq_le q (p - 1) (omega arith) in omega arith)
    (le-or-lt p q)

pub rounded_unique : (n p q : ℕ) → Rounded n p → Rounded n q → p ≡ q
rounded_unique n p q r s = le_antisymm (rounded_le n p q r s) (rounded_le n q p s r)

-- ---- 53 digits are enough
pub rounded_hi : (m p : ℕ) → m ≤ 2 ^ 54 - 2 → Rounded (m * 2 ^ 52) p → p < 2 ^ 53
rounded_hi m p h r = lt_of_not-le (λ (g : 2 ^ 53 ≤ p). let k : 2 ^ 53 * p ≤ p * p = mul-le-mul_right p g in omega arith)

-- ---- from the whole part of √(4 * n), and back
pub of_floor : (n Q : ℕ) → 0 < n → Floor (n * 4) Q → Rounded n ((Q + 1) / 2)
of_floor n Q N f = ⊎_elim even odd (le-or-lt (Q % 2) 0)
  where
    some : 0 < Q
    some = lt_of_not-le (λ (g : Q ≤ 0). let k : Q * Q ≤ 0 * Q = mul-le-mul_right Q g in omega arith)

    even : Q % 2 ≤ 0 → Rounded n ((Q + 1) / 2)
    even h =
        let p = (Q + 1) / 2 in
        let z : Q ≡ 2 * p = omega arith in
        let e : Q * Q ≡ 4 * (p * p) = ap (λ (x : ℕ). x * x) z ∙ omega arith in
        omega (arith, some)

    odd : 0 < Q % 2 → Rounded n ((Q + 1) / 2)
    odd h =
        let p = (Q + 1) / 2 in
        let e = next_square (Q + 1) Q (omega arith) in
        let z : Q + 1 ≡ 2 * p = omega arith in
        let k : (Q + 1) * (Q + 1) ≡ 4 * (p * p) = ap (λ (x : ℕ). x * x) z ∙ omega arith in
        omega arith

-- the whole part of √(4 * n), where the nearest whole number is at most √n, and where it is above
pub floor_low : (n p : ℕ) → Rounded n p → p * p ≤ n → Floor (n * 4) (2 * p)
floor_low n p r h = omega arith

pub floor_high : (n p : ℕ) → Rounded n p → n < p * p → Floor (n * 4) (2 * p - 1)
floor_high n p r h =
    let z : 2 * p - 1 + 1 ≡ 2 * p = omega arith in
    let k : (2 * p - 1 + 1) * (2 * p - 1 + 1) ≡ 4 * (p * p) = ap (λ (x : ℕ). x * x) z ∙ omega arith in
    let e = next_square (2 * p - 1 + 1) (2 * p - 1) (omega arith) in
    omega arith

-- ---- the square of p from its digits above and below the 26th
abbrev pub Parts : ℕ → Type 0
Parts p = (p * p ≡ p / 2 ^ 26 * (p / 2 ^ 26) * 2 ^ 52 + 2 * (p / 2 ^ 26) * (p % 2 ^ 26) * 2 ^ 26 + p % 2 ^ 26 * (p % 2 ^ 26))
    × (p / 2 ^ 26 * (p / 2 ^ 26) ≤ 2 ^ 54) × (p / 2 ^ 26 * (p % 2 ^ 26) ≤ p / 2 ^ 26 * 2 ^ 26) × (p % 2 ^ 26 * (p % 2 ^ 26) ≤ 2 ^ 52)

pub parts : (p : ℕ) → p ≤ 2 ^ 53 → Parts p
parts p b =
    let e : p ≡ p / 2 ^ 26 * 2 ^ 26 + p % 2 ^ 26 = omega arith in
    let h : p / 2 ^ 26 ≤ 2 ^ 27 = omega arith in
    let k : p / 2 ^ 26 ≤ p / 2 ^ 26 = omega arith in
    let l : p % 2 ^ 26 ≤ 2 ^ 26 = omega arith in
    (ap (λ (x : ℕ). x * x) e ∙ omega arith, mul-le-mul h h, mul-le-mul k l, mul-le-mul l l)

-- ---- differences that wrap at 2 ^ 64, a = m + 8 - h * h and c = a * 2 ^ 26 - 2 * h * l
exact_small : (r b a : ℕ) → (r + b) % 2 ^ 64 ≡ a → r ≤ 2 ^ 32 → b ≤ 2 ^ 56 → r + b ≡ a
exact_small r b a e s t = omega arith

exact_below : (r b a : ℕ) → (r + b) % 2 ^ 64 ≡ a → r < 2 ^ 64 → b ≤ a → r + b ≡ a
exact_below r b a e s t = omega arith

module _ (m p a : ℕ) (P : Parts p) (p-hi : p ≤ 2 ^ 53) (A : (a + p / 2 ^ 26 * (p / 2 ^ 26)) % 2 ^ 64 ≡ m + 8) where
  abbrev Reach : Type 0
  Reach = (p * p ≤ m * 2 ^ 52 + 8 * 2 ^ 52) × (m * 2 ^ 52 ≤ p * p + 8 * 2 ^ 52)

  pub a_small : a < 2 ^ 64 → Reach → a ≤ 2 ^ 30
  a_small s w =
      let e : a + p / 2 ^ 26 * (p / 2 ^ 26) ≡ m + 8 = exact_below a (p / 2 ^ 26 * (p / 2 ^ 26)) (m + 8) A s (omega arith) in
      omega arith

  module _ (c : ℕ) (a-le : a ≤ 2 ^ 30) (C : (c + 2 * (p / 2 ^ 26) * (p % 2 ^ 26)) % 2 ^ 64 ≡ a * 2 ^ 26) where
    a_is : a + p / 2 ^ 26 * (p / 2 ^ 26) ≡ m + 8
    a_is = exact_small a (p / 2 ^ 26 * (p / 2 ^ 26)) (m + 8) A (omega arith) (omega arith)

    pub c_small : c < 2 ^ 64 → Reach → c ≤ 2 ^ 32
    c_small s w =
        let f : a + p / 2 ^ 26 * (p / 2 ^ 26) ≡ m + 8 = a_is in
        let e : c + 2 * (p / 2 ^ 26) * (p % 2 ^ 26) ≡ a * 2 ^ 26 = exact_below c (2 * (p / 2 ^ 26) * (p % 2 ^ 26)) (a * 2 ^ 26) C s (omega arith) in
        omega arith

    pub offset_is : c ≤ 2 ^ 32 → c * 2 ^ 26 + (2 ^ 52 - p % 2 ^ 26 * (p % 2 ^ 26)) + p + p * p ≡ m * 2 ^ 52 + p + 9 * 2 ^ 52
    offset_is s =
        let f : a + p / 2 ^ 26 * (p / 2 ^ 26) ≡ m + 8 = a_is in
        let e : c + 2 * (p / 2 ^ 26) * (p % 2 ^ 26) ≡ a * 2 ^ 26 = exact_small c (2 * (p / 2 ^ 26) * (p % 2 ^ 26)) (a * 2 ^ 26) C s (omega arith) in
        omega arith

-- ---- p and its neighbours, where t is n + p - p * p + 9 * 2 ^ 52
abbrev pub Offset : (n p t : ℕ) → Type 0
Offset n p t = t + p * p ≡ n + p + 9 * 2 ^ 52

found : (n p r : ℕ) → Rounded n r → Settled n p r
found n p r h = (λ z. h, λ q s a b. rounded_unique n r q h s)

same : (n p t : ℕ) → Offset n p t → 9 * 2 ^ 52 < t → t ≤ 9 * 2 ^ 52 + 2 * p → Settled n p p
same n p t o a b = found n p p (omega arith)

next : (n p t : ℕ) → Offset n p t → 9 * 2 ^ 52 + 2 * p < t → t ≤ 9 * 2 ^ 52 + 2 + 4 * p → Settled n p (p + 1)
next n p t o a b = found n p (p + 1) (omega arith)

last : (n p t : ℕ) → 0 < p → Offset n p t → 9 * 2 ^ 52 + 2 < t + 2 * p → t ≤ 9 * 2 ^ 52 → Settled n p (p - 1)
last n p t z o a b = let e = next_square p (p - 1) (omega arith) in found n p (p - 1) (omega arith)

pub byte_le : (b : Bool) → bool_byte b ≤ 1
byte_le true = omega arith
byte_le false = omega arith

pub is_beside : (n p t : ℕ) → 0 < p → Offset n p t → 9 * 2 ^ 52 + 2 < t + 2 * p → t ≤ 9 * 2 ^ 52 + 2 + 4 * p
    → Settled n p (p + bool_byte (ltb (9 * 2 ^ 52 + 2 * p) t) - bool_byte (leb t (9 * 2 ^ 52)))
is_beside n p t z o a b =
    go (ltb (9 * 2 ^ 52 + 2 * p) t) (leb t (9 * 2 ^ 52)) (ltb→lt (9 * 2 ^ 52 + 2 * p) t) (nltb→le (9 * 2 ^ 52 + 2 * p) t) (leb→le t (9 * 2 ^ 52)) (nleb→lt t (9 * 2 ^ 52))
  where
    go : (u d : Bool) → (T u → 9 * 2 ^ 52 + 2 * p < t) → (T (not u) → t ≤ 9 * 2 ^ 52 + 2 * p) → (T d → t ≤ 9 * 2 ^ 52) → (T (not d) → 9 * 2 ^ 52 < t) → Settled n p (p + bool_byte u - bool_byte d)
    go true true f g h k = let x : 9 * 2 ^ 52 + 2 * p < t = f tt in let y : t ≤ 9 * 2 ^ 52 = h tt in absurd (omega arith)
    go true false f g h k = let e : p + 1 ≡ p + 1 - 0 = omega arith in subst (Settled n p) e (next n p t o (f tt) b)
    go false true f g h k = let e : p - 1 ≡ p + 0 - 1 = omega arith in subst (Settled n p) e (last n p t z o a (h tt))
    go false false f g h k = let e : p ≡ p + 0 - 0 = omega arith in subst (Settled n p) e (same n p t o (k tt) (g tt))

module _ (n p q : ℕ) (r : Rounded n q) (below : p ≤ q + 1) (above : q ≤ p + 1) where
  cases : {A : Type 0} → (q * q ≡ p * p → q ≡ p → A) → (q * q ≡ p * p + 2 * p + 1 → q ≡ p + 1 → A) → (p * p ≡ q * q + 2 * q + 1 → p ≡ q + 1 → A) → A
  cases at_p above-p below-p =
      ⊎_elim
      (λ (h : p ≤ q).
      ⊎_elim (λ (g : q ≤ p). let e : q ≡ p = omega arith in at_p (ap (λ (x : ℕ). x * x) e) e)
      (λ (g : p < q). let e : q ≡ p + 1 = omega arith in above-p (next_square q p e) e)
      (le-or-lt q p))
      (λ (h : q < p). let e : p ≡ q + 1 = omega arith in below-p (next_square p q e) e)
      (le-or-lt p q)

  in_reach : p ≤ 2 ^ 53 → (p * p ≤ n + 8 * 2 ^ 52) × (n ≤ p * p + 8 * 2 ^ 52)
  in_reach h = cases (λ s e. omega arith) (λ s e. omega arith) (λ s e. omega arith)

  in_range : (t : ℕ) → 0 < p → Offset n p t → (9 * 2 ^ 52 + 2 < t + 2 * p) × (t ≤ 9 * 2 ^ 52 + 2 + 4 * p)
  in_range t z o = cases (λ s e. omega arith) (λ s e. omega arith) (λ s e. omega arith)

pub is_none : (n p t : ℕ) → 0 < p → p ≤ 2 ^ 53 → (0 < t → Offset n p t) → (p * p ≤ n + 8 * 2 ^ 52 → n ≤ p * p + 8 * 2 ^ 52 → 0 < t)
    → ((9 * 2 ^ 52 + 2 < t + 2 * p) × (t ≤ 9 * 2 ^ 52 + 2 + 4 * p) → ⊥) → Settled n p 0
is_none n p t z h off some out =
    (λ y. absurd (let k : 0 < 0 = y in omega arith), λ q r a b. let w = in_reach n p q r a b h in absurd (out (in_range n p q r a b t z (off (some w.0 w.1)))))
