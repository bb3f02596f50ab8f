-- The mean of a single member: the distances to it are those to the member itself, bit for bit.
use Prim.Native.Nat.{◌%◌, ◌*◌, ◌+◌, ◌-◌, ◌/◌, ◌<◌, ◌^◌, ◌≤◌, suc, zero, ℕ}
use mathlib.Core.Path.{◌∙◌, ◌≡◌, ap, refl, sym}
use mathlib.Core.Logic.{by_cases, ⊎_elim}
use mathlib.Core.Bool.{Bool, ◌&&◌, cond, false, true}
use native.Mathlib.Omega.{arith}
use native.Mathlib.Nat.{eq-or-lt_of_le, mul-lt-mul_of_pos_right, mul-pos, mul_right_comm, pow-suc}
use native.Mathlib.Decide.{dec_lt}
use lib.Ieee.{Float, Format, add, binary64, div, down, emax, fin, fits, hid, inf, low, mul, nan, neg, of_bits, of_int, prec, round, size, sub, sum, to_bits, top, up}
use lib.Dec.{T, eqb, eqb→eq, leb, leb→le, ltb, ltb→lt}
use borrow.Author.Tests.{le-ltb, lt-ltb}
use lib.Ieee.Exact.{HasValue, round_exact}
use lib.Ieee.Nearest.{div_same}
use lib.Ieee.Fits.{and_l, and_r, down_pos, round-fits, up_pos}
use lib.Ieee.Scale.{round_same}
use lib.Ieee.Bits.{of_bits-to_bits}
use lib.IntN.{negsuc, pos, ℤ}
use lib.Pow.{pow-add, pow-lt, pow_pos}
use Rattle.lists.specs.Sums.{count_if, counted, fold_if, square_from, zero64, group_size, in_group, one64}
use Rattle.lists.proofs.Sums.{count_some, sum_same}
use Rattle.lists.proofs.Listed.{listed_same}
use Rattle.lloyd_mean.specs.Groups.{distances, mean}
use Rattle.distance_columns.specs.Pair.{squared}

-- the bits of a value from its sign and its size n, in units of the least double
bits_at : Format → Bool → ℕ → ℕ
bits_at f s n = cond s (top f) 0 + (size n - prec f) * hid f + n / 2 ^ (size n - prec f)

bits_of : (f : Format) (x : Float) (s : Bool) (a c : ℕ) → 0 < c → HasValue x s a c → to_bits f x ≡ bits_at f s (a * 2 ^ low f / c)
unfolding to_bits bits_at
bits_of f nan s a c p h = absurd h
bits_of f (inf t) s a c p h = absurd h
bits_of f (fin t m e) s a c p h =
    rw (h.0, div_same (m * up e * 2 ^ low f) (down e) (a * 2 ^ low f) c (down_pos e) p (mul_right_comm (m * up e) (2 ^ low f) c ∙ ap (λ x. x * 2 ^ low f) h.1 ∙ mul_right_comm a (down e) (2 ^ low f)))

-- a value that fits is known by its sign and its size
value_unique : (f : Format) (x y : Float) (s : Bool) (a c : ℕ) → 0 < c → T (fits f x) → T (fits f y) → HasValue x s a c → HasValue y s a c → x ≡ y
value_unique f x y s a c p u v g h =
    sym (of_bits-to_bits f x u) ∙ ap (of_bits f) (bits_of f x s a c p g ∙ sym (bits_of f y s a c p h)) ∙ of_bits-to_bits f y v

shifted : (n K L E : ℕ) → 0 < L → n * K < E * 1 → n * (K * L) < L * E
shifted n K L E p h = omega (arith, mul-lt-mul_of_pos_right h p)

shifted_down : (n J D E : ℕ) → 0 < J → n * 1 < E * D → n * J < J * D * E
shifted_down n J D E p h = omega (arith, mul-lt-mul_of_pos_right h p)

exponent_le : (a b : ℕ) → 2 ^ a ≤ 2 ^ b → a ≤ b
exponent_le a b h = by_cases (dec_lt b a) (λ l. absurd (omega (arith, pow-lt l))) (λ l. omega arith)

-- a value that fits, as a fraction, is not rounded
own_exact : (f : Format) (s : Bool) (m : ℕ) (e : ℤ) → m < 2 ^ prec f → down e ≤ 2 ^ low f → m * up e < 2 ^ suc (emax f) * down e → HasValue (round f s (m * up e) (down e)) s (m * up e) (down e)
own_exact f s m (pos k) a b c =
    round_exact f s (m * 2 ^ k) 1 m (k + low f) (omega arith) a
    (rw (pow-add 2 k (low f), pow-add 2 (low f) (suc (emax f))) (shifted m (2 ^ k) (2 ^ low f) (2 ^ suc (emax f)) (pow_pos (low f)) c))
    (rw (pow-add 2 k (low f)) (omega arith))
own_exact f s m (negsuc k) a b c =
    let j = low f - suc k in
    let e : j + suc k ≡ low f = omega (arith, exponent_le (suc k) (low f) b) in
    let p : 2 ^ low f ≡ 2 ^ j * 2 ^ suc k = ap (λ x. 2 ^ x) (sym e) ∙ pow-add 2 j (suc k) in
    round_exact f s (m * 1) (2 ^ suc k) m j (pow_pos (suc k)) a
    (rw (pow-add 2 (low f) (suc (emax f)), p) (shifted_down m (2 ^ j) (2 ^ suc k) (2 ^ suc (emax f)) (pow_pos j) c))
    (rw p (omega arith))

module _ (f : Format) (s : Bool) (m : ℕ) (e : ℤ) (t : T (fits f (fin s (suc m) e))) where
  parts : (suc m < 2 ^ prec f) × (down e ≤ 2 ^ low f) × (suc m * up e < 2 ^ suc (emax f) * down e)
  unfolding fits
  parts =
      let w = and_l (eqb (suc m % 2) 1 && ltb (suc m) (2 ^ prec f) && leb (down e) (2 ^ low f)) (ltb (suc m * up e) (2 ^ suc (emax f) * down e)) t in (
        ltb→lt (suc m) (2 ^ prec f) (and_r (eqb (suc m % 2) 1) (ltb (suc m) (2 ^ prec f)) (and_l (eqb (suc m % 2) 1 && ltb (suc m) (2 ^ prec f)) (leb (down e) (2 ^ low f)) w)),
        leb→le (down e) (2 ^ low f) (and_r (eqb (suc m % 2) 1 && ltb (suc m) (2 ^ prec f)) (leb (down e) (2 ^ low f)) w),
        ltb→lt (suc m * up e) (2 ^ suc (emax f) * down e)
            (and_r (eqb (suc m % 2) 1 && ltb (suc m) (2 ^ prec f) && leb (down e) (2 ^ low f)) (ltb (suc m * up e) (2 ^ suc (emax f) * down e)) t),
      )

  round_own : (num den : ℕ) → 0 < den → num * down e ≡ suc m * up e * den → round f s num den ≡ fin s (suc m) e
  round_own num den p h =
      round_same f s num den (suc m * up e) (down e) p (down_pos e) h
      ∙ value_unique f (round f s (suc m * up e) (down e)) (fin s (suc m) e) s (suc m * up e) (down e) (down_pos e)
      (round-fits f s (suc m * up e) (down e)) t (own_exact f s (suc m) e parts.0 parts.1 parts.2) (refl, refl)

-- so times 1, added to +0, and with a zero of either sign added, it is itself
mul_own : (s : Bool) (m : ℕ) (e : ℤ) → T (fits binary64 (fin s (suc m) e)) → mul binary64 (fin s (suc m) e) one64 ≡ fin s (suc m) e
unfolding mul
mul_own true m e t = round_own binary64 true m e t (suc m * up e * 1) (down e * 1) (omega (arith, down_pos e)) (omega arith)
mul_own false m e t = round_own binary64 false m e t (suc m * up e * 1) (down e * 1) (omega (arith, down_pos e)) (omega arith)

add_own : (s : Bool) (m : ℕ) (e : ℤ) → T (fits binary64 (fin s (suc m) e)) → add binary64 zero64 (fin s (suc m) e) ≡ fin s (suc m) e
unfolding add sum
add_own false m e t = round_own binary64 false m e t (0 * down e + suc m * up e * 1) (1 * down e) (omega (arith, down_pos e)) (omega arith)
add_own true m e t =
    rw (lt-ltb (0 * down e) (suc m * up e * 1) (omega (arith, mul-pos {m = suc m} {n = up e} (omega arith) (up_pos e))))
    (let z : suc m * up e * 1 - 0 * down e ≡ suc m * up e = omega arith in round_own binary64 true m e t (suc m * up e * 1 - 0 * down e) (1 * down e) (omega (arith, down_pos e)) (rw z (omega arith)))

zero_own : (s u : Bool) (m : ℕ) (e : ℤ) → T (fits binary64 (fin s (suc m) e)) → add binary64 (fin s (suc m) e) (fin u 0 (pos 0)) ≡ fin s (suc m) e
unfolding add sum
zero_own false false m e t = round_own binary64 false m e t (suc m * up e * 1 + 0 * down e) (down e * 1) (omega (arith, down_pos e)) (omega arith)
zero_own true true m e t = round_own binary64 true m e t (suc m * up e * 1 + 0 * down e) (down e * 1) (omega (arith, down_pos e)) (omega arith)
zero_own false true m e t =
    rw (le-ltb (suc m * up e * 1) (0 * down e) (omega arith))
    (let z : suc m * up e * 1 - 0 * down e ≡ suc m * up e = omega arith in round_own binary64 false m e t (suc m * up e * 1 - 0 * down e) (down e * 1) (omega (arith, down_pos e)) (rw z (omega arith)))
zero_own true false m e t =
    rw (le-ltb (suc m * up e * 1) (0 * down e) (omega arith), lt-ltb (0 * down e) (suc m * up e * 1) (omega (arith, mul-pos {m = suc m} {n = up e} (omega arith) (up_pos e))))
    (let z : suc m * up e * 1 - 0 * down e ≡ suc m * up e = omega arith in round_own binary64 true m e t (suc m * up e * 1 - 0 * down e) (down e * 1) (omega (arith, down_pos e)) (rw z (omega arith)))

-- a power of 2 above the first is not 1
one_power : (k : ℕ) → 2 ^ suc k ≡ 1 → ⊥
one_power k h = omega (arith, pow-suc 2 k, pow_pos k)

zero_square : (s : Bool) → square_from (fin false 0 (pos 0)) (fin s 0 (pos 0)) ≡ square_from (fin true 0 (pos 0)) (fin s 0 (pos 0))
unfolding sub add neg mul
zero_square true = refl
zero_square false = refl

-- the sign of a zero that is taken away does not show in the square
zero_sign : (p : Float) → T (fits binary64 p) → square_from (fin false 0 (pos 0)) p ≡ square_from (fin true 0 (pos 0)) p
unfolding sub neg fits
zero_sign nan t = refl
zero_sign (inf true) t = refl
zero_sign (inf false) t = refl
zero_sign (fin true zero (pos zero)) t = zero_square true
zero_sign (fin false zero (pos zero)) t = zero_square false
zero_sign (fin s zero (pos (suc k))) t = absurd (one_power k (omega (arith, eqb→eq (2 ^ suc k * 1) 1 t)))
zero_sign (fin s zero (negsuc k)) t = absurd (one_power k (omega (arith, eqb→eq (1 * 2 ^ suc k) 1 t)))
zero_sign (fin s (suc m) e) t = rw (zero_own s true m e t, zero_own s false m e t)

-- (p - (0 + v) * 1)² is (p - v)²
single : (p v : Float) → T (fits binary64 p) → T (fits binary64 v) → square_from (mul binary64 (add binary64 zero64 v) one64) p ≡ square_from v p
unfolding add mul fits
single p nan q t = refl
single p (inf true) q t = refl
single p (inf false) q t = refl
single p (fin false zero (pos zero)) q t = refl
single p (fin true zero (pos zero)) q t = zero_sign p q
single p (fin s zero (pos (suc k))) q t = absurd (one_power k (omega (arith, eqb→eq (2 ^ suc k * 1) 1 t)))
single p (fin s zero (negsuc k)) q t = absurd (one_power k (omega (arith, eqb→eq (1 * 2 ^ suc k) 1 t)))
single p (fin s (suc m) e) q t = ap (λ y. square_from y p) (ap (λ y. mul binary64 y one64) (add_own s m e t) ∙ mul_own s m e t)

-- a fold over no place, and over one
none_step : {A : Type 0} (b : Bool) (c : ℕ) (x y r : A) → cond b (c + 1) c ≡ 0 → (c ≡ 0 → x ≡ r) → cond b y x ≡ r
none_step true c x y r h k = absurd (omega arith)
none_step false c x y r h k = k h

none_folded : {A : Type 0} (p : ℕ → Bool) (g : A → ℕ → A) (a : A) (n : ℕ) → count_if p n ≡ 0 → fold_if p g a n ≡ a
unfolding fold_if
none_folded p g a zero h = refl
none_folded p g a (suc n) h = none_step (p n) (count_if p n) (fold_if p g a n) (g (fold_if p g a n) n) a h (none_folded p g a n)

one_step : {A : Type 0} (b : Bool) (c : ℕ) (x y r : A) → 1 ≤ c → cond b (c + 1) c ≡ 1 → (c ≡ 1 → x ≡ r) → cond b y x ≡ r
one_step true c x y r l h k = absurd (omega arith)
one_step false c x y r l h k = k h

fold_one : {A : Type 0} (p : ℕ → Bool) (g : A → ℕ → A) (a : A) (n j : ℕ) → count_if p n ≡ 1 → j < n → p j ≡ true → fold_if p g a n ≡ g a j
unfolding fold_if
fold_one p g a zero j h l t = absurd (omega arith)
fold_one p g a (suc n) j h l t =
    ⊎_elim
    (λ q.
    let u : p n ≡ true = rw q at t in
    let k : count_if p n + 1 ≡ 1 = rw u at h in
    rw (u, q, none_folded p g a n (omega arith)))
    (λ q. one_step (p n) (count_if p n) (fold_if p g a n) (g (fold_if p g a n) n) (g a j) (count_some p n j q t) h (λ k. fold_one p g a n j k q t))
    (eq-or-lt_of_le {n = j} {m = n} (omega arith))

inverse_one : div binary64 one64 (counted 1) ≡ one64
unfolding div of_int
inverse_one = refl

single_cell : (x : ℕ → ℕ → Float) (label : ℕ → ℕ) (m l j c : ℕ) (p : Float) → group_size label m l ≡ 1 → j < m → in_group label l j ≡ true → T (fits binary64 p) → T (fits binary64 (x j c)) → square_from (mean x label m l c) p ≡ square_from (x j c) p
single_cell x label m l j c p n h t g f =
    rw (n, inverse_one, fold_one (in_group label l) (λ s k. add binary64 s (x k c)) zero64 m j n h t) (single p (x j c) g f)

-- of a group with one member j, the distances to the mean are those to j
pub single_mean : (x : ℕ → ℕ → Float) (label : ℕ → ℕ) (m l j : ℕ) → group_size label m l ≡ 1 → j < m → in_group label l j ≡ true → ((i c : ℕ) → i < m → c < m → T (fits binary64 (x i c)))
    → distances x m (mean x label m l) ≡ distances x m (x j)
single_mean x label m l j n h t f =
    listed_same nan (λ i. squared (x i) (mean x label m l) m) (λ i. squared (x i) (x j) m) m
    (λ i q.
    sum_same (λ c. square_from (mean x label m l c) (x i c)) (λ c. square_from (x j c) (x i c)) m
    (λ c b. single_cell x label m l j c (x i c) n h t (f i c q b) (f j c h b)))
