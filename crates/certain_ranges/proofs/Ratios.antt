-- The difference of two doubles from +0 up, over the larger, is within -1..1; and what `Bounded 1` says in the order of doubles.
use Prim.Native.Nat.{ℕ, zero, suc, ◌+◌, ◌-◌, ◌*◌, ◌≤◌, ◌<◌, zero-le}
use mathlib.Core.Path.{◌≡◌, refl, sym, ap, ◌∙◌}
use mathlib.Core.Logic.{⊎_elim}
use mathlib.Core.Bool.{Bool, true, false, ◌&&◌, ◌||◌, cond, true≢false}
use native.Mathlib.Nat.{mul-one, one-mul, zero-mul, mul_assoc, mul_comm, le_trans, le_of_eq, lt_of_le_of_lt, mul-pos, mul-le-mul_right, sub-le, zero-lt-suc, eq-or-lt_of_le}
use native.Mathlib.Omega.{arith}
use borrow.Author.Tests.{ltb-true, ltb-false, lt-ltb, le-ltb, eq-eqb}
use lib.Dec.{T, ltb, eqb}
use lib.IntN.{ℤ, pos}
use lib.Ieee.{Float, nan, inf, fin, binary64, up, down, unlike, round, sum, add, neg, sub, div, lt, eq, le, fits}
use lib.Ieee.Fits.{down_pos, up_pos}
use lib.Ieee.Positive.{first_pos}
use Rattle.lists.specs.Sums.{zero64, one64}
use Rattle.certain_ranges.specs.Ranges.{Sized, Bounded, UpTo}
use Rattle.certain_ranges.proofs.Rounding.{round_le, double_exact}
use Rattle.certain_ranges.proofs.Operations.{quotient, sized_bounded}

-- x of at most the size of y, over y
over_larger : (s : Bool) (x : Float) (n : ℕ) (d : ℤ) → 0 < n → Sized s (n * up d) (down d) x → Bounded 1 (div binary64 x (fin false n d))
over_larger s nan n d N h = absurd h
over_larger s (inf t) n d N h = absurd h
over_larger s (fin t m e) n d N h =
    sized_bounded (unlike t false) 1 (div binary64 (fin t m e) (fin false n d))
    (quotient t false m n e d 1 N (omega arith) (le_trans h.1 (le_of_eq (sym (one-mul (n * up d * down e))))))

-- the difference of two fractions is at most the larger
minus_le : (b a n d e c : ℕ) → b ≡ n * e → c ≡ d * e → (b - a) * d ≤ n * c
minus_le b a n d e c p q =
    le_trans (mul-le-mul_right d (sub-le b a)) (le_of_eq (ap (λ (z : ℕ). z * d) p ∙ mul_assoc n e d ∙ ap (λ (z : ℕ). n * z) (mul_comm e d ∙ sym q)))

zero_eq : (e : ℤ) → eq (fin false zero e) zero64 ≡ true
unfolding eq
zero_eq e = rw (eq-eqb (0 * up e * 1) (0 * 1 * down e) (mul-one (0 * up e) ∙ zero-mul (up e) ∙ sym (zero-mul (down e))))

-- both are zero where the larger one is
larger_pos : (m n : ℕ) (e d : ℤ) → (eq (fin false m e) zero64 && eq (fin false n d) zero64) ≡ false → n * up d * down e ≤ m * up e * down d → 0 < m
larger_pos (suc m) n e d h l = zero-lt-suc m
larger_pos zero zero e d h l = absurd (true≢false (sym (ap (λ (z : Bool). z && eq (fin false zero d) zero64) (zero_eq e) ∙ zero_eq d) ∙ h))
larger_pos zero (suc n) e d h l =
    let z : 0 * up e * down d ≡ 0 = ap (λ (z : ℕ). z * down d) (zero-mul (up e)) ∙ zero-mul (down d) in
    let p : 0 < suc n * up d * down e = mul-pos (mul-pos (zero-lt-suc n) (up_pos d)) (down_pos e) in
    absurd (omega arith)

module _ (m n : ℕ) (e d : ℤ) (A : T (fits binary64 (fin false m e))) (B : T (fits binary64 (fin false n d)))
    (z : (eq (fin false m e) zero64 && eq (fin false n d) zero64) ≡ false) where
  abbrev a : ℕ
  a = m * up e * down d

  abbrev b : ℕ
  b = n * up d * down e

  abbrev c : ℕ
  c = down d * down e

  C : 0 < c
  C = mul-pos (down_pos d) (down_pos e)

  -- over b, over a
  over_b : (s : Bool) → a < b → Bounded 1 (div binary64 (round binary64 s (b - a) c) (fin false n d))
  over_b s l =
      over_larger s (round binary64 s (b - a) c) n d (first_pos n (up d) (first_pos (n * up d) (down e) (lt_of_le_of_lt zero-le l)))
      (round_le s (b - a) c (n * up d) (down d) C (down_pos d) (double_exact n d B) (minus_le b a (n * up d) (down d) (down e) c refl refl))

  over_a : (s : Bool) (w : ℕ) → w ≤ a → b ≤ a → Bounded 1 (div binary64 (round binary64 s w c) (fin false m e))
  over_a s w l r =
      over_larger s (round binary64 s w c) m e (larger_pos m n e d z r)
      (round_le s w c (m * up e) (down e) C (down_pos e) (double_exact m e A)
      (le_trans (mul-le-mul_right (down e) l) (le_of_eq (mul_assoc (m * up e) (down d) (down e)))))

  by_order : (x : Bool) → ltb a b ≡ x → (y : Bool) → ltb b a ≡ y
      → Bounded 1 (div binary64 (cond y (round binary64 true (a - b) c) (round binary64 false (b - a) c)) (cond x (fin false n d) (fin false m e)))
  by_order true p true q = let u : a < b = ltb-true a b p in let v : b < a = ltb-true b a q in absurd (omega arith)
  by_order true p false q = over_b false (ltb-true a b p)
  by_order false p true q = over_a true (a - b) (sub-le a b) (ltb-false a b p)
  by_order false p false q = let u : b ≤ a = ltb-false a b p in let v : a ≤ b = ltb-false b a q in over_a false (b - a) (omega arith) u

pub ratio_bounded : (k : ℕ) (a b : Float) → UpTo k a → UpTo k b → T (fits binary64 a) → T (fits binary64 b) → (eq a zero64 && eq b zero64) ≡ false
    → Bounded 1 (div binary64 (sub binary64 b a) (cond (lt a b) b a))
ratio_bounded k nan b h g A B z = absurd h
ratio_bounded k (inf s) b h g A B z = absurd h
ratio_bounded k (fin true m e) b h g A B z = absurd (true≢false h.0)
ratio_bounded k (fin false m e) nan h g A B z = absurd g
ratio_bounded k (fin false m e) (inf s) h g A B z = absurd g
ratio_bounded k (fin false m e) (fin true n d) h g A B z = absurd (true≢false g.0)
ratio_bounded k (fin false m e) (fin false n d) h g A B z = unfold lt sub neg add sum in
    by_order m n e d A B z (ltb (m * up e * down d) (n * up d * down e)) refl (ltb (n * up d * down e) (m * up e * down d)) refl

-- ---- in the order of doubles
pub or-true : (a b : ℕ) → a ≤ b → (ltb a b || (eqb a b && true)) ≡ true
or-true a b h = ⊎_elim (λ (e : a ≡ b). rw (le-ltb a b (le_of_eq (sym e)), eq-eqb a b e)) (λ l. rw (lt-ltb a b l)) (eq-or-lt_of_le h)

or_true' : (a b : ℕ) → a ≤ b → (ltb a b || (eqb b a && true)) ≡ true
or_true' a b h = ⊎_elim (λ (e : a ≡ b). rw (le-ltb a b (le_of_eq (sym e)), eq-eqb b a (sym e))) (λ l. rw (lt-ltb a b l)) (eq-or-lt_of_le h)

one_one : (a d : ℕ) → a ≤ 1 * d → a * 1 ≤ 1 * d
one_one a d h = omega arith

pub bounded_one : (x : Float) → Bounded 1 x → (le (fin true 1 (pos 0)) x ≡ true) × (le x one64 ≡ true)
unfolding le
bounded_one nan h = absurd h
bounded_one (inf s) h = absurd h
bounded_one (fin true m e) h =
    let p : 0 < down e = down_pos e in
    (or_true' (m * up e * 1) (1 * down e) (one_one (m * up e) (down e) h), rw (lt-ltb 0 (m * up e * 1 + 1 * down e) (omega arith)))
bounded_one (fin false m e) h =
    let p : 0 < down e = down_pos e in
    (rw (lt-ltb 0 (1 * down e + m * up e * 1) (omega arith)), or-true (m * up e * 1) (1 * down e) (one_one (m * up e) (down e) h))
