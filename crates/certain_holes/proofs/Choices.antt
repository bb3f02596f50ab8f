-- Whether some place has a NaN, whether two numbers are equal, and counts that are not 0.
use Prim.Native.Nat.{ℕ, zero, suc, ◌+◌, ◌<◌}
use mathlib.Core.Path.{◌≡◌, refl, subst}
use mathlib.Core.Logic.{◌⊎◌, inl, inr, ⊎_elim}
use mathlib.Core.Bool.{Bool, true, false, cond}
use native.Mathlib.Nat.{eq-or-lt_of_le}
use native.Mathlib.Omega.{arith}
use borrow.Author.Tests.{eqb-true, eqb-false}
use lib.Dec.{eqb}
use lib.Ieee.{Float, nan, inf, fin}
use Rattle.lists.specs.Sums.{fold_if, count_if}
use Rattle.certain_holes.specs.Holes.{Hole, Whole}

-- at some place below n, or at none
pub somewhere : (P : ℕ → Type 0) (Q : ℕ → Type 0) → ((i : ℕ) → P i ⊎ Q i) → (n : ℕ) → ((i : ℕ) × (i < n) × P i) ⊎ ((i : ℕ) → i < n → Q i)
somewhere P Q d zero = inr (λ i h. absurd (omega arith))
somewhere P Q d (suc n) = ⊎_elim
    (λ (s : (i : ℕ) × (i < n) × P i). inl (s.0, more s.0 n s.1, s.2))
    (λ a. ⊎_elim
    (λ p. inl (n, omega arith, p))
    (λ q. inr (λ i h. ⊎_elim (λ (e : suc i ≡ suc n). let f : n ≡ i = omega arith in subst Q f q) (λ (l : suc i < suc n). a i (omega arith)) (eq-or-lt_of_le h)))
    (d n))
    (somewhere P Q d n)
  where
    more : (i n : ℕ) → i < n → i < suc n
    more i n h = omega arith

abbrev IsNumber : Float → Type 0
IsNumber nan = ⊥
IsNumber (inf s) = Unit
IsNumber (fin s m e) = Unit

pub nan_or_not : (y : Float) → (y ≡ nan) ⊎ (y ≡ nan → ⊥)
nan_or_not nan = inl refl
nan_or_not (inf s) = inr (λ e. subst IsNumber e tt)
nan_or_not (fin s m e) = inr (λ e. subst IsNumber e tt)

pub number_or_not : (a b : ℕ) → (a ≡ b) ⊎ (a ≡ b → ⊥)
number_or_not a b = go (eqb a b) refl
  where
    go : (t : Bool) → eqb a b ≡ t → (a ≡ b) ⊎ (a ≡ b → ⊥)
    go true e = inl (eqb-true a b e)
    go false e = inr (eqb-false a b e)

pub hole_or_whole : (a : ℕ → Float) (m : ℕ) → Hole a m ⊎ Whole a m
hole_or_whole a m = somewhere (λ c. a c ≡ nan) (λ c. a c ≡ nan → ⊥) (λ c. nan_or_not (a c)) m

-- ---- counts
pub count-pos : (c : ℕ) → eqb c 0 ≡ false → 0 < c
count-pos zero e = absurd (eqb-false 0 0 e refl)
count-pos (suc c) e = omega arith

pub count_witness : (p : ℕ → Bool) (n : ℕ) → 0 < count_if p n → (j : ℕ) × (j < n) × (p j ≡ true)
unfolding fold_if
count_witness p zero h = absurd (omega arith)
count_witness p (suc n) h = go (p n) refl h (count_witness p n)
  where
    go : (b : Bool) → p n ≡ b → 0 < cond b (count_if p n + 1) (count_if p n) → (0 < count_if p n → (j : ℕ) × (j < n) × (p j ≡ true)) → (j : ℕ) × (j < suc n) × (p j ≡ true)
    go true e h w = (n, omega arith, e)
    go false e h w = let r : (j : ℕ) × (j < n) × (p j ≡ true) = w h in (r.0, more r.0 n r.1, r.2)
      where
        more : (i n : ℕ) → i < n → i < suc n
        more i n h = omega arith
