-- Sums of doubles within whole bounds: the sum of c terms of at most k each is at most k * c, and a NaN among them makes it a NaN.
use Prim.Native.Nat.{ℕ, zero, suc, ◌+◌, ◌*◌, ◌^◌, ◌<◌, zero-le}
use mathlib.Core.Path.{◌≡◌, refl, sym, ap, ◌∙◌, subst}
use mathlib.Core.Logic.{inl, inr, ⊎_elim}
use mathlib.Core.Bool.{Bool, true, false, cond}
use native.Mathlib.Nat.{mul-zero, mul-one, mul-add, eq-or-lt_of_le}
use native.Mathlib.Numerals.{add-one}
use native.Mathlib.Omega.{arith}
use lib.Ieee.{Float, nan, add, binary64}
use Rattle.lists.specs.Sums.{zero64, sum_to, fold_if, sum_if, count_if}
use Rattle.certain_ranges.specs.Ranges.{Bounded, UpTo, OrNan}
use Rattle.certain_ranges.proofs.Operations.{bounded_add, upto_add, add_nan, nan_add}

-- a bound that a sum keeps
pub record Adds (P : ℕ → Float → Type 0) : Type 0 where
  pub none : P 0 zero64
  pub more : (j k : ℕ) (x y : Float) → j + k < 2 ^ 53 → P j x → P k y → P (j + k) (add binary64 x y)

pub adds_bounded : Adds Bounded
adds_bounded = record { none = zero-le; more = bounded_add }

pub adds_upto : Adds UpTo
adds_upto = record { none = (refl, zero-le); more = upto_add }

pub adds_or_nan : Adds (λ k x. OrNan (UpTo k) x)
adds_or_nan = record { none = inr (refl, zero-le); more = step }
  where
    step : (j k : ℕ) (x y : Float) → j + k < 2 ^ 53 → OrNan (UpTo j) x → OrNan (UpTo k) y → OrNan (UpTo (j + k)) (add binary64 x y)
    step j k x y K (inl e) g = inl (rw e (nan_add y))
    step j k x y K (inr h) (inl e) = inl (rw e (add_nan x))
    step j k x y K (inr h) (inr g) = inr (upto_add j k x y K h g)

module _ (P : ℕ → Float → Type 0) (laws : Adds P) (p : ℕ → Bool) (f : ℕ → Float) (k : ℕ) where
  pub sum_if_in : (n : ℕ) → k * count_if p n < 2 ^ 53 → ((i : ℕ) → i < n → p i ≡ true → P k (f i)) → P (k * count_if p n) (sum_if p f n)
  unfolding fold_if
  sum_if_in zero K h = subst (λ (z : ℕ). P z zero64) (sym (mul-zero k)) laws.none
  sum_if_in (suc n) K h = go (p n) refl K (λ (l : k * count_if p n < 2 ^ 53). sum_if_in n l (λ i g. h i (omega arith)))
    where
      go : (b : Bool) → p n ≡ b → k * cond b (count_if p n + 1) (count_if p n) < 2 ^ 53
          → (k * count_if p n < 2 ^ 53 → P (k * count_if p n) (sum_if p f n))
          → P (k * cond b (count_if p n + 1) (count_if p n)) (cond b (add binary64 (sum_if p f n) (f n)) (sum_if p f n))
      go true e l before =
          let c = count_if p n in
          let s : k * (c + 1) ≡ k * c + k = mul-add k c 1 ∙ ap (λ (z : ℕ). k * c + z) (mul-one k) in
          subst (λ (z : ℕ). P z (add binary64 (sum_if p f n) (f n))) (sym s)
          (laws.more (k * c) k (sum_if p f n) (f n) (subst (λ (z : ℕ). z < 2 ^ 53) s l) (before (omega arith)) (h n (omega arith) e))
      go false e l before = before l

-- a NaN among the terms
pub sum_if_nan : (p : ℕ → Bool) (f : ℕ → Float) (n j : ℕ) → j < n → p j ≡ true → f j ≡ nan → sum_if p f n ≡ nan
unfolding fold_if
sum_if_nan p f zero j h t e = absurd (omega arith)
sum_if_nan p f (suc n) j h t e = ⊎_elim here (λ (l : suc j < suc n). go (p n) (sum_if_nan p f n j (omega arith) t e)) (eq-or-lt_of_le h)
  where
    here : suc j ≡ suc n → cond (p n) (add binary64 (sum_if p f n) (f n)) (sum_if p f n) ≡ nan
    here s =
        let q : j ≡ n = omega arith in
        let t' : p n ≡ true = subst (λ (z : ℕ). p z ≡ true) q t in
        let e' : f n ≡ nan = subst (λ (z : ℕ). f z ≡ nan) q e in
        rw (t', e') (add_nan (sum_if p f n))

    go : (b : Bool) → sum_if p f n ≡ nan → cond b (add binary64 (sum_if p f n) (f n)) (sum_if p f n) ≡ nan
    go true s = rw s (nan_add (f n))
    go false s = s

-- ---- all terms
abbrev every : ℕ → Bool
every i = true

sum_all : (f : ℕ → Float) (n : ℕ) → sum_to f n ≡ sum_if every f n
unfolding sum_to fold_if
sum_all f zero = refl
sum_all f (suc n) = rw (sum_all f n)

count_all : (n : ℕ) → count_if every n ≡ n
unfolding fold_if
count_all zero = refl
count_all (suc n) = rw (count_all n) (add-one n)

pub sum_in : (P : ℕ → Float → Type 0) → Adds P → (f : ℕ → Float) (k n : ℕ) → k * n < 2 ^ 53 → ((i : ℕ) → i < n → P k (f i)) → P (k * n) (sum_to f n)
sum_in P laws f k n K h =
    subst (λ (z : Float). P (k * n) z) (sym (sum_all f n))
    (subst (λ (z : ℕ). P (k * z) (sum_if every f n)) (count_all n)
    (sum_if_in P laws every f k n (subst (λ (z : ℕ). k * z < 2 ^ 53) (sym (count_all n)) K) (λ i g t. h i g)))

pub sum_nan : (f : ℕ → Float) (n j : ℕ) → j < n → f j ≡ nan → sum_to f n ≡ nan
sum_nan f n j h e = sum_all f n ∙ sum_if_nan every f n j h refl e
