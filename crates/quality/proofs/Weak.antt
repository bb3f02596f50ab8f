-- Steps of a loop over the weak groups.
use Prim.Native.Nat.{ℕ, zero, suc, ◌+◌}
use mathlib.Core.Path.{◌≡◌, refl, sym, ◌∙◌, ap}
use mathlib.Core.Bool.{Bool, true, false, cond}
use mathlib.Core.List.{List, [], ◌∷◌}
use native.Mathlib.Omega.{arith}
use lib.ListN.{length}
use lib.Ieee.{Float, lt}
use Rattle.std.specs.List.{count_by}
use Rattle.std.proofs.lemmas.List.Sums.{sum_by-cons}
use Rattle.lists.specs.Lists.{cells}
use Rattle.lists.specs.Sums.{fold_if, count_if}
use Rattle.lists.proofs.Sums.{fold_in, fold_out}
use Rattle.quality.specs.Quality.{weak, weak_count, average}

module _ {A : Type 0} (qs : List Float) (f : A → ℕ → A) (a : A) (g : ℕ) {limit : Float} {x y : A} where
  -- a group that is weak, and one that is not
  pub weak_in_lem : limit ≡ average qs → x ≡ fold_if (weak qs) f a g → lt (cells qs g) limit ≡ true → y ≡ f x g → y ≡ fold_if (weak qs) f a (g + 1)
  unfolding weak
  weak_in_lem l e t s = s ∙ ap (λ v. f v g) e ∙ sym (fold_in (weak qs) f a g (rw l at t))

  pub weak_out : limit ≡ average qs → x ≡ fold_if (weak qs) f a g → lt (cells qs g) limit ≡ false → y ≡ x → y ≡ fold_if (weak qs) f a (g + 1)
  unfolding weak
  weak_out l e t s = s ∙ e ∙ sym (fold_out (weak qs) f a g (rw l at t))

-- the count of the values of a list that pass, by its places
count_first : (p : ℕ → Bool) (n : ℕ) → count_if p (suc n) ≡ cond (p 0) 1 0 + count_if (λ k. p (suc k)) n
unfolding fold_if
count_first p zero = by_test (p 0)
  where
    by_test : (b : Bool) → cond b (0 + 1) 0 ≡ cond b 1 0 + 0
    by_test true = refl
    by_test false = refl
count_first p (suc n) = by_test (p (suc n)) _ _ _ (count_first p n)
  where
    by_test : (b : Bool) (x a y : ℕ) → x ≡ a + y → cond b (x + 1) x ≡ a + cond b (y + 1) y
    by_test true x a y e = omega arith
    by_test false x a y e = e

count_places : (p : Float → Bool) (xs : List Float) → count_by p xs ≡ count_if (λ k. p (cells xs k)) (length xs)
unfolding fold_if
count_places p [] = refl
count_places p (x ∷ xs) =
    sum_by-cons (λ y. cond (p y) 1 0) x xs ∙ ap (λ n. cond (p x) 1 0 + n) (count_places p xs) ∙ sym (count_first (λ k. p (cells (x ∷ xs) k)) (length xs))

pub weak_counted : (qs : List Float) {limit : Float} {r : ℕ} → limit ≡ average qs → r ≡ count_by (λ q. lt q limit) qs → r ≡ weak_count qs
unfolding weak
weak_counted qs {limit} l e = e ∙ rw l (count_places (λ q. lt q (average qs)) qs)
