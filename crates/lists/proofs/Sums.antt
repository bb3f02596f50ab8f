-- Laws of sums, counts and tests over an index function, one for each step that a loop takes.
use Rattle.std.proofs.Common.{◌≡◌, ℕ, zero, suc, ◌+◌, ◌<◌, ◌≤◌, Bool, true, false, cond, sym, refl, ⊎_elim, eq-or-lt_of_le, add-one, arith}
use lib.Ieee.{Float, add, binary64}
use Rattle.lists.specs.Sums.{sum_to, all_to, fold_if, count_if}
use Rattle.lists.proofs.Tests.{both, and-false}

-- one more term
pub sum_more : (f : ℕ → Float) (i : ℕ) {s : Float} → s ≡ sum_to f i → add binary64 s (f i) ≡ sum_to f (i + 1)
unfolding sum_to
sum_more f i e = rw (add-one, e)

-- the sums of two index functions that agree below n
pub sum_same : (f g : ℕ → Float) (n : ℕ) → ((k : ℕ) → k < n → f k ≡ g k) → sum_to f n ≡ sum_to g n
unfolding sum_to
sum_same f g zero h = refl
sum_same f g (suc n) h = rw (sum_same f g n (λ k l. h k (omega arith)), h n (omega arith))

-- one more place passes
pub all_more : (p : ℕ → Bool) (i : ℕ) → all_to p i ≡ true → p i ≡ true → all_to p (i + 1) ≡ true
unfolding all_to
all_more p i h t = rw (add-one, h, t)

-- one place below n fails
pub all_fails : (p : ℕ → Bool) (n k : ℕ) → k < n → p k ≡ false → false ≡ all_to p n
unfolding all_to
all_fails p zero k l e = absurd (omega arith)
all_fails p (suc n) k l e =
    ⊎_elim (λ q. rw (← q, e) (sym (and-false (all_to p k)))) (λ q. rw (← all_fails p n k q e)) (eq-or-lt_of_le {n = k} {m = n} (omega arith))

-- each place below n passes
pub all_true : (p : ℕ → Bool) (n : ℕ) → all_to p n ≡ true → (i : ℕ) → i < n → p i ≡ true
unfolding all_to
all_true p zero h i l = absurd (omega arith)
all_true p (suc n) h i l =
    ⊎_elim (λ q. rw q (both (all_to p n) (p n) h).1) (λ q. all_true p n (both (all_to p n) (p n) h).0 i q) (eq-or-lt_of_le {n = i} {m = n} (omega arith))

-- a place that counts, and one that does not
pub fold_in : {A : Type 0} (p : ℕ → Bool) (g : A → ℕ → A) (a : A) (j : ℕ) → p j ≡ true → fold_if p g a (j + 1) ≡ g (fold_if p g a j) j
unfolding fold_if
fold_in p g a j e = rw (add-one, e)

pub fold_out : {A : Type 0} (p : ℕ → Bool) (g : A → ℕ → A) (a : A) (j : ℕ) → p j ≡ false → fold_if p g a (j + 1) ≡ fold_if p g a j
unfolding fold_if
fold_out p g a j e = rw (add-one, e)

cond_le : (b : Bool) (x n : ℕ) → x ≤ n → cond b (x + 1) x ≤ suc n
cond_le true x n h = omega arith
cond_le false x n h = omega arith

-- the count of the places below n is at most n
pub count-le : (p : ℕ → Bool) (n : ℕ) → count_if p n ≤ n
unfolding fold_if
count-le p zero = omega arith
count-le p (suc n) = cond_le (p n) (count_if p n) n (count-le p n)

-- a place below n that counts
some_step : (b : Bool) (c : ℕ) → 1 ≤ c → 1 ≤ cond b (c + 1) c
some_step true c h = omega arith
some_step false c h = h

pub count_some : (p : ℕ → Bool) (n j : ℕ) → j < n → p j ≡ true → 1 ≤ count_if p n
unfolding fold_if
count_some p zero j l t = absurd (omega arith)
count_some p (suc n) j l t =
    ⊎_elim
    (λ q. rw (rw q at t) (omega arith))
    (λ q. some_step (p n) (count_if p n) (count_some p n j q t))
    (eq-or-lt_of_le {n = j} {m = n} (omega arith))

-- tests and steps that agree below n
pub fold_same : {A : Type 0} (p q : ℕ → Bool) (g h : A → ℕ → A) (a : A) (n : ℕ) → ((k : ℕ) → k < n → p k ≡ q k) → ((x : A) (k : ℕ) → k < n → g x k ≡ h x k)
    → fold_if p g a n ≡ fold_if q h a n
unfolding fold_if
fold_same p q g h a zero e s = refl
fold_same p q g h a (suc n) e s =
    rw (e n (omega arith), fold_same p q g h a n (λ k l. e k (omega arith)) (λ x k l. s x k (omega arith)), s (fold_if q h a n) n (omega arith))

-- no place below n counts
pub fold_none : {A : Type 0} (p : ℕ → Bool) (g : A → ℕ → A) (a : A) (n : ℕ) → ((k : ℕ) → k < n → p k ≡ false) → fold_if p g a n ≡ a
unfolding fold_if
fold_none p g a zero e = refl
fold_none p g a (suc n) e = rw (e n (omega arith)) (fold_none p g a n (λ k l. e k (omega arith)))
