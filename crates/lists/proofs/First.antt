-- A search for the first place where a test holds.
use Rattle.std.proofs.Common.{◌≡◌, ℕ, zero, suc, ◌+◌, ◌<◌, ◌≤◌, Bool, true, false, cond, ltb, leb, List, length, refl, ⊎_elim, eq-or-lt_of_le, add-one, arith, ltb-false, ltb-true, le-ltb, lt-ltb, leb-false}
use Rattle.lists.specs.Lists.{first_to, first_from, numbers}

-- no place below i, and not i
pub first_more : (p : ℕ → Bool) (i : ℕ) → first_to p i ≡ i → p i ≡ false → first_to p (i + 1) ≡ i + 1
unfolding first_to
first_more p i h e = rw (add-one, h, le-ltb i i (omega arith), e)

-- no place below i, but i: it is the first, however many places there are
pub first_found : (p : ℕ → Bool) (i n : ℕ) → first_to p i ≡ i → p i ≡ true → i < n → i ≡ first_to p n
unfolding first_to
first_found p i zero h e l = absurd (omega arith)
first_found p i (suc n) h e l =
    ⊎_elim
    (λ q. rw (← q, h, le-ltb i i (omega arith), e))
    (λ q. rw (← first_found p i n h e q, lt-ltb i n q))
    (eq-or-lt_of_le {n = i} {m = n} (omega arith))

step : (a b : Bool) (f n : ℕ) → (a ≡ true → f < n) → suc n ≤ cond a f (cond b n (suc n)) → (a ≡ false) × (b ≡ false)
step true b f n u h = absurd (omega (arith, u refl))
step false true f n u h = absurd (omega arith)
step false false f n u h = (refl, refl)

-- where there is no first place below n, the test fails at each
pub first-none : (p : ℕ → Bool) (n : ℕ) → n ≤ first_to p n → (k : ℕ) → k < n → p k ≡ false
unfolding first_to
first-none p zero h k l = absurd (omega arith)
first-none p (suc n) h k l =
    let s = step (ltb (first_to p n) n) (p n) (first_to p n) n (ltb-true (first_to p n) n) h in
    ⊎_elim
    (λ q. rw q s.1)
    (λ q. first-none p n (ltb-false (first_to p n) n s.0) k q)
    (eq-or-lt_of_le {n = k} {m = n} (omega arith))

chosen : (p : ℕ → Bool) (a b : Bool) (f n : ℕ) → p n ≡ b → (a ≡ true → p f ≡ true) → cond a f (cond b n (suc n)) < suc n → p (cond a f (cond b n (suc n))) ≡ true
chosen p true b f n e h l = h refl
chosen p false true f n e h l = e
chosen p false false f n e h l = absurd (omega arith)

-- the test holds at the first place
pub first_holds : (p : ℕ → Bool) (n : ℕ) → first_to p n < n → p (first_to p n) ≡ true
unfolding first_to
first_holds p zero l = absurd (omega arith)
first_holds p (suc n) l = chosen p (ltb (first_to p n) n) (p n) (first_to p n) n refl (λ t. first_holds p n (ltb-true (first_to p n) n t)) l

-- where no number is the limit or more, each is below it
pub from_none : (limit : ℕ) (xs : List ℕ) → length xs ≤ first_from limit xs → (k : ℕ) → k < length xs → numbers xs k < limit
unfolding first_from
from_none limit xs h k l = leb-false limit (numbers xs k) (first-none (λ j. leb limit (numbers xs j)) (length xs) h k l)

-- the same places below n pass
pub first-same : (p q : ℕ → Bool) (n : ℕ) → ((k : ℕ) → k < n → p k ≡ q k) → first_to p n ≡ first_to q n
unfolding first_to
first-same p q zero h = refl
first-same p q (suc n) h = rw (first-same p q n (λ k l. h k (omega arith)), h n (omega arith))
