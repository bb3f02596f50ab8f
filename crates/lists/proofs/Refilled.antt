-- A list whose first cells are lent: of equal cells, and when they came back as others. Assumes nothing.
use Rattle.std.proofs.Common.{◌≡◌, ℕ, zero, suc, ◌≤◌, List, ◌∷◌, ◌++◌, length, take, drop, replicate, sym, refl, ap, ◌∙◌, arith, length-append, length-drop, length-take-le, take_at}
use lib.ListN.{length-replicate}
use Rattle.lists.specs.Lists.{listed}
use Rattle.lists.proofs.Listed.{listed_length}

-- its length
pub refilled : {A : Type 0} (k n : ℕ) (p old : List A) → k ≡ length old → n ≤ k → length p ≡ length (take n old) → k ≡ length (p ++ drop n old)
refilled k n p old e h w =
    let a : length p ≡ n = w ∙ length-take-le n old (omega (arith, e, h)) in
    simp (length-append, length-drop) (omega (arith, a, e, h))

-- its front
pub refilled_front : {A : Type 0} (f : ℕ → A) (k n : ℕ) (p old : List A) → k ≡ length old → n ≤ k → p ≡ listed f (length (take n old)) → take n (p ++ drop n old) ≡ listed f n
refilled_front f k n p old e h w =
    let t : length (take n old) ≡ n = length-take-le n old (omega (arith, e, h)) in
    take_at p (drop n old) n (listed_length f (length (take n old)) w ∙ t) ∙ w ∙ ap (listed f) t

-- the length and the front of a list of equal cells
pub buffer_length : {A : Type 0} (m : ℕ) (x : A) {l : List A} → l ≡ replicate m x → m ≡ length l
buffer_length m x e = sym (ap length e ∙ length-replicate m x)

take-replicate : {A : Type 0} (n m : ℕ) (x : A) → n ≤ m → take n (replicate m x) ≡ replicate n x
take-replicate zero m x h = refl
take-replicate (suc n) zero x h = absurd (omega arith)
take-replicate (suc n) (suc m) x h = ap (λ (l : List _). x ∷ l) (take-replicate n m x (omega arith))

pub buffer_front : {A : Type 0} (n m : ℕ) (x : A) {l : List A} → l ≡ replicate m x → n ≤ m → take n l ≡ replicate n x
buffer_front n m x e h = ap (take n) e ∙ take-replicate n m x h

-- a front part that was filled, and what lies behind it
pub filled_front : {A : Type 0} (w : ℕ) (xs : List A) (z : A) {front : List A} → w ≤ length xs → front ≡ replicate (length (take w xs)) z
    → front ++ drop w xs ≡ replicate w z ++ drop w xs
filled_front w xs z h e = rw (e, length-take-le w xs h)
