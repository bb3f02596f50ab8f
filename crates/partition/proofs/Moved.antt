-- Groups whose numbers are mapped, and how often a number then stands in them.
use Prim.Native.Nat.{ℕ, zero, suc, ◌+◌, ◌<◌, ◌≤◌}
use mathlib.Core.Path.{◌≡◌, refl, sym, ◌∙◌, ap}
use mathlib.Core.Bool.{Bool, true, false, cond}
use mathlib.Core.List.{List, [], ◌∷◌, ◌++◌, map}
use native.Mathlib.Nat.{not-suc-le-zero}
use native.Mathlib.Omega.{arith}
use borrow.Author.Tests.{eq-eqb, ne_eqb, ltb-true, ltb-false}
use borrow.Table.Elements.{map_app}
use lib.Dec.{eqb, ltb}
use lib.ListN.{length}
use Rattle.lists.specs.Lists.{numbers}
use Rattle.partition.specs.Partition.{joined, group_at, times}
use Rattle.partition.specs.Orders.{total_to}
use Rattle.partition.proofs.Totals.{total_first, total_same, total-zero}
use Rattle.partition.proofs.Members.{Below}

-- no group is empty
abbrev pub Some : List (List ℕ) → Type 0
Some gs = (g : ℕ) → g < length gs → 0 < length (group_at gs g)

pub some_append : (a b : List (List ℕ)) → Some a → Some b → Some (a ++ b)
some_append [] b h k j l = k j l
some_append (x ∷ a) b h k zero l = h 0 (omega arith)
some_append (x ∷ a) b h k (suc j) l = some_append a b (λ i e. h (suc i) (omega arith)) k j (omega arith)

pub below-map : (n w : ℕ) (f : ℕ → ℕ) (p : List ℕ) → Below w p → ((k : ℕ) → k < w → f k < n) → Below n (map f p)
below-map n w f [] h k j l = absurd (not-suc-le-zero l)
below-map n w f (x ∷ p) h k zero l = k x (h 0 (omega arith))
below-map n w f (x ∷ p) h k (suc j) l = below-map n w f p (λ i e. h (suc i) (omega arith)) k j (omega arith)

pub joined_map : (f : ℕ → ℕ) (gs : List (List ℕ)) → joined (map (λ g. map f g) gs) ≡ map f (joined gs)
unfolding joined
joined_map f [] = refl
joined_map f (g ∷ gs) = ap (λ (l : List ℕ). map f g ++ l) (joined_map f gs) ∙ sym (map_app f g (joined gs))

pub some_map : (f : ℕ → ℕ) (gs : List (List ℕ)) → Some gs → Some (map (λ g. map f g) gs)
some_map f [] h j l = absurd (not-suc-le-zero l)
some_map f (g ∷ gs) h zero l = of_group g (h 0 (omega arith))
  where
    of_group : (g : List ℕ) → 0 < length g → 0 < length (map f g)
    of_group [] e = e
    of_group (x ∷ g) e = omega arith
some_map f (g ∷ gs) h (suc j) l = some_map f gs (λ i e. h (suc i) (omega arith)) j (omega arith)

-- sums that differ at one place
total_at : (f g : ℕ → ℕ) (x d n : ℕ) → x < n → f x ≡ g x + d → ((k : ℕ) → (x ≡ k → ⊥) → f k ≡ g k) → total_to f n ≡ total_to g n + d
unfolding total_to
total_at f g x d zero l e h = absurd (not-suc-le-zero l)
total_at f g x d (suc n) l e h = by_test (ltb x n) refl (λ i. total_at f g x d n i e h)
  where
    by_test : (t : Bool) → ltb x n ≡ t → (x < n → total_to f n ≡ total_to g n + d) → total_to f n + f n ≡ total_to g n + g n + d
    by_test true q later =
        let i : x < n = ltb-true x n q in
        let s : f n ≡ g n = h n (λ z. let y : ⊥ = omega arith in y) in
        omega (arith, later i, s)
    by_test false q later =
        let i : n ≤ x = ltb-false x n q in
        let z : x ≡ n = omega arith in
        let a : f n ≡ g n + d = rw z at e in
        omega (arith, a, total_same f g n (λ k j. h k (λ y. let o : ⊥ = omega arith in o)))

-- how often i is f j for a j of the list: j by j, how often j stands in the list
pub times_map : (f : ℕ → ℕ) (i w : ℕ) (p : List ℕ) → Below w p → times i (map f p) ≡ total_to (λ j. cond (eqb (f j) i) (times j p) 0) w
unfolding times
times_map f i w [] h = sym (total-zero (λ j. cond (eqb (f j) i) 0 0) w (λ k l. nought (eqb (f k) i)))
  where
    nought : (t : Bool) → ◌≡◌ {A = ℕ} (cond t 0 0) 0
    nought true = refl
    nought false = refl
times_map f i w (x ∷ p) h =
    let later : times i (map f p) ≡ total_to (λ j. cond (eqb (f j) i) (times j p) 0) w = times_map f i w p (λ j l. h (suc j) (omega arith)) in
    let more = total_at (λ j. cond (eqb (f j) i) (cond (eqb x j) (suc (times j p)) (times j p)) 0) (λ j. cond (eqb (f j) i) (times j p) 0) x (cond (eqb (f x) i) 1 0) w (h 0 (omega arith))
    (rw (eq-eqb x x refl) (here (eqb (f x) i) (times x p))) (λ k ne. rw (ne_eqb x k ne) refl) in
    front (eqb (f x) i) later ∙ sym more
  where
    here : (t : Bool) (n : ℕ) → cond t (suc n) 0 ≡ cond t n 0 + cond t 1 0
    here true n = omega arith
    here false n = refl

    front : {n s : ℕ} (t : Bool) → n ≡ s → cond t (suc n) n ≡ s + cond t 1 0
    front true e = omega arith
    front false e = omega arith

-- the same for a list given by its numbers, one after the other
times_places : (i : ℕ) (l : List ℕ) → times i l ≡ total_to (λ j. cond (eqb (numbers l j) i) 1 0) (length l)
unfolding times total_to
times_places i [] = refl
times_places i (x ∷ l) = by_test (eqb x i) (times_places i l) ∙ sym (total_first (λ j. cond (eqb (numbers (x ∷ l) j) i) 1 0) (length l))
  where
    by_test : {n s : ℕ} (t : Bool) → n ≡ s → cond t (suc n) n ≡ cond t 1 0 + s
    by_test true e = omega arith
    by_test false e = omega arith

-- the numbers of a list, in another order: p has each of its places once
pub times_moved : (i : ℕ) (l p : List ℕ) → Below (length l) p → ((j : ℕ) → j < length l → times j p ≡ 1) → times i (map (numbers l) p) ≡ times i l
times_moved i l p b once =
    times_map (numbers l) i (length l) p b
    ∙ total_same (λ j. cond (eqb (numbers l j) i) (times j p) 0) (λ j. cond (eqb (numbers l j) i) 1 0) (length l)
    (λ k h. ap (λ (n : ℕ). cond (eqb (numbers l k) i) n 0) (once k h))
    ∙ sym (times_places i l)
