-- How often an item stands in a list, whether it does, and what all items of a list are below.
use Prim.Native.Nat.{ℕ, zero, suc, ◌+◌, ◌<◌, ◌≤◌}
use mathlib.Core.Path.{◌≡◌, refl, sym, ◌∙◌, ap}
use mathlib.Core.Bool.{Bool, true, false, cond, ◌||◌}
use mathlib.Core.List.{List, [], ◌∷◌, ◌++◌, append-nil, append_assoc}
use native.Mathlib.Omega.{arith}
use borrow.Author.Tests.{eq-eqb, ne_eqb, eqb-true}
use lib.Dec.{eqb}
use lib.ListN.{length, length-append}
use Rattle.lists.specs.Lists.{numbers}
use Rattle.lists.proofs.Tests.{impossible}
use Rattle.partition.specs.Partition.{joined, group_at, has, times}
use Rattle.partition.specs.Orders.{total_to}
use Rattle.partition.proofs.Totals.{total_first, total-zero, total_one_more}

-- groups one after the other, and one more group behind
pub joined_append : (gs hs : List (List ℕ)) → joined (gs ++ hs) ≡ joined gs ++ joined hs
unfolding joined
joined_append [] hs = refl
joined_append (g ∷ gs) hs = ap (λ l. g ++ l) (joined_append gs hs) ∙ sym (append_assoc g (joined gs) (joined hs))

joined_single : (g : List ℕ) → joined (g ∷ []) ≡ g
unfolding joined
joined_single g = append-nil g

pub joined_one : (gs : List (List ℕ)) (g : List ℕ) → joined (gs ++ (g ∷ [])) ≡ joined gs ++ g
joined_one gs g = joined_append gs (g ∷ []) ∙ ap (λ l. joined gs ++ l) (joined_single g)

pub joined-none : joined [] ≡ []
unfolding joined
joined-none = refl

-- a count of items that adds up over lists one after the other: of all groups it is the sum over the groups
pub count_joined : (h : List ℕ → ℕ) → h [] ≡ 0 → ((xs ys : List ℕ) → h (xs ++ ys) ≡ h xs + h ys) → (gs : List (List ℕ))
    → h (joined gs) ≡ total_to (λ g. h (group_at gs g)) (length gs)
unfolding joined total_to
count_joined h none both [] = none
count_joined h none both (g ∷ gs) =
    both g (joined gs) ∙ ap (λ n. h g + n) (count_joined h none both gs) ∙ sym (total_first (λ k. h (group_at (g ∷ gs) k)) (length gs))

-- as many items as all groups have
pub length_joined : (gs : List (List ℕ)) → length (joined gs) ≡ total_to (λ g. length (group_at gs g)) (length gs)
length_joined gs = count_joined length refl length-append gs

-- no group is empty: there are as many items as groups, or more
pub groups_fewer : (gs : List (List ℕ)) → ((g : ℕ) → g < length gs → 0 < length (group_at gs g)) → length gs ≤ length (joined gs)
unfolding joined
groups_fewer [] h = omega arith
groups_fewer (g ∷ gs) h =
    omega (arith, length-append g (joined gs), groups_fewer gs (λ k l. h (suc k) (omega arith)), h 0 (omega arith))

or_assoc : (a b c : Bool) → a || (b || c) ≡ (a || b) || c
or_assoc true b c = refl
or_assoc false b c = refl

pub has_append : (xs ys : List ℕ) (i : ℕ) → has (xs ++ ys) i ≡ has xs i || has ys i
unfolding has
has_append [] ys i = refl
has_append (x ∷ xs) ys i = ap (λ b. eqb x i || b) (has_append xs ys i) ∙ or_assoc (eqb x i) (has xs i) (has ys i)

cond_sum : (b : Bool) (m n : ℕ) → cond b (suc (m + n)) (m + n) ≡ cond b (suc m) m + n
cond_sum true m n = omega arith
cond_sum false m n = refl

pub times-append : (i : ℕ) (xs ys : List ℕ) → times i (xs ++ ys) ≡ times i xs + times i ys
unfolding times
times-append i [] ys = omega arith
times-append i (x ∷ xs) ys = rw (times-append i xs ys) (cond_sum (eqb x i) (times i xs) (times i ys))

-- a list of one item
pub times_one : (i : ℕ) → times i (i ∷ []) ≡ 1
unfolding times
times_one i = rw (eq-eqb i i refl)

pub times_other : (i x : ℕ) → (x ≡ i → ⊥) → times i (x ∷ []) ≡ 0
unfolding times
times_other i x h = rw (ne_eqb x i h)

pub times_none : (i : ℕ) → times i [] ≡ 0
unfolding times
times_none i = refl

-- an item is in a list where it stands there at least once
pub has_times : (xs : List ℕ) (i : ℕ) → has xs i ≡ true → 0 < times i xs
unfolding has times
has_times [] i h = impossible h
has_times (x ∷ xs) i h = by_test (eqb x i) h (has_times xs i)
  where
    by_test : (t : Bool) → t || has xs i ≡ true → (has xs i ≡ true → 0 < times i xs) → 0 < cond t (suc (times i xs)) (times i xs)
    by_test true e later = omega arith
    by_test false e later = later e

pub times_has : (xs : List ℕ) (i : ℕ) → 0 < times i xs → has xs i ≡ true
unfolding has times
times_has [] i h = absurd (omega (arith, h))
times_has (x ∷ xs) i h = by_test (eqb x i) h (times_has xs i)
  where
    by_test : (t : Bool) → 0 < cond t (suc (times i xs)) (times i xs) → (0 < times i xs → has xs i ≡ true) → t || has xs i ≡ true
    by_test true e later = refl
    by_test false e later = later e

-- every item of the list is below m
abbrev pub Below : ℕ → List ℕ → Type 0
Below m xs = (j : ℕ) → j < length xs → numbers xs j < m

pub below_none : (m : ℕ) → Below m []
below_none m j l = absurd (omega arith)

below_cons : (m x : ℕ) (xs : List ℕ) → x < m → Below m xs → Below m (x ∷ xs)
below_cons m x xs h b zero l = h
below_cons m x xs h b (suc j) l = b j (omega arith)

pub below_tail : (m x : ℕ) (xs : List ℕ) → Below m (x ∷ xs) → Below m xs
below_tail m x xs b j l = b (suc j) (omega arith)

pub below_head : (m x : ℕ) (xs : List ℕ) → Below m (x ∷ xs) → x < m
below_head m x xs b = b 0 (omega arith)

pub below_append : (m : ℕ) (xs ys : List ℕ) → Below m xs → Below m ys → Below m (xs ++ ys)
below_append m [] ys a b = b
below_append m (x ∷ xs) ys a b = below_cons m x (xs ++ ys) (below_head m x xs a) (below_append m xs ys (below_tail m x xs a) b)

pub below_left : (m : ℕ) (xs ys : List ℕ) → Below m (xs ++ ys) → Below m xs
below_left m [] ys b = below_none m
below_left m (x ∷ xs) ys b = below_cons m x xs (below_head m x (xs ++ ys) b) (below_left m xs ys (below_tail m x (xs ++ ys) b))

pub below_right : (m : ℕ) (xs ys : List ℕ) → Below m (xs ++ ys) → Below m ys
below_right m [] ys b = b
below_right m (x ∷ xs) ys b = below_right m xs ys (below_tail m x (xs ++ ys) b)

-- an item that is in the list is below m
pub has_below : (m : ℕ) (xs : List ℕ) → Below m xs → (i : ℕ) → has xs i ≡ true → i < m
unfolding has
has_below m [] b i h = impossible h
has_below m (x ∷ xs) b i h = by_test (eqb x i) refl h (has_below m xs (below_tail m x xs b) i)
  where
    by_test : (t : Bool) → eqb x i ≡ t → t || has xs i ≡ true → (has xs i ≡ true → i < m) → i < m
    by_test true e q later = omega (arith, eqb-true x i e, below_head m x xs b)
    by_test false e q later = later q

-- the groups of a list of items below m
pub below_group : (m : ℕ) (gs : List (List ℕ)) → Below m (joined gs) → (g : ℕ) → Below m (group_at gs g)
unfolding joined
below_group m [] b g = below_none m
below_group m (h ∷ gs) b zero = below_left m h (joined gs) b
below_group m (h ∷ gs) b (suc g) = below_group m gs (below_right m h (joined gs) b) g

-- the counts of all items below m sum to the length
pub times_total : (m : ℕ) (xs : List ℕ) → Below m xs → total_to (λ i. times i xs) m ≡ length xs
unfolding times
times_total m [] b = total-zero (λ i. 0) m (λ k l. refl)
times_total m (x ∷ xs) b = total_one_more x (λ i. times i xs) m (below_head m x xs b) ∙ ap suc (times_total m xs (below_tail m x xs b))
