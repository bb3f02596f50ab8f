-- Groups picked out of a partition, and those that are left: each item is in one of the two, as often as before.
use Prim.Native.Nat.{ℕ, zero, suc, ◌+◌, ◌<◌, ◌≤◌}
use mathlib.Core.Path.{◌≡◌, refl, sym, ◌∙◌, ap}
use mathlib.Core.Bool.{Bool, true, false, cond, not}
use mathlib.Core.List.{List, [], ◌∷◌, ◌++◌}
use native.Mathlib.Omega.{arith}
use lib.ListN.{length, length-append, length-map}
use lib.Ieee.{Float, lt}
use Rattle.lists.specs.Lists.{cells}
use Rattle.lists.specs.Sums.{fold_if, count_if}
use Rattle.lists.proofs.Sums.{fold_same}
use Rattle.partition.specs.Partition.{joined, group_at, times}
use Rattle.partition.specs.Orders.{total_to}
use Rattle.partition.proofs.Collected.{collect, collect_length, collect_each}
use Rattle.partition.proofs.Members.{count_joined, joined_one, joined-none, times-append, times_none, Below, below_none, below_append, below_group}
use Rattle.quality.specs.Quality.{picked, on_side, weak, average, quality_of, qualities_of}

-- A count of items that adds up over lists one after the other.
module _ (h : List ℕ → ℕ) (none : h [] ≡ 0) (both : (xs ys : List ℕ) → h (xs ++ ys) ≡ h xs + h ys) where
  count_one : (xs : List (List ℕ)) (x : List ℕ) → h (joined (xs ++ (x ∷ []))) ≡ h (joined xs) + h x
  count_one xs x = ap h (joined_one xs x) ∙ both (joined xs) x

  split_step : (b : Bool) (xs ys : List (List ℕ)) (x : List ℕ) (n : ℕ) → h (joined xs) + h (joined ys) ≡ n
      → h (joined (cond b (xs ++ (x ∷ [])) xs)) + h (joined (cond (not b) (ys ++ (x ∷ [])) ys)) ≡ n + h x
  split_step true xs ys x n e = omega (arith, count_one xs x)
  split_step false xs ys x n e = omega (arith, count_one ys x)

  -- the two lists have together what all groups have
  split_total : (p : ℕ → Bool) (f : ℕ → List ℕ) (n : ℕ)
      → h (joined (collect p f n)) + h (joined (collect (λ g. not (p g)) f n)) ≡ total_to (λ g. h (f g)) n
  unfolding fold_if total_to
  split_total p f zero = let z : h (joined []) ≡ 0 = ap h joined-none ∙ none in omega arith
  split_total p f (suc n) =
      split_step (p n) (collect p f n) (collect (λ g. not (p g)) f n) (f n) (total_to (λ g. h (f g)) n) (split_total p f n)

  split_joined : (p : ℕ → Bool) (gs : List (List ℕ)) → h (joined (picked p gs)) + h (joined (picked (λ g. not (p g)) gs)) ≡ h (joined gs)
  unfolding picked
  split_joined p gs = split_total p (group_at gs) (length gs) ∙ sym (count_joined h none both gs)

-- each item is in the picked groups or in the others, as often as before
pub picked_times : (p : ℕ → Bool) (gs : List (List ℕ)) (i : ℕ)
    → times i (joined (picked p gs)) + times i (joined (picked (λ g. not (p g)) gs)) ≡ times i (joined gs)
picked_times p gs i = split_joined (times i) (times_none i) (times-append i) p gs

-- and so are their numbers
pub picked_lengths : (p : ℕ → Bool) (gs : List (List ℕ))
    → length (joined (picked p gs)) + length (joined (picked (λ g. not (p g)) gs)) ≡ length (joined gs)
picked_lengths p gs = split_joined length refl length-append p gs

pub picked_fewer : (p : ℕ → Bool) (gs : List (List ℕ)) → length (joined (picked p gs)) ≤ length (joined gs)
picked_fewer p gs = omega (arith, picked_lengths p gs)

-- the items of the groups picked so far
pub collected_fewer : (p : ℕ → Bool) (f : ℕ → List ℕ) (n : ℕ) → length (joined (collect p f n)) ≤ total_to (λ g. length (f g)) n
collected_fewer p f n = omega (arith, split_total length refl length-append p f n)

below_step : (m : ℕ) (b : Bool) (xs : List (List ℕ)) (x : List ℕ) → Below m (joined xs) → Below m x → Below m (joined (cond b (xs ++ (x ∷ [])) xs))
below_step m true xs x h q = rw (joined_one xs x) (below_append m (joined xs) x h q)
below_step m false xs x h q = h

collected_below : (m : ℕ) (p : ℕ → Bool) (f : ℕ → List ℕ) (n : ℕ) → ((g : ℕ) → Below m (f g)) → Below m (joined (collect p f n))
unfolding fold_if
collected_below m p f zero h = rw joined-none (below_none m)
collected_below m p f (suc n) h = below_step m (p n) (collect p f n) (f n) (collected_below m p f n h) (h n)

-- items of picked groups are items of all groups
pub picked_below : (m : ℕ) (p : ℕ → Bool) (gs : List (List ℕ)) → Below m (joined gs) → Below m (joined (picked p gs))
unfolding picked
picked_below m p gs h = collected_below m p (group_at gs) (length gs) (below_group m gs h)

-- what holds of each group holds of each picked one
pub picked_each : (P : List ℕ → Type 0) (p : ℕ → Bool) (gs : List (List ℕ)) → ((g : ℕ) → g < length gs → P (group_at gs g))
    → (g : ℕ) → g < length (picked p gs) → P (group_at (picked p gs) g)
unfolding picked
picked_each P p gs h = collect_each P [] p (group_at gs) (length gs) (λ k l t. h k l)

-- no picked group is empty
pub picked_some : (p : ℕ → Bool) (gs : List (List ℕ)) → ((g : ℕ) → g < length gs → 0 < length (group_at gs g))
    → (g : ℕ) → g < length (picked p gs) → 0 < length (group_at (picked p gs) g)
picked_some p gs h = picked_each (λ xs. 0 < length xs) p gs h

pub picked_count : (p : ℕ → Bool) (gs : List (List ℕ)) → length (picked p gs) ≡ count_if p (length gs)
unfolding picked
picked_count p gs = collect_length p (group_at gs) (length gs)

-- tests that agree on the groups
pub picked_same : (p q : ℕ → Bool) (gs : List (List ℕ)) → ((g : ℕ) → g < length gs → p g ≡ q g) → picked p gs ≡ picked q gs
unfolding picked
picked_same p q gs h = fold_same p q (λ out g. out ++ (group_at gs g ∷ [])) (λ out g. out ++ (group_at gs g ∷ [])) [] (length gs) h (λ x k l. refl)

side_true : (b : Bool) → cond b true (not true) ≡ b
side_true true = refl
side_true false = refl

side_false : (b : Bool) → cond b false (not false) ≡ not b
side_false true = refl
side_false false = refl

-- the sides of the average
pub side_weak : (qs : List Float) (g : ℕ) → on_side qs (average qs) true g ≡ weak qs g
unfolding weak
side_weak qs g = side_true (lt (cells qs g) (average qs))

pub side_kept : (qs : List Float) (g : ℕ) → on_side qs (average qs) false g ≡ not (weak qs g)
unfolding weak
side_kept qs g = side_false (lt (cells qs g) (average qs))

pub qualities_length : (scores : List Float) (gs : List (List ℕ)) → length (qualities_of scores gs) ≡ length gs
qualities_length scores gs = length-map gs (quality_of scores)
