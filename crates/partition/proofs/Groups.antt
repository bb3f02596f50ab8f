-- The groups of labels are a partition.
use Prim.Native.Nat.{ℕ, zero, suc, ◌+◌, ◌<◌, ◌≤◌}
use mathlib.Core.Path.{◌≡◌, refl, sym, ◌∙◌, ap}
use mathlib.Core.Bool.{true, not}
use mathlib.Core.List.{List, [], ◌∷◌, ◌++◌, append-nil}
use mathlib.Core.Logic.{⊎_elim, by_cases}
use native.Mathlib.Omega.{arith}
use native.Mathlib.Nat.{eq-or-lt_of_le}
use native.Mathlib.Numerals.{add-one}
use native.Mathlib.Decide.{ℕ_discrete, dec_lt}
use borrow.Author.Tests.{eq-eqb, ne_eqb, eqb-false, not-true}
use lib.Dec.{eqb}
use lib.ListN.{length, length-append}
use Rattle.lists.specs.Sums.{fold_if}
use Rattle.lists.proofs.Sums.{fold_in, fold_out}
use Rattle.partition.specs.Partition.{joined, group_at, members, occupied, groups_of, times, Partition}
use Rattle.partition.proofs.Collected.{collect_few, collect_less, collect_each}
use Rattle.partition.proofs.Totals.{total_ones}
use Rattle.partition.proofs.Members.{joined_one, joined-none, times-append, times_one, times_other, times_none, Below, below_none, below_append, times_total}

-- an item that is a member, and one that is not
pub members_in : (label : ℕ → ℕ) (i l : ℕ) → label i ≡ l → members label (i + 1) l ≡ members label i l ++ (i ∷ [])
members_in label i l e = fold_in (λ k. eqb (label k) l) (λ is k. is ++ (k ∷ [])) [] i (eq-eqb (label i) l e)

pub members_out : (label : ℕ → ℕ) (i l : ℕ) → (label i ≡ l → ⊥) → members label (i + 1) l ≡ members label i l
members_out label i l e = fold_out (λ k. eqb (label k) l) (λ is k. is ++ (k ∷ [])) [] i (ne_eqb (label i) l e)

pub members_none : (label : ℕ → ℕ) (l : ℕ) → members label 0 l ≡ []
unfolding fold_if
members_none label l = refl

-- there is room for one more member where all of them fit
pub members_room : (label : ℕ → ℕ) (i m l : ℕ) → i < m → label i ≡ l → length (members label i l) < length (members label m l)
members_room label i m l h e = collect_less (λ k. eqb (label k) l) (λ k. k) i m h (eq-eqb (label i) l e)

-- the members of a group are below m
members_below : (label : ℕ → ℕ) (m l : ℕ) → Below m (members label m l)
members_below label m l = collect_each (λ i. i < m) 0 (λ k. eqb (label k) l) (λ k. k) m (λ k h t. h)

-- how often an item is among the members, with one more item
times_in : (label : ℕ → ℕ) (n l i : ℕ) → label n ≡ l → times i (members label (suc n) l) ≡ times i (members label n l) + times i (n ∷ [])
times_in label n l i e =
    ap (λ k. times i (members label k l)) (sym (add-one n)) ∙ ap (times i) (members_in label n l e) ∙ times-append i (members label n l) (n ∷ [])

times_out : (label : ℕ → ℕ) (n l i : ℕ) → (label n ≡ l → ⊥) → times i (members label (suc n) l) ≡ times i (members label n l)
times_out label n l i e = ap (λ k. times i (members label k l)) (sym (add-one n)) ∙ ap (times i) (members_out label n l e)

-- the item is not among the first n
times_ahead : (label : ℕ → ℕ) (n l i : ℕ) → n ≤ i → times i (members label n l) ≡ 0
times_ahead label zero l i h = ap (times i) (members_none label l) ∙ times_none i
times_ahead label (suc n) l i h =
    let before : times i (members label n l) ≡ 0 = times_ahead label n l i (omega arith) in
    by_cases (ℕ_discrete (label n) l)
    (λ e. omega (arith, times_in label n l i e, before, times_other i n (λ q. omega arith)))
    (λ e. times_out label n l i e ∙ before)

-- an item has its own label only
times_else : (label : ℕ → ℕ) (n l i : ℕ) → (label i ≡ l → ⊥) → times i (members label n l) ≡ 0
times_else label zero l i h = ap (times i) (members_none label l) ∙ times_none i
times_else label (suc n) l i h =
    let before : times i (members label n l) ≡ 0 = times_else label n l i h in
    by_cases (ℕ_discrete (label n) l)
    (λ e. omega (arith, times_in label n l i e, before, times_other i n (λ q. h (ap label (sym q) ∙ e))))
    (λ e. times_out label n l i e ∙ before)

-- each item is once in the group of its label
pub times_own : (label : ℕ → ℕ) (n i : ℕ) → i < n → times i (members label n (label i)) ≡ 1
times_own label zero i h = absurd (omega arith)
times_own label (suc n) i h =
    ⊎_elim
    (λ q. rw (← q) (omega (arith, times_in label i (label i) i refl, times_ahead label i (label i) i (omega arith), times_one i)))
    (λ q.
    let before : times i (members label n (label i)) ≡ 1 = times_own label n i q in
    by_cases (ℕ_discrete (label n) (label i))
    (λ e. omega (arith, times_in label n (label i) i e, before, times_other i n (λ r. omega arith)))
    (λ e. times_out label n (label i) i e ∙ before))
    (eq-or-lt_of_le {n = i} {m = n} (omega arith))

-- a label that no item has adds no group, any other one group
pub groups_in_lem : (label : ℕ → ℕ) (m k : ℕ) → (length (members label m k) ≡ 0 → ⊥) → groups_of label m (k + 1) ≡ groups_of label m k ++ (members label m k ∷ [])
unfolding groups_of
groups_in_lem label m k e = fold_in (occupied label m) (λ gs l. gs ++ (members label m l ∷ [])) [] k (ap not (ne_eqb (length (members label m k)) 0 e))

pub groups_out : (label : ℕ → ℕ) (m k : ℕ) → length (members label m k) ≡ 0 → groups_of label m (k + 1) ≡ groups_of label m k
unfolding groups_of
groups_out label m k e = fold_out (occupied label m) (λ gs l. gs ++ (members label m l ∷ [])) [] k (ap not (eq-eqb (length (members label m k)) 0 e))

pub groups_none : (label : ℕ → ℕ) (m : ℕ) → groups_of label m 0 ≡ []
unfolding groups_of fold_if
groups_none label m = refl

-- at most one group for each label
pub groups_few_labels : (label : ℕ → ℕ) (m k : ℕ) → length (groups_of label m k) ≤ k
unfolding groups_of
groups_few_labels label m k = collect_few (occupied label m) (members label m) k

empty_list : (xs : List ℕ) → length xs ≡ 0 → xs ≡ []
empty_list [] e = refl
empty_list (x ∷ xs) e = let z : ⊥ = omega arith in absurd z

-- in both cases the members stand behind the groups before
pub joined_groups : (label : ℕ → ℕ) (m k : ℕ) → joined (groups_of label m (k + 1)) ≡ joined (groups_of label m k) ++ members label m k
joined_groups label m k =
    by_cases (ℕ_discrete (length (members label m k)) 0)
    (λ e. ap joined (groups_out label m k e) ∙ sym (append-nil (joined (groups_of label m k))) ∙ ap (λ l. joined (groups_of label m k) ++ l) (sym (empty_list (members label m k) e)))
    (λ e. ap joined (groups_in_lem label m k e) ∙ joined_one (groups_of label m k) (members label m k))

joined_suc : (label : ℕ → ℕ) (m k : ℕ) → joined (groups_of label m (suc k)) ≡ joined (groups_of label m k) ++ members label m k
joined_suc label m k = ap (λ n. joined (groups_of label m n)) (sym (add-one k)) ∙ joined_groups label m k

joined_zero : (label : ℕ → ℕ) (m : ℕ) → joined (groups_of label m 0) ≡ []
joined_zero label m = ap joined (groups_none label m) ∙ joined-none

groups_below : (label : ℕ → ℕ) (m k : ℕ) → Below m (joined (groups_of label m k))
groups_below label m zero = rw (joined_zero label m) (below_none m)
groups_below label m (suc k) = rw (joined_suc label m k) (below_append m (joined (groups_of label m k)) (members label m k) (groups_below label m k) (members_below label m k))

-- how often an item is in the groups of the labels below k
times_groups : (label : ℕ → ℕ) (m k i : ℕ) → times i (joined (groups_of label m (suc k))) ≡ times i (joined (groups_of label m k)) + times i (members label m k)
times_groups label m k i = ap (times i) (joined_suc label m k) ∙ times-append i (joined (groups_of label m k)) (members label m k)

times_later : (label : ℕ → ℕ) (m k i : ℕ) → k ≤ label i → times i (joined (groups_of label m k)) ≡ 0
times_later label m zero i h = ap (times i) (joined_zero label m) ∙ times_none i
times_later label m (suc k) i h =
    omega (arith, times_groups label m k i, times_later label m k i (omega arith), times_else label m k i (λ e. omega arith))

times_once : (label : ℕ → ℕ) (m k i : ℕ) → i < m → label i < k → times i (joined (groups_of label m k)) ≡ 1
times_once label m zero i l h = absurd (omega arith)
times_once label m (suc k) i l h =
    ⊎_elim
    (λ q. rw (← q) (omega (arith, times_groups label m (label i) i, times_later label m (label i) i (omega arith), times_own label m i l)))
    (λ q. omega (arith, times_groups label m k i, times_once label m k i l q, times_else label m k i (λ e. omega arith)))
    (eq-or-lt_of_le {n = label i} {m = k} (omega arith))

times_few : (label : ℕ → ℕ) (m k i : ℕ) → i < m → times i (joined (groups_of label m k)) ≤ 1
times_few label m k i l =
    by_cases (dec_lt (label i) k)
    (λ h. omega (arith, times_once label m k i l h))
    (λ h. omega (arith, times_later label m k i (omega arith)))

-- the groups fit m places, also with those of one more label
pub groups_fit : (label : ℕ → ℕ) (m k : ℕ) → length (joined (groups_of label m k)) ≤ m
groups_fit label m k =
    omega (arith, times_total m (joined (groups_of label m k)) (groups_below label m k), total_ones (λ i. times i (joined (groups_of label m k))) m (λ i l. times_few label m k i l))

pub groups_room : (label : ℕ → ℕ) (m k : ℕ) → length (joined (groups_of label m k)) + length (members label m k) ≤ m
groups_room label m k =
    omega (arith, groups_fit label m (k + 1), ap length (joined_groups label m k), length-append (joined (groups_of label m k)) (members label m k))

occupied_some : (n : ℕ) → not (eqb n 0) ≡ true → 0 < n
occupied_some n h = let some : n ≡ 0 → ⊥ = eqb-false n 0 (not-true (eqb n 0) h) in omega arith

groups_some : (label : ℕ → ℕ) (m k g : ℕ) → g < length (groups_of label m k) → 0 < length (group_at (groups_of label m k) g)
unfolding groups_of
groups_some label m k =
    collect_each (λ xs. 0 < length xs) [] (occupied label m) (members label m) k (λ l h t. occupied_some (length (members label m l)) t)

-- labels below m give a partition
pub groups_partition : (label : ℕ → ℕ) (m : ℕ) → ((i : ℕ) → i < m → label i < m) → Partition m (groups_of label m m)
groups_partition label m h = record {
  some = groups_some label m m;
  below = groups_below label m m;
  once = λ i l. times_once label m m i l (h i l);
}
