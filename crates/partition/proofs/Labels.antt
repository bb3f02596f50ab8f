-- Labels from groups.
use Prim.Native.Nat.{ℕ, zero, suc, ◌+◌, ◌<◌, ◌≤◌}
use mathlib.Core.Path.{◌≡◌, refl, sym, ◌∙◌, ap}
use mathlib.Core.Bool.{Bool, true, false, cond}
use mathlib.Core.List.{List, [], ◌∷◌, ◌++◌}
use mathlib.Core.Logic.{⊎_elim, by_cases}
use native.Mathlib.Omega.{arith}
use native.Mathlib.Nat.{eq-or-lt_of_le}
use native.Mathlib.Numerals.{add-one}
use native.Mathlib.Decide.{dec_lt}
use borrow.Author.Tests.{eq-eqb, ne_eqb}
use lib.ListN.{length, take, set, replicate}
use lib.Seq.{take-suc, take_all}
use Rattle.lists.specs.Lists.{numbers, listed}
use Rattle.lists.specs.Sums.{fold_if}
use Rattle.lists.proofs.Tests.{impossible, or-true, or-false}
use Rattle.lists.proofs.Listed.{get_d_listed, listed_set, listed_same, listed_const, listed_cells}
use Rattle.partition.specs.Partition.{joined, group_at, has, label_of, times, Partition}
use Rattle.partition.specs.Orders.{total_to}
use Rattle.partition.proofs.Totals.{total_two}
use Rattle.partition.proofs.Members.{joined-none, count_joined, has_append, has_times, has_below, times-append, times_none, below_group}
use Rattle.partition.proofs.Cuts.{partition_length}

-- the item that was put last is in the list, and any other is where it was before
has_last : (xs : List ℕ) (x : ℕ) → has (xs ++ (x ∷ [])) x ≡ true
unfolding has
has_last xs x = has_append xs (x ∷ []) x ∙ rw (eq-eqb x x refl) (or-true (has xs x))

has_other : (xs : List ℕ) (x k : ℕ) → (x ≡ k → ⊥) → has (xs ++ (x ∷ [])) k ≡ has xs k
unfolding has
has_other xs x k h = has_append xs (x ∷ []) k ∙ rw (ne_eqb x k h) (or-false (has xs k))

take_next : (ms : List ℕ) (j : ℕ) → j < length ms → take (j + 1) ms ≡ take j ms ++ (numbers ms j ∷ [])
take_next ms j l = rw add-one (take-suc ms j 0 l)

-- g for the first j members, and the labels as they were for all others
abbrev pub labelled : List ℕ → ℕ → List ℕ → ℕ → List ℕ
labelled ms g ls j = listed (λ i. cond (has (take j ms) i) g (numbers ls i)) (length ls)

pub labelled_none : (ms : List ℕ) (g : ℕ) (ls : List ℕ) → ls ≡ labelled ms g ls 0
unfolding has
labelled_none ms g ls = sym (listed_cells 0 ls)

pub labelled_more : (ms : List ℕ) (g : ℕ) (ls : List ℕ) (j : ℕ) {xs : List ℕ} → xs ≡ labelled ms g ls j → j < length ms → numbers ms j < length ls
    → set xs (numbers ms j) g ≡ labelled ms g ls (j + 1)
labelled_more ms g ls j e l h =
    let x = numbers ms j in
    rw (e, take_next ms j l)
    (listed_set 0 (λ i. cond (has (take j ms) i) g (numbers ls i)) (λ i. cond (has (take j ms ++ (x ∷ [])) i) g (numbers ls i)) (length ls) x g h
    (rw (has_last (take j ms) x))
    (λ k m q. rw (has_other (take j ms) x k (λ r. q (sym r)))))

pub labelled_all : (ms : List ℕ) (g : ℕ) (ls : List ℕ) (j : ℕ) {xs : List ℕ} → xs ≡ labelled ms g ls j → j ≡ length ms
    → xs ≡ listed (λ i. cond (has ms i) g (numbers ls i)) (length ls)
labelled_all ms g ls j e l =
    e ∙ ap (λ (t : List ℕ). listed (λ i. cond (has t i) g (numbers ls i)) (length ls)) (take_all j ms (omega arith))

-- the label of item i by the first n groups
abbrev pub label_to : List (List ℕ) → ℕ → ℕ → ℕ
label_to gs n i = fold_if (λ g. has (group_at gs g) i) (λ l g. g) 0 n

pub labels_none : (gs : List (List ℕ)) (m : ℕ) {xs : List ℕ} → xs ≡ replicate m 0 → xs ≡ listed (label_to gs 0) m
unfolding fold_if
labels_none gs m e = e ∙ sym (listed_const 0 m)

label_next : (gs : List (List ℕ)) (n i : ℕ) → label_to gs (n + 1) i ≡ cond (has (group_at gs n) i) n (label_to gs n i)
unfolding fold_if
label_next gs n i = rw add-one

-- one more group
pub labels_more : (gs : List (List ℕ)) (m n : ℕ) {xs ys ms : List ℕ} → xs ≡ listed (label_to gs n) m → length xs ≡ m → ms ≡ group_at gs n
    → ys ≡ listed (λ i. cond (has ms i) n (numbers xs i)) (length xs) → ys ≡ listed (label_to gs (n + 1)) m
labels_more gs m n {xs} {ys} {ms} e l q r =
    r ∙ rw (l, q, e)
    (listed_same 0 (λ i. cond (has (group_at gs n) i) n (numbers (listed (label_to gs n) m) i)) (label_to gs (n + 1)) m
    (λ k h. ap (λ x. cond (has (group_at gs n) k) n x) (get_d_listed (label_to gs n) m k 0 h) ∙ sym (label_next gs n k)))

pub labels_all : (gs : List (List ℕ)) (m n : ℕ) {xs : List ℕ} → xs ≡ listed (label_to gs n) m → n ≡ length gs → xs ≡ listed (label_of gs) m
unfolding label_of
labels_all gs m n e l = e ∙ ap (λ k. listed (label_to gs k) m) l

last_below : (p : ℕ → Bool) (n : ℕ) → fold_if p (λ l g. g) 0 (suc n) ≤ n
unfolding fold_if
last_below p zero = by_test (p 0)
  where
    by_test : (b : Bool) → cond b 0 0 ≤ 0
    by_test true = omega arith
    by_test false = omega arith
last_below p (suc n) = by_test (p (suc n)) (last_below p n)
  where
    by_test : (b : Bool) → fold_if p (λ l g. g) 0 (suc n) ≤ n → cond b (suc n) (fold_if p (λ l g. g) 0 (suc n)) ≤ suc n
    by_test true h = omega arith
    by_test false h = omega arith

label_below : (gs : List (List ℕ)) (i : ℕ) → 0 < length (joined gs) → label_of gs i < length gs
unfolding label_of
label_below [] i h = let z : length (joined []) ≡ 0 = ap length joined-none in absurd (omega arith)
label_below (g ∷ gs) i h = let z : label_to (g ∷ gs) (suc (length gs)) i ≤ length gs = last_below (λ k. has (group_at (g ∷ gs) k) i) (length gs) in omega arith

-- the labels of a partition are numbers of groups
pub labels_below : {m : ℕ} {gs : List (List ℕ)} → Partition m gs → 0 < m → (i : ℕ) → i < m → label_of gs i < length gs
labels_below {m} {gs} p h i l = label_below gs i (omega (arith, partition_length p))

-- the members of a partition's groups are its items
pub member_below : {m : ℕ} {gs : List (List ℕ)} → Partition m gs → (g i : ℕ) → has (group_at gs g) i ≡ true → i < m
member_below {m} {gs} p g i h = has_below m (group_at gs g) (below_group m gs p.below g) i h

-- a group that has a member is one of the groups
group_inside : (gs : List (List ℕ)) (g i : ℕ) → has (group_at gs g) i ≡ true → g < length gs
unfolding has
group_inside [] g i h = impossible h
group_inside (x ∷ gs) zero i h = omega arith
group_inside (x ∷ gs) (suc g) i h = let l : g < length gs = group_inside gs g i h in omega arith

-- an item is in one group only
not_later : {m : ℕ} {gs : List (List ℕ)} → Partition m gs → (g k i : ℕ) → g < k → has (group_at gs g) i ≡ true → has (group_at gs k) i ≡ true → ⊥
not_later {m} {gs} p g k i l a b =
    let all : times i (joined gs) ≡ total_to (λ n. times i (group_at gs n)) (length gs) = count_joined (times i) (times_none i) (times-append i) gs in
    let two = total_two (λ n. times i (group_at gs n)) (length gs) g k l (group_inside gs k i b) in
    omega (arith, p.once i (member_below p g i a), two, has_times (group_at gs g) i a, has_times (group_at gs k) i b)

same_group_lem : {m : ℕ} {gs : List (List ℕ)} → Partition m gs → (g k i : ℕ) → has (group_at gs g) i ≡ true → has (group_at gs k) i ≡ true → g ≡ k
same_group_lem p g k i a b =
    by_cases (dec_lt g k)
    (λ l. absurd (not_later p g k i l a b))
    (λ l. by_cases (dec_lt k g) (λ q. absurd (not_later p k g i q b a)) (λ q. omega arith))

-- the last place that passes, where no other does
last_is : (p : ℕ → Bool) (n g : ℕ) → g < n → p g ≡ true → ((k : ℕ) → p k ≡ true → k ≡ g) → fold_if p (λ l k. k) 0 n ≡ g
unfolding fold_if
last_is p zero g l h only = absurd (omega arith)
last_is p (suc n) g l h only = by_test (p n) refl (λ q. last_is p n g q h only)
  where
    by_test : (t : Bool) → p n ≡ t → (g < n → fold_if p (λ l k. k) 0 n ≡ g) → cond t n (fold_if p (λ l k. k) 0 n) ≡ g
    by_test true e before = only n e
    by_test false e before = ⊎_elim (λ q. impossible (sym e ∙ ap p (sym q) ∙ h)) before (eq-or-lt_of_le {n = g} {m = n} (omega arith))

-- the label of an item is the number of the group that has it
pub label_is : {m : ℕ} {gs : List (List ℕ)} → Partition m gs → (g i : ℕ) → has (group_at gs g) i ≡ true → label_of gs i ≡ g
unfolding label_of
label_is {m} {gs} p g i h = last_is (λ k. has (group_at gs k) i) (length gs) g (group_inside gs g i h) h (λ k e. same_group_lem p k g i e h)
