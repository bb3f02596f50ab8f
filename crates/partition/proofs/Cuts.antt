-- Groups that are cut from an order by their sizes, and the sizes of given groups.
use Prim.Native.Nat.{ℕ, zero, suc, ◌+◌, ◌<◌, ◌≤◌}
use mathlib.Core.Path.{◌≡◌, refl, sym, ◌∙◌, ap}
use mathlib.Core.List.{List, [], ◌∷◌, ◌++◌}
use mathlib.Core.Logic.{by_cases}
use native.Mathlib.Omega.{arith}
use native.Mathlib.Decide.{dec_lt}
use lib.ListN.{length, drop, set, replicate, length-append, length-drop, take-append-drop, get_or-append, get_or-eq_default}
use lib.Seq.{take_at, drop_at, get_or_at}
use Rattle.lists.specs.Lists.{numbers, part}
use Rattle.lists.proofs.Listed.{length-listed, get_d_listed, listed_set, listed_const}
use Rattle.lists.proofs.Parts.{part_drop, part_length, get_d_part}
use Rattle.partition.specs.Partition.{joined, group_at, times, Partition}
use Rattle.partition.specs.Orders.{sizes_of, cut, total_to, Sized}
use Rattle.partition.proofs.Totals.{total_first, total_same, total_le, total_more, total-one}
use Rattle.partition.proofs.Members.{length_joined, groups_fewer, Below, times_total}

pub cut-length : (count : ℕ) (sizes order : List ℕ) → length (cut count sizes order) ≡ count
unfolding cut
cut-length zero sizes order = refl
cut-length (suc c) sizes order = ap suc (cut-length c (drop 1 sizes) (drop (numbers sizes 0) order))

next_number : (sizes : List ℕ) (g : ℕ) → numbers (drop 1 sizes) g ≡ numbers sizes (suc g)
next_number [] g = refl
next_number (s ∷ sizes) g = refl

-- group g is the part of the order behind the groups before it
pub cut_at : (count : ℕ) (sizes order : List ℕ) (g : ℕ) → g < count → group_at (cut count sizes order) g ≡ part (total_to (numbers sizes) g) (numbers sizes g) order
unfolding cut total_to
cut_at zero sizes order g h = absurd (omega arith)
cut_at (suc c) sizes order zero h = refl
cut_at (suc c) sizes order (suc g) h =
    let s = numbers sizes 0 in
    let behind : s + total_to (numbers (drop 1 sizes)) g ≡ total_to (numbers sizes) (suc g) =
    ap (λ n. s + n) (total_same (numbers (drop 1 sizes)) (λ k. numbers sizes (suc k)) g (λ k l. next_number sizes k)) ∙ sym (total_first (numbers sizes) g) in
    cut_at c (drop 1 sizes) (drop s order) g (omega arith)
    ∙ part_drop s (total_to (numbers (drop 1 sizes)) g) (numbers (drop 1 sizes) g) order
    ∙ ap (λ a. part a (numbers (drop 1 sizes) g) order) behind
    ∙ ap (λ k. part (total_to (numbers sizes) (suc g)) k order) (next_number sizes g)

cut_by : (gs : List (List ℕ)) (sizes : List ℕ) → ((g : ℕ) → g < length gs → numbers sizes g ≡ length (group_at gs g)) → cut (length gs) sizes (joined gs) ≡ gs
unfolding cut joined
cut_by [] sizes h = refl
cut_by (g ∷ gs) sizes h =
    let first : length g ≡ numbers sizes 0 = sym (h 0 (omega arith)) in
    let rest : cut (length gs) (drop 1 sizes) (joined gs) ≡ gs = cut_by gs (drop 1 sizes) (λ k l. next_number sizes k ∙ h (suc k) (omega arith)) in
    rw (take_at g (joined gs) (numbers sizes 0) first, drop_at g (joined gs) (numbers sizes 0) first, rest)

sizes_at : (m : ℕ) (gs : List (List ℕ)) → length gs ≤ m → (g : ℕ) → g < length gs → numbers (sizes_of m gs) g ≡ length (group_at gs g)
sizes_at m gs h g l = get_d_listed (λ k. length (group_at gs k)) m g 0 (omega arith)

-- the groups cut from their own order and sizes
pub cut_joined : (gs : List (List ℕ)) (m : ℕ) → length gs ≤ m → cut (length gs) (sizes_of m gs) (joined gs) ≡ gs
cut_joined gs m h = cut_by gs (sizes_of m gs) (sizes_at m gs h)

-- a partition has m items, and at most m groups
pub partition_length : {m : ℕ} {gs : List (List ℕ)} → Partition m gs → length (joined gs) ≡ m
partition_length {m} {gs} p = sym (times_total m (joined gs) p.below) ∙ total-one (λ i. times i (joined gs)) m p.once

pub groups_few : {m : ℕ} {gs : List (List ℕ)} → Partition m gs → length gs ≤ m
groups_few {m} {gs} p = omega (arith, groups_fewer gs p.some, partition_length p)

-- how a partition stands in an order and its sizes
pub sized_of : {m : ℕ} {gs : List (List ℕ)} → Partition m gs → m ≤ 256 → Sized m (length gs) (joined gs) (sizes_of m gs)
sized_of {m} {gs} p h = record {
  few = h;
  items = partition_length p;
  room = length-listed (λ g. length (group_at gs g)) m;
  groups = groups_few p;
  total = total_same (numbers (sizes_of m gs)) (λ g. length (group_at gs g)) (length gs) (sizes_at m gs (groups_few p)) ∙ sym (length_joined gs) ∙ partition_length p;
  below = λ j l. p.below j (omega (arith, partition_length p));
}

-- group g of a sized order ends within it
pub sized_end : {m count : ℕ} {order sizes : List ℕ} → Sized m count order sizes → (g : ℕ) → g < count → total_to (numbers sizes) g + numbers sizes g ≤ m
sized_end {m} {count} {order} {sizes} s g l =
    omega (arith, total_more (numbers sizes) g, total_le (numbers sizes) (g + 1) count (omega arith), s.total)

-- the items of a part are below m
pub part_below : (m a k : ℕ) (order : List ℕ) → ((j : ℕ) → j < m → numbers order j < m) → a + k ≤ m → length order ≡ m → Below m (part a k order)
part_below m a k order b h e j l =
    let inside : j < k = omega (arith, part_length a k order (omega arith)) in
    rw (get_d_part a k order j 0 inside) (b (a + j) (omega arith))

-- no groups: each size is 0
pub sizes-none : (n : ℕ) {xs : List ℕ} → xs ≡ replicate n 0 → xs ≡ sizes_of n []
sizes-none n e = e ∙ sym (listed_const 0 n)

group_kept : (gs : List (List ℕ)) (g : List ℕ) (k : ℕ) → (k ≡ length gs → ⊥) → group_at gs k ≡ group_at (gs ++ (g ∷ [])) k
group_kept gs g k h =
    by_cases (dec_lt k (length gs))
    (λ l. sym (get_or-append gs (g ∷ []) [] k l))
    (λ l.
    let far : length gs ≤ k = omega arith in
    let further : length (gs ++ (g ∷ [])) ≤ k = omega (arith, length-append gs (g ∷ [])) in
    get_or-eq_default gs [] far ∙ sym (get_or-eq_default (gs ++ (g ∷ [])) [] further))

-- one more group: its size is stored behind the others
pub sizes_one : (n : ℕ) (gs : List (List ℕ)) (g : List ℕ) (v : ℕ) → length gs < n → v ≡ length g → set (sizes_of n gs) (length gs) v ≡ sizes_of n (gs ++ (g ∷ []))
sizes_one n gs g v l e =
    listed_set 0 (λ k. length (group_at gs k)) (λ k. length (group_at (gs ++ (g ∷ [])) k)) n (length gs) v l
    (e ∙ ap length (sym (get_or_at gs g [] [] (length gs) refl)))
    (λ k q h. ap length (group_kept gs g k h))

-- the part of the order that a loop over the groups takes at group g
pub cut_part : (count : ℕ) (sizes order : List ℕ) (g : ℕ) {at k : ℕ} → g < count → at ≡ total_to (numbers sizes) g → k ≡ numbers sizes g
    → part at k order ≡ group_at (cut count sizes order) g
cut_part count sizes order g l e q = rw (e, q) (sym (cut_at count sizes order g l))

-- the place behind it
pub total_next : (f : ℕ → ℕ) (g : ℕ) {at : ℕ} → at ≡ total_to f g → at + f g ≡ total_to f (g + 1)
total_next f g e = ap (λ n. n + f g) e ∙ sym (total_more f g)

-- the groups that are cut from an order fill it
pub cut_order : (count : ℕ) (sizes order : List ℕ) → total_to (numbers sizes) count ≡ length order → joined (cut count sizes order) ≡ order
unfolding cut joined total_to
cut_order zero sizes [] e = refl
cut_order zero sizes (x ∷ order) e = absurd (omega (arith, e))
cut_order (suc c) sizes order e =
    let shift : total_to (numbers (drop 1 sizes)) c ≡ total_to (λ k. numbers sizes (suc k)) c = total_same (numbers (drop 1 sizes)) (λ k. numbers sizes (suc k)) c (λ k h. next_number sizes k) in
    let rest : total_to (numbers (drop 1 sizes)) c ≡ length (drop (numbers sizes 0) order) = simp length-drop (omega (arith, shift, e, total_first (numbers sizes) c)) in
    rw (cut_order c (drop 1 sizes) (drop (numbers sizes 0) order) rest) (take-append-drop (numbers sizes 0) order)
