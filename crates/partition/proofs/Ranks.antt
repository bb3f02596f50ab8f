-- The labels of the groups of labels: the labels that items have, numbered from 0 in their order.
use Prim.Native.Nat.{ℕ, ◌<◌}
use mathlib.Core.Path.{◌≡◌, refl, ap}
use mathlib.Core.Bool.{true, not}
use mathlib.Core.List.{[]}
use native.Mathlib.Omega.{arith}
use borrow.Author.Tests.{ne_eqb}
use lib.ListN.{length}
use Rattle.lists.specs.Sums.{count_if}
use Rattle.partition.specs.Partition.{group_at, members, occupied, groups_of, has, label_of}
use Rattle.partition.proofs.Collected.{collect_length, collect_at}
use Rattle.partition.proofs.Members.{times_has}
use Rattle.partition.proofs.Groups.{members_room, times_own, groups_partition}
use Rattle.partition.proofs.Labels.{label_is}

-- an item's label has a member, which is the item
pub label_occupied : (label : ℕ → ℕ) (m i : ℕ) → i < m → occupied label m (label i) ≡ true
label_occupied label m i h =
    let some : length (members label m (label i)) ≡ 0 → ⊥ = λ e. omega (arith, members_room label i m (label i) h refl) in
    ap not (ne_eqb (length (members label m (label i))) 0 some)

has_own : (label : ℕ → ℕ) (m i : ℕ) → i < m → has (members label m (label i)) i ≡ true
has_own label m i h = times_has (members label m (label i)) i (omega (arith, times_own label m i h))

-- how many labels below l are occupied: the number of the group of l
abbrev pub rank : (ℕ → ℕ) → ℕ → ℕ → ℕ
rank label m l = count_if (occupied label m) l

pub group_ranked : (label : ℕ → ℕ) (m k l : ℕ) → l < k → occupied label m l ≡ true → group_at (groups_of label m k) (rank label m l) ≡ members label m l
unfolding groups_of
group_ranked label m k l h t =
    rw (← collect_length (occupied label m) (members label m) l) (collect_at [] (occupied label m) (members label m) k l h t)

-- labels below m: an item's label by the groups is the rank of its label
pub label_ranked : (label : ℕ → ℕ) (m : ℕ) → ((i : ℕ) → i < m → label i < m) → (i : ℕ) → i < m → label_of (groups_of label m m) i ≡ rank label m (label i)
label_ranked label m h i l =
    label_is (groups_partition label m h) (rank label m (label i)) i
    (rw (group_ranked label m m (label i) (h i l) (label_occupied label m i l)) (has_own label m i l))
