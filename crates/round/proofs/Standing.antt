-- A partition that stands in lists as its order, its sizes and its scores: the lists give it back.
use Prim.Native.Nat.{ℕ, ◌≤◌}
use mathlib.Core.Path.{◌≡◌, refl, sym, ◌∙◌, ap}
use mathlib.Core.List.{List}
use lib.ListN.{length}
use lib.Ieee.{Float}
use Rattle.partition.specs.Partition.{State, Partition, joined}
use Rattle.partition.specs.Orders.{Sized, sizes_of, cut}
use Rattle.partition.proofs.Cuts.{cut_joined, sized_of, groups_few}
use Rattle.improve_merge.specs.Steps.{state_of, PartitionLists}

module _ (m : ℕ) (s : State) (few : m ≤ 256) (p : Partition m s.groups) {count : ℕ} {order sizes : List ℕ} (c : count ≡ length s.groups)
    (o : order ≡ joined s.groups) (z : sizes ≡ sizes_of m s.groups) where
  pub stands_sized : Sized m count order sizes
  stands_sized = rw (c, o, z) (sized_of p few)

  pub stands_cut : cut count sizes order ≡ s.groups
  stands_cut = rw (c, o, z) (cut_joined s.groups m (groups_few p))

  pub stands_state : {scores : List Float} → scores ≡ s.scores → state_of count sizes order scores ≡ s
  stands_state q = rw (stands_cut, q) refl

  pub stands_parted : PartitionLists m count order sizes
  stands_parted = record { sized = stands_sized; parts = rw stands_cut p }

  -- no size stands behind those of the groups
  pub stands_plain : sizes ≡ sizes_of m (cut count sizes order)
  stands_plain = z ∙ ap (sizes_of m) (sym stands_cut)
