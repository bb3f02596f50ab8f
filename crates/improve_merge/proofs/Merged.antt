-- Laws of a partition whose weak groups were clustered again.
use Prim.Native.Nat.{ℕ, ◌<◌, ◌≤◌}
use mathlib.Core.Path.{◌≡◌, sym, ◌∙◌, ap, subst}
use mathlib.Core.Bool.{Bool, not}
use mathlib.Core.List.{List, ◌++◌, map}
use native.Mathlib.Omega.{arith}
use lib.ListN.{length, length-map}
use Rattle.lists.specs.Lists.{numbers}
use Rattle.lists.specs.Sums.{count_if}
use Rattle.partition.specs.Partition.{Partition, State, joined, times}
use Rattle.partition.proofs.Members.{Below, groups_fewer, joined_append, times-append, below_append}
use Rattle.partition.proofs.Cuts.{partition_length}
use Rattle.partition.proofs.Moved.{some_append, some_map, below-map, joined_map, times_moved}
use Rattle.quality.proofs.Splits.{picked_times, picked_below, picked_some, picked_fewer, picked_count}
use Rattle.quality.specs.Quality.{quality_of, qualities_of, weak, weak_count, picked, kept_groups}
use Rattle.improve_merge.specs.Merging.{weak_items, translated, merged_of}

-- the weak items are no more than the items
pub weak_few : (m : ℕ) (s : State) → Partition m s.groups → length (weak_items s) ≤ m
unfolding weak_items
weak_few m s h = omega (arith, partition_length h, picked_fewer (weak (qualities_of s.scores s.groups)) s.groups)

-- each of them is one of the items
pub weak_below : (m : ℕ) (s : State) → Partition m s.groups → (j : ℕ) → j < length (weak_items s) → numbers (weak_items s) j < m
unfolding weak_items
weak_below m s h = picked_below m (weak (qualities_of s.scores s.groups)) s.groups h.below

-- and they are at least as many as the weak groups
pub weak_many : (m : ℕ) (s : State) → Partition m s.groups → weak_count (qualities_of s.scores s.groups) ≤ length (weak_items s)
unfolding weak_items
weak_many m s h =
    let p = weak (qualities_of s.scores s.groups) in
    let same : length (qualities_of s.scores s.groups) ≡ length s.groups = length-map s.groups (quality_of s.scores) in
    let count : length (picked p s.groups) ≡ count_if p (length (qualities_of s.scores s.groups)) =
    picked_count p s.groups ∙ ap (count_if p) (sym same) in
    omega (arith, count, groups_fewer (picked p s.groups) (picked_some p s.groups h.some))

-- the kept groups and those of the weak items make a partition again
pub merged_partition : (m : ℕ) (s : State) (inner : List (List ℕ)) → Partition m s.groups → Partition (length (weak_items s)) inner → Partition m (merged_of s inner)
unfolding merged_of weak_items
merged_partition m s inner h k =
    record {
      some = some_append kept new (picked_some (λ g. not (p g)) s.groups h.some) (some_map (numbers items) inner k.some);
      below = subst (Below m) (sym parts) (below_append m (joined kept) (map (numbers items) (joined inner)) (picked_below m (λ g. not (p g)) s.groups h.below)
          (below-map m (length items) (numbers items) (joined inner) k.below (weak_below m s h)));
      once = λ i l.
          omega (
            arith,
            ap (times i) parts,
            times-append i (joined kept) (map (numbers items) (joined inner)),
            times_moved i items (joined inner) k.below k.once,
            picked_times p s.groups i,
            h.once i l,
          );
    }
  where
    p : ℕ → Bool
    p = weak (qualities_of s.scores s.groups)

    items : List ℕ
    items = weak_items s

    kept : List (List ℕ)
    kept = kept_groups s.scores s.groups

    new : List (List ℕ)
    new = translated items inner

    parts : joined (kept ++ new) ≡ joined kept ++ map (numbers items) (joined inner)
    parts = joined_append kept new ∙ ap (λ (l : List ℕ). joined kept ++ l) (joined_map (numbers items) inner)
