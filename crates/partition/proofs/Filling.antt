-- The order and the sizes while the groups are appended, label by label.
use Prim.Native.Nat.{ℕ, ◌+◌, ◌-◌, ◌<◌, ◌≤◌}
use mathlib.Core.Path.{◌≡◌, refl, sym, ◌∙◌, ap}
use mathlib.Core.List.{List, [], ◌∷◌, ◌++◌}
use native.Mathlib.Omega.{arith}
use lib.ListN.{length, take, set, replicate, length-append, length-set, length-replicate}
use lib.Seq.{take_all}
use Rattle.lists.specs.Lists.{put}
use Rattle.lists.proofs.Parts.{put_to, put_length}
use Rattle.partition.specs.Partition.{joined, members, groups_of}
use Rattle.partition.specs.Orders.{sizes_of}
use Rattle.partition.proofs.Members.{joined-none}
use Rattle.partition.proofs.Groups.{groups_none, groups_in_lem, groups_out, groups_few_labels, groups_room, joined_groups, groups_partition}
use Rattle.partition.proofs.Cuts.{sizes-none, sizes_one, partition_length}

-- the groups of the labels below l stand at the front
pub record Grouped (label : ℕ → ℕ) (m l at count : ℕ) (order sizes : List ℕ) : Type 0 where
  pub long : length order ≡ m
  pub room : length sizes ≡ m
  pub ends : at ≡ length (joined (groups_of label m l))
  pub ordered : take at order ≡ joined (groups_of label m l)
  pub counts : count ≡ length (groups_of label m l)
  pub sized : sizes ≡ sizes_of m (groups_of label m l)

pub grouped_none : (label : ℕ → ℕ) (m : ℕ) (order sizes : List ℕ) → length order ≡ m → sizes ≡ replicate m 0 → Grouped label m 0 0 0 order sizes
grouped_none label m order sizes h e =
    let none = groups_none label m in
    record {
      long = h;
      room = ap length e ∙ length-replicate m 0;
      ends = rw (none, joined-none);
      ordered = rw (none, joined-none);
      counts = rw none;
      sized = rw none (sizes-none m e);
    }

module _ (label : ℕ → ℕ) (m l at count : ℕ) (order sizes : List ℕ) (s : Grouped label m l at count order sizes) where
  -- the members of label l fit behind
  pub grouped_fit : at + length (members label m l) ≤ length order
  grouped_fit = omega (arith, groups_room label m l, s.ends, s.long)

  -- there is a place for one more size
  pub grouped_place : l < m → count < m
  grouped_place h = omega (arith, groups_few_labels label m l, s.counts)

  module _ (new : List ℕ) (e : new ≡ put at (length (members label m l)) order (members label m l)) where
    new_long : length new ≡ m
    new_long = ap length e ∙ put_length at (length (members label m l)) order (members label m l) grouped_fit refl ∙ s.long

    new_ordered : take (at + length (members label m l)) new ≡ joined (groups_of label m (l + 1))
    new_ordered =
        ap (take (at + length (members label m l))) e
        ∙ put_to at (length (members label m l)) order (members label m l) grouped_fit refl
        ∙ ap (λ xs. xs ++ members label m l) s.ordered
        ∙ sym (joined_groups label m l)

    new_ends : at + length (members label m l) ≡ length (joined (groups_of label m (l + 1)))
    new_ends =
        ap (λ n. n + length (members label m l)) s.ends
        ∙ sym (length-append (joined (groups_of label m l)) (members label m l)) ∙ ap length (sym (joined_groups label m l))

    -- a label that no item has, and one with members: r is the place behind them
    module _ (r : ℕ) (q : r ≡ at + length (members label m l)) where
      pub grouped_same : r ≡ at → Grouped label m (l + 1) at count new sizes
      grouped_same h =
          let none : length (members label m l) ≡ 0 = omega arith in
          let kept : at ≡ at + length (members label m l) = omega arith in
          let same = groups_out label m l none in
          record {
            long = new_long;
            room = s.room;
            ends = kept ∙ new_ends;
            ordered = ap (λ n. take n new) kept ∙ new_ordered;
            counts = rw same s.counts;
            sized = rw same s.sized;
          }

      pub grouped_more : (r ≡ at → ⊥) → l < m → Grouped label m (l + 1) r (count + 1) new (set sizes count (r - at))
      grouped_more h k =
          let some : length (members label m l) ≡ 0 → ⊥ = λ z. h (omega arith) in
          let more = groups_in_lem label m l some in
          let few : length (groups_of label m l) < m = omega (arith, groups_few_labels label m l) in
          let size : r - at ≡ length (members label m l) = omega arith in
          record {
            long = new_long;
            room = length-set sizes count (r - at) ∙ s.room;
            ends = q ∙ new_ends;
            ordered = ap (λ n. take n new) q ∙ new_ordered;
            counts = ap (λ n. n + 1) s.counts ∙ sym (length-append (groups_of label m l) (members label m l ∷ [])) ∙ ap length (sym more);
            sized = rw (s.sized, s.counts, more) (sizes_one m (groups_of label m l) (members label m l) (r - at) few size);
          }

-- all labels are done, and all are below m
pub grouped_all : (label : ℕ → ℕ) (m at count : ℕ) (order sizes : List ℕ) → Grouped label m m at count order sizes → ((i : ℕ) → i < m → label i < m)
    → order ≡ joined (groups_of label m m)
grouped_all label m at count order sizes s h =
    let full : at ≡ m = s.ends ∙ partition_length (groups_partition label m h) in
    sym (take_all at order (omega (arith, full, s.long))) ∙ s.ordered
