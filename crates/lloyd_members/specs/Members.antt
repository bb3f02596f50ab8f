-- Groups that have the same members by two lists of labels. Definitions only.
use Rattle.std.specs.Prelude.{ℕ, Bool, false, not, List, slice_index_or}
use Rattle.std.specs.Bool.{beq}
use Rattle.lists.specs.Lists.{numbers}
use Rattle.lists.specs.Sums.{all_to, in_group}

-- group l has the same members by both lists of labels
abbrev pub same_group : List ℕ → List ℕ → ℕ → ℕ → Bool
same_group a b m l = all_to (λ i. beq (in_group (numbers a) l i) (in_group (numbers b) l i)) m

-- whether an item is in group l by one of the lists alone
abbrev pub moved_mark : List ℕ → List ℕ → ℕ → ℕ → Bool
moved_mark a b m l = not (same_group a b m l)

-- a list of marks by its places; past its end there is none, and `false` stands there
abbrev pub mark_at : List Bool → ℕ → Bool
mark_at marks k = slice_index_or marks k false
