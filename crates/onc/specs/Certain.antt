-- What is certain of every call of the grouping, whatever its book holds, NaNs and infinities included. Definitions only; `certain` in proofs/Certain.antt
-- proves it. What is certain of scores worked out afresh under other labels is AfreshClaim in certain_holes/specs/Claim.antt.
use Rattle.std.specs.Prelude.{ℕ, ◌*◌, ◌<◌, ◌≤◌, ◌≡◌, true, List, length, Float}
use Rattle.lists.specs.Lists.{numbers, cells, cell_at}
use Rattle.partition.specs.Partition.{joined, group_at, has, times}
use Rattle.certain_holes.specs.Claim.{FromTo}
use Rattle.certain_runs.specs.Certain.{NotKept}
use Rattle.onc_run.specs.Run.{Lists, Outcome}
use Rattle.onc.specs.Onc.{group_of}
use Rattle.onc.specs.Demands.{Within, outputs, groups_in}

-- A grouping of n names: each number below the count of groups is that of a group with a member, whose size is told, and no other number is; the order is
-- the groups one after the other, each name stands in it once, and it is in one group and in no other; the ordered matrix is the book's rows and columns in
-- that order; and each score, one for each name, is from -1 to 1, which a NaN is not
pub record CertainGrouping (book : List Float) (n : ℕ) (o : Outcome) : Type 0 where
  pub no_empty : (g : ℕ) → g < o.answer.groups → 0 < numbers o.lists.sizes g
  pub sized : (g : ℕ) → g < o.answer.groups → numbers o.lists.sizes g ≡ length (group_at (groups_in (outputs o)) g)
  pub no_more : (g : ℕ) → o.answer.groups ≤ g → numbers o.lists.sizes g ≡ 0
  pub concatenated : joined (groups_in (outputs o)) ≡ o.lists.order
  pub names : length o.lists.order ≡ n
  pub once : (i : ℕ) → i < n → times i o.lists.order ≡ 1
  pub one_group : (i : ℕ) → i < n
      → (g : ℕ) × (g < o.answer.groups) × (has (group_at (groups_in (outputs o)) g) i ≡ true) × ((h : ℕ) → has (group_at (groups_in (outputs o)) h) i ≡ true → h ≡ g)
  pub square : length o.lists.ordered ≡ n * n
  pub matrix : (i j : ℕ) → i < n → j < n → cell_at o.lists.ordered n i j ≡ cell_at book n (numbers o.lists.order i) (numbers o.lists.order j)
  pub scored : length o.lists.scores ≡ n
  pub scores : (i : ℕ) → i < n → FromTo (cells o.lists.scores i)

-- Within the limits every grouping is such a one; a re-clustering one of whose scores is a NaN is not kept, in any round of any run; and no call answers 3
pub record CertainClaim : Type 0 where
  pub grouping : (book : List Float) (n repeat : ℕ) (draws : List ℕ) (l : Lists) → Within book n repeat l
      → (group_of book n n repeat draws l).answer.refused.number ≡ 0 → CertainGrouping book n (group_of book n n repeat draws l)
  pub not_kept : NotKept
  pub never_3 : (book : List Float) (rows cols repeat : ℕ) (draws : List ℕ) (l : Lists) → (group_of book rows cols repeat draws l).answer.refused.number ≡ 3 → ⊥
