-- Groups as lists of row numbers, in the order of their labels: group 0, group 1, and so on. Definitions only.
use Rattle.std.specs.Prelude.{ℕ, suc, ◌<◌, ◌≡◌, Bool, false, cond, not, ◌||◌, List, [], ◌∷◌, ◌++◌, eqb, length, get_or, Float}
use Rattle.lists.specs.Lists.{numbers}
use Rattle.lists.specs.Sums.{fold_if}

-- the groups one after the other
unfoldable pub joined : List (List ℕ) → List ℕ
joined [] = []
joined (g ∷ gs) = g ++ joined gs

-- group g; past the last there is none, and an empty list stands there
abbrev pub group_at : List (List ℕ) → ℕ → List ℕ
group_at gs g = get_or gs g []

-- the members of the group with label l, of m items, by rising row
abbrev pub members : (ℕ → ℕ) → ℕ → ℕ → List ℕ
members label m l = fold_if (λ i. eqb (label i) l) (λ is i. is ++ (i ∷ [])) [] m

-- whether any item has the label l
abbrev pub occupied : (ℕ → ℕ) → ℕ → ℕ → Bool
occupied label m l = not (eqb (length (members label m l)) 0)

-- the groups of the labels below k, in label order, without those that have no member
unfoldable pub groups_of : (ℕ → ℕ) → ℕ → ℕ → List (List ℕ)
groups_of label m k = fold_if (occupied label m) (λ gs l. gs ++ (members label m l ∷ [])) [] k

-- whether i is in the list
unfoldable pub has : List ℕ → ℕ → Bool
has [] i = false
has (x ∷ xs) i = eqb x i || has xs i

-- the label of item i: the number of the group that has it
unfoldable pub label_of : List (List ℕ) → ℕ → ℕ
label_of gs i = fold_if (λ g. has (group_at gs g) i) (λ l g. g) 0 (length gs)

-- how often i stands in the list
unfoldable pub times : ℕ → List ℕ → ℕ
times i [] = 0
times i (x ∷ xs) = cond (eqb x i) (suc (times i xs)) (times i xs)

-- no group is empty, every member is one of the m items, and each item is in exactly one group
pub record Partition (m : ℕ) (gs : List (List ℕ)) : Type 0 where
  pub some : (g : ℕ) → g < length gs → 0 < length (group_at gs g)
  pub below : (j : ℕ) → j < length (joined gs) → numbers (joined gs) j < m
  pub once : (i : ℕ) → i < m → times i (joined gs) ≡ 1

-- the groups of a round, and the score of each of its items
pub record State : Type 0 where
  pub groups : List (List ℕ)
  pub scores : List Float
