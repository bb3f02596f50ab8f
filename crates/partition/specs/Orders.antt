-- How groups stand in two lists: the order has the groups one after the other, the sizes how many members each has. Definitions only.
use Rattle.std.specs.Prelude.{ℕ, zero, suc, ◌+◌, ◌<◌, ◌≤◌, ◌≡◌, List, [], ◌∷◌, length, take, drop}
use Rattle.lists.specs.Lists.{listed, numbers}
use Rattle.partition.specs.Partition.{group_at}

-- the sizes, in a list of n numbers: 0 after the last group
abbrev pub sizes_of : ℕ → List (List ℕ) → List ℕ
sizes_of n gs = listed (λ g. length (group_at gs g)) n

-- the groups that stand in an order, by the first `count` sizes
unfoldable pub cut : ℕ → List ℕ → List ℕ → List (List ℕ)
cut zero sizes order = []
cut (suc c) sizes order = take (numbers sizes 0) order ∷ cut c (drop 1 sizes) (drop (numbers sizes 0) order)

-- f 0 + f 1 + .. + f (k - 1)
unfoldable pub total_to : (ℕ → ℕ) → ℕ → ℕ
total_to f zero = 0
total_to f (suc k) = total_to f k + f k

-- an order of m items, and the sizes of `count` groups that fill it
pub record Sized (m count : ℕ) (order sizes : List ℕ) : Type 0 where
  pub few : m ≤ 256
  pub items : length order ≡ m
  pub room : length sizes ≡ m
  pub groups : count ≤ m
  pub total : total_to (numbers sizes) count ≡ m
  pub below : (j : ℕ) → j < m → numbers order j < m
