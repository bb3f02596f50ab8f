-- Which draws of a seeding are out of range, for the claims about a run that one of them ends. Definitions only.
use Rattle.std.specs.Prelude.{ℕ, ◌+◌, ◌-◌, ◌*◌, ◌^◌, ◌<◌, ◌≤◌, ◌≡◌, cond, drop, Float}
use mathlib.Core.List.{List, foldl}
use Rattle.std.specs.Float.{nan}
use Rattle.std.specs.Float.Ieee.{lt}
use Rattle.lists.specs.Lists.{numbers}
use Rattle.lists.specs.Sums.{zero64, sum_to}
use Rattle.draws.specs.Counts.{trials_of}
use Rattle.draws.specs.Draws.{drawn}
use Rattle.plusplus_pick.specs.Potentials.{lesser_number}
use Rattle.plusplus.specs.Seeding.{first_centres}

-- item i's weight: its least squared distance to one of the centres cs, a NaN giving way to a number
abbrev pub weight_to : (ℕ → ℕ → Float) → List ℕ → ℕ → Float
weight_to q cs i = foldl (λ w c. lesser_number w (q c i)) nan cs

-- The draw at a place of `draws` is out of range for the seeding of k centres, among m items, that starts at place `at`. Its first
-- draw is an index. The draws for a further centre, one for each trial, are shares if the total weight, with the centres cs chosen before, is above 0, and
-- else indexes. An index is out of range if it is not below m, a share if it is not below 2 ^ 53.
pub data OutOfRange (q : ℕ → ℕ → Float) (m k at : ℕ) (draws : List ℕ) : ℕ → Type 0 where
  first : m ≤ numbers draws at → OutOfRange q m k at draws at
  trial : (j i : ℕ) (cs : List ℕ) → j < k - 1 → i < trials_of k
      → first_centres q m k j at (drop at draws) ≡ drawn cs (drop (at + 1 + j * trials_of k) draws)
      → cond (lt zero64 (sum_to (weight_to q cs) m)) (2 ^ 53) m ≤ numbers draws (at + 1 + j * trials_of k + i)
      → OutOfRange q m k at draws (at + 1 + j * trials_of k + i)
