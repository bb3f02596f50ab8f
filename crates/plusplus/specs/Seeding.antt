-- k-means++ seeding (Arthur and Vassilvitskii 2007): k centres among m items, with q p i the squared distance of items p and i. Definitions only.
use Rattle.std.specs.Prelude.{ℕ, zero, suc, ◌+◌, ◌-◌, ◌*◌, ◌<◌, ◌≤◌, ◌≡◌, List, [], ◌∷◌, ◌++◌, Result, Ok, Err, length, Float}
use Rattle.lists.specs.Lists.{cells, listed, numbers}
use Rattle.draws.specs.Counts.{trials_of, seeding_of}
use Rattle.draws.specs.Draws.{Drawn, drawn, refused, index_draw, and_then}
use Rattle.draws.specs.declared.Stop.{Stop}
use Rattle.draws.specs.declared.Stop.TheVariants.{DrawOutOfRange}
use Rattle.plusplus_pick.specs.declared.Trial.{Trial}
use Rattle.plusplus_pick.specs.Potentials.{with}
use Rattle.plusplus_trials.specs.Trials.{next_of}

-- j centres more, behind cs, of t trials each; ws has the weights of the m items with cs as centres
unfoldable pub centres_of : (ℕ → ℕ → Float) → ℕ → ℕ → ℕ → List Float → List ℕ → ℕ → List ℕ → Drawn (List ℕ)
centres_of q m t zero ws cs at ds = drawn cs ds
centres_of q m t (suc j) ws cs at ds =
    and_then (next_of q m t ws at ds) (λ b rest. centres_of q m t j (listed (with q (cells ws) b.pick) m) (cs ++ (b.pick ∷ [])) (at + t) rest)

-- of k centres the first and j more, and the draws that remain, or the place of a draw out of range; `at` is the place of the first draw
abbrev pub first_centres : (ℕ → ℕ → Float) → ℕ → ℕ → ℕ → ℕ → List ℕ → Drawn (List ℕ)
first_centres q m k j at ds = and_then (index_draw m at ds) (λ c rest. centres_of q m (trials_of k) j (listed (q c) m) (c ∷ []) (at + 1) rest)

-- all of them
unfoldable pub seeding : (ℕ → ℕ → Float) → ℕ → ℕ → ℕ → List ℕ → Drawn (List ℕ)
seeding q m k at ds = first_centres q m k (k - 1) at ds

-- the weights after the search for a centre; where a draw was out of range only their number is known
abbrev pub Weights : (ℕ → ℕ → Float) → ℕ → List Float → Drawn Trial → List Float → Type 0
Weights q m ws (drawn b rest) ws' = ws' ≡ listed (with q (cells ws) b.pick) m
Weights q m ws (refused p) ws' = Unit

-- the answer: the place of the next draw, which is `next`; or what ends the run
abbrev pub answer_of : ℕ → Drawn (List ℕ) → Result ℕ Stop
answer_of next (drawn cs rest) = Ok next
answer_of next (refused p) = Err (DrawOutOfRange p)

-- the list of centres after the call; where a draw was out of range only its length is known
abbrev pub CentresAfter : Drawn (List ℕ) → List ℕ → Type 0
CentresAfter (drawn cs rest) l = l ≡ cs
CentresAfter (refused p) l = Unit

-- every centre is an item
abbrev pub EachBelow : ℕ → List ℕ → Type 0
EachBelow m cs = (i : ℕ) → i < length cs → numbers cs i < m

-- k centres among m items, and draws enough for them from `at` on
pub record MaySeed (m k : ℕ) (draws : List ℕ) (at : ℕ) : Type 0 where
  pub two : 2 ≤ k
  pub names : k ≤ m
  pub enough : at + seeding_of k ≤ length draws

-- the same, with a table of the items
pub record Ready (squares : List Float) (m k : ℕ) (draws : List ℕ) (at : ℕ) : Type 0 where
  pub few : m ≤ 256
  pub square : length squares ≡ m * m
  pub asked : MaySeed m k draws at

-- what a call answers, and what it leaves
pub record SeededBy (r : Drawn (List ℕ)) (next : ℕ) (answer : Result ℕ Stop) (centres' : List ℕ) : Type 0 where
  pub answer_is : answer ≡ answer_of next r
  pub centres_are : CentresAfter r centres'
