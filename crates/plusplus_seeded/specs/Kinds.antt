-- The kinds of draws, for the claims about the draws of a seed: what a generator gives for a list of kinds, and which kind a seeding takes each of its draws as.
-- Definitions only.
use Rattle.std.specs.Prelude.{ℕ, ◌+◌, ◌-◌, ◌*◌, ◌<◌, ◌≡◌, cond, List, [], ◌∷◌, length, drop, get_or, Float}
use Rattle.std.specs.Float.Ieee.{lt}
use Rattle.lists.specs.Sums.{zero64, sum_to}
use Rattle.draws.specs.Counts.{trials_of}
use Rattle.draws.specs.Draws.{drawn}
use Rattle.plusplus.specs.Seeding.{first_centres}
use Rattle.plusplus.specs.Ranges.{weight_to}
use Rattle.rng_std.specs.Words.{Taken, index_from, share_from}

-- an index below m, or a share
pub data Kind : Type 0 where
  an_index : ℕ → Kind
  a_share : Kind

-- the generator's next draw of a kind, from its word i on, and the place of the next word; w are its words
abbrev pub next_by : (ℕ → ℕ) → Kind → ℕ → Taken
next_by w (an_index m) i = index_from w m i
next_by w a_share i = share_from w i

-- draws of these kinds, one after the other, from word i on: each starts at the word behind the one before it
unfoldable pub draws_of_kinds : (ℕ → ℕ) → List Kind → ℕ → List ℕ
draws_of_kinds w [] i = []
draws_of_kinds w (k ∷ ks) i = (next_by w k i).value ∷ draws_of_kinds w ks (next_by w k i).next

-- the kind at place p of a list, which has such a place
abbrev pub HasKind : List Kind → ℕ → Kind → Type 0
HasKind ks p kind = (p < length ks) × (get_or ks p a_share ≡ kind)

-- with this total of the weights the trials for a centre among m items take a share if it is above 0, and else an index
abbrev pub kind_of : Float → ℕ → Kind
kind_of total m = cond (lt zero64 total) a_share (an_index m)

-- The seeding of k centres among m items that starts at place `at` of `draws` takes the draw at place p as one of this kind. Its first draw is an index. Those
-- for a further centre, one for each trial, go by the total weight, with the centres cs chosen before. (As in `OutOfRange`, plusplus/specs/Ranges.antt.)
pub data KindAt (q : ℕ → ℕ → Float) (m k at : ℕ) (draws : List ℕ) : ℕ → Kind → Type 0 where
  first : KindAt q m k at draws at (an_index m)
  trial : (j i : ℕ) (cs : List ℕ) → j < k - 1 → i < trials_of k
      → first_centres q m k j at (drop at draws) ≡ drawn cs (drop (at + 1 + j * trials_of k) draws)
      → KindAt q m k at draws (at + 1 + j * trials_of k + i) (kind_of (sum_to (weight_to q cs) m) m)
