-- A seeding by a stream of words w, from its word i on: the draws, each the next of the stream by the rule for the kind that is then taken, the centres that
-- these draws make, and the place of the next word. q p i is the squared distance of items p and i, and there are m items. Definitions only.
use Rattle.std.specs.Prelude.{ℕ, zero, suc, ◌-◌, cond, List, [], ◌∷◌, ◌++◌, Float}
use Rattle.std.specs.Float.Ieee.{lt}
use Rattle.lists.specs.Lists.{cells, listed}
use Rattle.lists.specs.Sums.{zero64, sum_to}
use Rattle.draws.specs.Counts.{trials_of}
use Rattle.draws.specs.Draws.{Drawn, drawn, refused}
use Rattle.plusplus_pick.specs.declared.Trial.{Trial}
use Rattle.plusplus_pick.specs.Potentials.{with}
use Rattle.plusplus_trials.specs.Trials.{next_of}
use Rattle.rng_std.specs.Words.{Taken, index_from, share_from}

-- the place of the first word of draw j, where all draws go by one rule
unfoldable pub place_of : (ℕ → Taken) → ℕ → ℕ → ℕ
place_of rule zero i = i
place_of rule (suc j) i = (rule (place_of rule j i)).next

-- t draws by one rule
abbrev pub draws_by : (ℕ → Taken) → ℕ → ℕ → List ℕ
draws_by rule t i = listed (λ j. (rule (place_of rule j i)).value) t

-- the rule for the trials of a centre: with a total above 0 a share, else an index
abbrev pub rule_of : (ℕ → ℕ) → Float → ℕ → ℕ → Taken
rule_of w total m i = cond (lt zero64 total) (share_from w i) (index_from w m i)

-- what a seeding takes and makes, and the place of the next word
pub record Made : Type 0 where
  pub draws : List ℕ
  pub centres : List ℕ
  pub next : ℕ

-- one centre more in front, with its draws
abbrev pub onto : List ℕ → ℕ → Made → Made
onto ds c r = record { draws = ds ++ r.draws; centres = c ∷ r.centres; next = r.next }

-- what a search picks; a search by draws in range is not refused
abbrev pub pick_of : Drawn Trial → ℕ
pick_of (drawn b rest) = b.pick
pick_of (refused p) = 0

module _ (w : ℕ → ℕ) (q : ℕ → ℕ → Float) (m t : ℕ) where
  -- the rule for one centre more, where ws has the weights: their total decides
  abbrev pub centre_rule : List Float → ℕ → Taken
  centre_rule ws = rule_of w (sum_to (cells ws) m) m

  -- its t draws, and what they pick
  abbrev pub centre_draws : List Float → ℕ → List ℕ
  centre_draws ws i = draws_by (centre_rule ws) t i

  abbrev pub centre_of : List Float → ℕ → ℕ
  centre_of ws i = pick_of (next_of q m t ws 0 (centre_draws ws i))

  -- j centres more
  unfoldable pub more_made : ℕ → List Float → ℕ → Made
  more_made zero ws i = record { draws = []; centres = []; next = i }
  more_made (suc j) ws i =
      onto (centre_draws ws i) (centre_of ws i) (more_made j (listed (with q (cells ws) (centre_of ws i)) m) (place_of (centre_rule ws) t i))

-- k centres: an index draw, and the others
abbrev pub made_from : (ℕ → ℕ) → (ℕ → ℕ → Float) → ℕ → ℕ → Taken → Made
made_from w q m k d = onto (d.value ∷ []) d.value (more_made w q m (trials_of k) (k - 1) (listed (q d.value) m) d.next)

unfoldable pub seed_made : (ℕ → ℕ) → (ℕ → ℕ → Float) → ℕ → ℕ → ℕ → Made
seed_made w q m k i = made_from w q m k (index_from w m i)
