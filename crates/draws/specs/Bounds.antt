-- The draws of a round by the five bounds of the trials: from 3, 8, 21, 55 and 149 centres on there is a trial more. Definitions only; `count_bounds` of
-- proofs/Bounds.antt proves the claim.
use Rattle.std.specs.Prelude.{◌≡◌, ℕ, zero, suc, ◌+◌, ◌-◌, ◌*◌, max, cond, nat_lt}
use Rattle.draws.specs.Counts.{count_of}

-- how many centres come after the first, in all, in one seeding each with `least` to `most` centres; in a seeding with k + 1 centres k do
unfoldable pub later_of : ℕ → ℕ → ℕ
later_of least zero = 0
later_of least (suc k) = later_of least k + cond (nat_lt (suc k) least) 0 k

-- the draws of one seeding each with 2 to `most` centres: an index draw for each, two trials for each centre after the first, one more from each bound on
abbrev pub by_bounds : ℕ → ℕ
by_bounds most =
    most - 1 + 2 * later_of 2 most + (later_of 3 most + later_of 8 most + later_of 21 most + later_of 55 most + later_of 149 most)

-- What is proved of `count_of`, for every number of names.
abbrev pub BoundsClaim : Type 0
BoundsClaim = (m : ℕ) → count_of m ≡ by_bounds (max 2 (m - 1))
