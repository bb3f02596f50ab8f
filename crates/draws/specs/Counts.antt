-- How many draws a seeding and a round take, for one repeat. Definitions only.
use Rattle.std.specs.Prelude.{ℕ, zero, suc, ◌+◌, ◌-◌, ◌*◌, max, cond, nat_lt}

-- the trials for each centre after the first, of k centres; for k from 2 to 256: 2 more than the whole part of ln k
abbrev pub trials_of : ℕ → ℕ
trials_of k =
    cond (nat_lt k 3) 2
    (cond (nat_lt k 8) 3 (cond (nat_lt k 21) 4 (cond (nat_lt k 55) 5 (cond (nat_lt k 149) 6 7))))

-- the draws of one seeding with k centres: an index draw, then one for each trial
abbrev pub seeding_of : ℕ → ℕ
seeding_of k = 1 + (k - 1) * trials_of k

-- the draws of the seedings with k, k + 1, .. centres, j of them
unfoldable pub seedings_of : ℕ → ℕ → ℕ
seedings_of k zero = 0
seedings_of k (suc j) = seeding_of k + seedings_of (suc k) j

-- how many candidates a repeat has: one for each number of groups from 2 to max(m - 1, 2)
abbrev pub tries : ℕ → ℕ
tries m = max 2 (m - 1) - 1

-- the draws of a round of m names: k from 2 to max(2, m - 1)
unfoldable pub count_of : ℕ → ℕ
count_of m = seedings_of 2 (tries m)
