-- The draws of a round, for every number of names. Definitions only.
use Rattle.std.specs.Prelude.{ℕ, cond, ◌||◌, ltb}
use Rattle.draws.specs.Counts.{count_of}

-- the draws that a round of so many names reads for one repeat; 0 where they are not 2 to 256, since there is no such round
unfoldable pub draws_for : ℕ → ℕ
draws_for names = cond (ltb names 2 || ltb 256 names) 0 (count_of names)
