-- The draws that a generator gives along a run: w are its words, and i is the place of the next. Definitions only.
use Rattle.std.specs.Prelude.{ℕ, zero, suc, cond, List, [], leb, length, Float}
use Rattle.lists.specs.Lists.{listed}
use Rattle.distance.specs.Distance.{dist_at}
use Rattle.quality.specs.Quality.{qualities_of, weak_count}
use Rattle.row_numbers.specs.Rows.{rows_of}
use Rattle.improve_merge.specs.Merging.{weak_items}
use Rattle.rng_std.specs.Seeds.{key_of}
use Rattle.rng_std.specs.Words.{word_of}
use Rattle.plusplus_seeded.specs.declared.Source.{Source}
use Rattle.plusplus_seeded.specs.Sources.{words_by, given}
use Rattle.candidates.specs.Made.{Stretch, before, repeats_made, repeats_given, repeats_moved}
use Rattle.round.specs.Round.{Opening, started, unstarted, opening_of}

-- no draws
abbrev pub no_draws : ℕ → Stretch
no_draws i = record { draws = []; next = i }

-- the draws of the rounds behind the start of one: where more than two groups are weak, those of the whole round on the weak rows
abbrev pub inner_made : (List ℕ → ℕ → Stretch) → List ℕ → Opening → ℕ → Stretch
inner_made again rows (unstarted s ms) i = no_draws i
inner_made again rows (started base rest) i = cond (leb (weak_count (qualities_of base.scores base.groups)) 2) (no_draws i) (again (rows_of rows (weak_items base)) i)

-- the draws of the candidates of a round
abbrev pub own_made : (ℕ → ℕ) → List Float → (n repeats : ℕ) → List ℕ → ℕ → Stretch
own_made w book n repeats rows i = repeats_made w (dist_at book n rows) (length rows) repeats i

-- a round, with `left` rounds left: its own, then those behind its start, which the own ones make
unfoldable pub round_made : (ℕ → ℕ) → List Float → (n repeats left : ℕ) → List ℕ → ℕ → Stretch
round_made w book n repeats zero rows i = no_draws i
round_made w book n repeats (suc left) rows i =
    before (own_made w book n repeats rows i).draws
    (inner_made (round_made w book n repeats left) rows (opening_of book n repeats rows 0 (own_made w book n repeats rows i).draws) (own_made w book n repeats rows i).next)

-- the draws of a source for the candidates of a round, and the source behind them
abbrev pub own_given : Source → List ℕ → List Float → (n repeats : ℕ) → List ℕ → List ℕ
own_given src draws book n repeats rows = repeats_given (dist_at book n rows) (length rows) repeats src draws

abbrev pub own_moved : Source → List Float → (n repeats : ℕ) → List ℕ → Source
own_moved src book n repeats rows = repeats_moved (dist_at book n rows) (length rows) repeats src

-- the draws of a source for a round and those behind its start
abbrev pub round_given : Source → List ℕ → List Float → (n repeats left : ℕ) → List ℕ → List ℕ
round_given src draws book n repeats left rows = given src draws (λ i. (round_made (words_by src) book n repeats left rows i).draws)

-- the draws of a run by a seed
abbrev pub draws_from : ℕ → List Float → (n repeats : ℕ) → List ℕ
draws_from seed book n repeats = (round_made (word_of (key_of seed)) book n repeats 32 (listed (λ i. i) n) 0).draws
