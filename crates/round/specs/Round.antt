-- The rounds of a run: one on the whole book, then one more each time that weak groups are clustered again.
-- López de Prado, MLAM (2020) section 4.4, snippet 4.2 (higher-level clustering). Definitions only.
use Rattle.std.specs.Prelude.{ℕ, zero, suc, ◌+◌, ◌*◌, cond, List, [], ◌∷◌, ltb, leb, length, Float}
use Rattle.draws.specs.Counts.{count_of}
use Rattle.draws.specs.Draws.{Drawn, drawn, refused}
use Rattle.draws.specs.declared.Stop.{Stop}
use Rattle.draws.specs.declared.Stop.TheVariants.{Rounds, Short, DrawOutOfRange, ClusteringFailed}
use Rattle.distance.specs.Distance.{dist_at}
use Rattle.partition.specs.Partition.{State}
use Rattle.quality.specs.Quality.{qualities_of, weak_count}
use Rattle.candidates.specs.Candidates.{Best, nothing, found, best_of}
use Rattle.base.specs.Base.{base_of}
use Rattle.row_numbers.specs.Rows.{rows_of}
use Rattle.improve_merge.specs.Merging.{weak_items}
use Rattle.improve.specs.Improve.{better_of}

-- the draws of a round of m items
abbrev pub need_of : ℕ → ℕ → ℕ
need_of repeats m = repeats * count_of m

-- How a run ends: the partition, the number of items of each round, the draws read, and the draws that remain; or what ended it, and the
-- number of items of each round that started.
pub data Run : Type 0 where
  done : State → List ℕ → ℕ → List ℕ → Run
  ended : Stop → List ℕ → Run

-- how a round starts: its base and the draws that remain; or what ended the run, and the rounds that started
pub data Opening : Type 0 where
  started : State → List ℕ → Opening
  unstarted : Stop → List ℕ → Opening

-- the base of the best candidate; a round that found none would end the run, but no call has such a round (certain_runs/specs/Certain.antt)
abbrev pub of_best : ℕ → Drawn Best → Opening
of_best m (drawn nothing rest) = unstarted ClusteringFailed (m ∷ [])
of_best m (drawn (found c) rest) = started (base_of m c) rest
of_best m (refused p) = unstarted (DrawOutOfRange p) (m ∷ [])

-- 7 where fewer draws remain than the round needs, else the round's base; `rows` are the round's items, as rows of the book of n names,
-- `read` is the number of draws read before, and ds are those that remain
unfoldable pub opening_of : List Float → ℕ → ℕ → List ℕ → ℕ → List ℕ → Opening
opening_of book n repeats rows read ds =
    cond (ltb (length ds) (need_of repeats (length rows))) (unstarted (Short read) [])
    (of_best (length rows) (best_of (dist_at book n rows) (length rows) repeats read ds))

-- the round after its re-clustering: m is the number of its items
abbrev pub after_inner : (ℕ → ℕ → Float) → ℕ → State → Run → Run
after_inner x m base (done inner ms read rest) = done (better_of x m base inner.groups) (m ∷ ms) read rest
after_inner x m base (ended s ms) = ended s (m ∷ ms)

-- the round after its start: two weak groups or fewer, and the base stands; `again` is the whole round on other rows, with the draws read and those that remain
unfoldable pub after_opening : (List ℕ → ℕ → List ℕ → Run) → List Float → ℕ → List ℕ → ℕ → Opening → Run
after_opening again book n rows read (unstarted s ms) = ended s ms
after_opening again book n rows read (started base rest) =
    cond (leb (weak_count (qualities_of base.scores base.groups)) 2)
    (done base (length rows ∷ []) read rest)
    (after_inner (dist_at book n rows) (length rows) base (again (rows_of rows (weak_items base)) read rest))

-- a round, with `left` rounds left: 9 where there is none
unfoldable pub round_of : List Float → ℕ → ℕ → ℕ → List ℕ → ℕ → List ℕ → Run
round_of book n repeats zero rows read ds = ended Rounds []
round_of book n repeats (suc left) rows read ds =
    after_opening (round_of book n repeats left) book n rows (read + need_of repeats (length rows)) (opening_of book n repeats rows read ds)

-- the draws of rounds of these numbers of items
unfoldable pub total_of : ℕ → List ℕ → ℕ
total_of repeats [] = 0
total_of repeats (m ∷ ms) = need_of repeats m + total_of repeats ms
