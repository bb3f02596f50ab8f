-- What is certain of every round of a run, whatever its book holds. What is certain of every call is in onc/specs/Certain.antt. Definitions only.
use Rattle.std.specs.Prelude.{ℕ, suc, ◌+◌, ◌<◌, ◌≤◌, ◌≡◌, List, ◌∷◌, length, Float}
use Rattle.std.specs.Float.{nan}
use Rattle.lists.specs.Lists.{cells}
use Rattle.draws.specs.Stops.{stop_number}
use Rattle.distance.specs.Distance.{dist_at}
use Rattle.partition.specs.Partition.{State}
use Rattle.quality.specs.Quality.{qualities_of, weak_count}
use Rattle.row_numbers.specs.Rows.{rows_of}
use Rattle.improve_merge.specs.Merging.{weak_items, merged_of}
use Rattle.improve.specs.Improve.{rescored}
use Rattle.round.specs.Round.{Run, done, ended, started, opening_of, round_of, need_of}
use Rattle.certain_ranges.specs.Ranges.{Bounded}

-- each of the first m scores is within -1..1
abbrev pub InRange : ℕ → List Float → Type 0
InRange m scores = (i : ℕ) → i < m → Bounded 1 (cells scores i)

-- a run over m items ends in a partition whose scores are within -1..1, or in another refusal than 3
abbrev pub CertainRun : ℕ → Run → Type 0
CertainRun m (done s ms read rest) = InRange m s.scores
CertainRun m (ended q ms) = stop_number q ≡ 3 → ⊥

-- so does every round over 2 to 256 items, with one repeat or more
abbrev pub CertainRounds : Type 0
CertainRounds =
    (book : List Float) (n repeats left : ℕ) → 1 ≤ repeats → (rows : List ℕ) (read : ℕ) (ds : List ℕ) → 2 ≤ length rows → length rows ≤ 256
    → CertainRun (length rows) (round_of book n repeats left rows read ds)

-- A re-clustering one of whose scores is a NaN is not kept. A round has a base with more than two weak groups, and the round on their items ends in a
-- partition `inner`; the scores of the base's other groups with the groups of `inner` behind them are worked out afresh, and one is a NaN: then the round
-- ends in its base.
abbrev pub NotKept : Type 0
NotKept =
    (book : List Float) (n repeats left : ℕ) (rows : List ℕ) (read : ℕ) (ds : List ℕ) → 2 ≤ length rows
    → (base : State) (rest : List ℕ) → opening_of book n repeats rows read ds ≡ started base rest → 2 < weak_count (qualities_of base.scores base.groups)
    → (inner : State) (ms : List ℕ) (last : ℕ) (behind : List ℕ)
    → round_of book n repeats left (rows_of rows (weak_items base)) (read + need_of repeats (length rows)) rest ≡ done inner ms last behind
    → (i : ℕ) → i < length rows → cells (rescored (dist_at book n rows) (length rows) (merged_of base inner.groups)).scores i ≡ nan
    → round_of book n repeats (suc left) rows read ds ≡ done base (length rows ∷ ms) last behind

-- both
pub record RoundsClaim : Type 0 where
  pub certain : CertainRounds
  pub not_kept : NotKept
