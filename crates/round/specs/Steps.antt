-- What the functions of the start of a round ask and leave. Definitions only.
-- Where things stand in the two lists of the run: crates/round_lists/specs/Steps.antt.
use Rattle.std.specs.Prelude.{ℕ, ◌+◌, ◌-◌, ◌*◌, ◌<◌, ◌≤◌, ◌≡◌, true, false, List, Result, Ok, Err, length, take, drop, Float}
use Rattle.lists.specs.Lists.{numbers, part}
use Rattle.partition.specs.Partition.{State, joined}
use Rattle.partition.specs.Orders.{sizes_of}
use Rattle.quality.specs.Quality.{qualities_of, weak_count}
use Rattle.row_numbers.specs.Rows.{rows_of}
use Rattle.improve_merge.specs.Merging.{weak_items}
use Rattle.plusplus_seeded.specs.declared.Source.{Source}
use Rattle.plusplus_seeded.specs.Sources.{Supplies}
use Rattle.round.specs.declared.RoundStart.{RoundStart}
use Rattle.draws.specs.declared.Stop.{Stop}
use Rattle.round.specs.Round.{Opening, started, unstarted, need_of}

-- where a source stands with `left` of 32 rounds left, each of which takes at most 13723392 draws, and at most two words for a draw
pub record Stood (src : Source) (draws : List ℕ) (left : ℕ) : Type 0 where
  pub there : src.seeded ≡ false → src.at ≤ length draws
  pub passed : src.seeded ≡ true → src.at ≤ (32 - left) * 13723392
  pub words : src.taken ≤ 2 * ((32 - left) * 13723392)

-- the book, the rows of the round's m items at the front of its numbers, and the source of its draws
pub record RoundInput (book : List Float) (n m repeats : ℕ) (draws : List ℕ) (src : Source) (left : ℕ) (wi : List ℕ) : Type 0 where
  pub two : 2 ≤ m
  pub items : m ≤ n
  pub few : n ≤ 256
  pub some : 1 ≤ repeats
  pub times : repeats ≤ 64
  pub square : length book ≡ n * n
  pub stood : Stood src draws left
  pub rows : (j : ℕ) → j < m → numbers wi j < n

-- the base of a round stands in its numbers and doubles
pub record BaseAt (n m : ℕ) (s : State) (wi : List ℕ) (wf : List Float) : Type 0 where
  pub order_at : part n m wi ≡ joined s.groups
  pub sizes_at : part (2 * n) m wi ≡ sizes_of m s.groups
  pub scores_at : take m wf ≡ s.scores

-- the answer of a start that nothing stopped
abbrev pub round_start : ℕ → ℕ → ℕ → Source → Result RoundStart Stop
round_start groups weak items source = Ok (record { groups = groups; weak = weak; items = items; source = source })

-- the answer of a start: how many groups the base has, how many are weak, how many items those have, and the source behind the draws
abbrev pub round_start_of : Source → Opening → Result RoundStart Stop
round_start_of next (started s rest) = round_start (length s.groups) (weak_count (qualities_of s.scores s.groups)) (length (weak_items s)) next
round_start_of next (unstarted s ms) = Err s

-- what it leaves: the rows, the base, and the rows of the weak items at the front of the inner round's numbers
abbrev pub Starts : Opening → ℕ → ℕ → List ℕ → List ℕ → List Float → Type 0
Starts (started s rest) n m rows wi wf =
    (take m wi ≡ rows) × BaseAt n m s wi wf × (part (3 * n) (length (weak_items s)) wi ≡ rows_of rows (weak_items s))
Starts (unstarted s ms) n m rows wi wf = Unit

pub record RoundStarted (o : Opening) (n m left : ℕ) (next : Source) (a : Result RoundStart Stop) (wi wi' : List ℕ) (wf wf' : List Float) : Type 0 where
  pub answer_is : a ≡ round_start_of next o
  pub starts : Starts o n m (take m wi) wi' wf'
  pub behind : drop (4 * n) wi' ≡ drop (4 * n) wi
  pub beyond : drop (left * n + 5 * (n * n)) wf' ≡ drop (left * n + 5 * (n * n)) wf

-- a book whose round may start: there are draws enough
pub record MayStart (book : List Float) (n m repeats : ℕ) (draws : List ℕ) (src : Source) (left : ℕ) (wi : List ℕ) (wf : List Float) : Type 0 where
  pub reads : RoundInput book n m repeats draws src left wi
  pub supplies : Supplies src draws (need_of repeats m)
  pub one : 1 ≤ left
  pub level : left ≤ 32
  pub room : 4 * n ≤ length wi
  pub space : left * n + 5 * (n * n) ≤ length wf
