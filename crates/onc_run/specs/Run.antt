-- A run: what it answers, and what it leaves in every list that the call was lent. A book is a matrix of the correlations of n names, row by row. Definitions
-- only.
use Rattle.std.specs.Prelude.{ℕ, ◌*◌, ◌≤◌, ◌≡◌, Bool, cond, List, length, Float}
use Rattle.lists.specs.Lists.{listed, matrix_of}
use Rattle.refusals.specs.Table.{none, work_doubles, work_numbers, wiped, wiped_numbers}
use Rattle.distance.specs.Distance.{cell_through}
use Rattle.draws.specs.Stops.{stop_number, stop_place}
use Rattle.partition.specs.Partition.{joined}
use Rattle.partition.specs.Orders.{sizes_of}
use Rattle.round.specs.Round.{Run, done, ended, round_of}
use Rattle.round.specs.Made.{draws_from}
use Rattle.onc_answers.specs.Answers.{Answer, refusing}

-- the lists that a call is lent: four outputs, two to work in
pub record Lists : Type 0 where
  pub order : List ℕ
  pub sizes : List ℕ
  pub scores : List Float
  pub ordered : List Float
  pub floats : List Float
  pub numbers : List ℕ

pub record Outcome : Type 0 where
  pub answer : Answer
  pub lists : Lists

-- a book and repeats within the limits, and lists of the lengths that the call asks for: `order`, `sizes` and the other names are lengths
pub record Limits (book : List Float) (n repeat order sizes scores floats numbers : ℕ) : Type 0 where
  pub two : 2 ≤ n
  pub few : n ≤ 256
  pub some : 1 ≤ repeat
  pub times : repeat ≤ 64
  pub square : length book ≡ n * n
  pub order_long : order ≡ n
  pub sizes_long : sizes ≡ n
  pub scores_long : scores ≡ n
  pub floats_long : work_doubles n ≤ floats
  pub numbers_long : work_numbers n ≤ numbers

-- the run on a book of n names: at first 32 rounds are left, the rows are 0, 1, .., n - 1, and no draw has been read
unfoldable pub run_of : List Float → (n repeat : ℕ) → List ℕ → Run
run_of book n repeat draws = round_of book n repeat 32 (listed (λ i. i) n) 0 draws

-- the draws of a run: those that the generator of a seed gives along it, or those of the list
abbrev pub draws_of : Bool → (seed : ℕ) → List Float → (n repeat : ℕ) → List ℕ → List ℕ
draws_of seeded seed book n repeat draws = cond seeded (draws_from seed book n repeat) draws

-- what a run answers
abbrev pub final_of : Run → Answer
final_of (done s ms read rest) = record { refused = none; groups = length s.groups; read = read }
final_of (ended q ms) = refusing (record { number = stop_number q; place = stop_place q })

-- what it leaves: the groups one after the other, their sizes, the scores by name and the book in the order of the groups, where it ends in a
-- grouping; the outputs as they were, where it does not; and the front parts of both working lists zero, the rest of them kept
abbrev pub left_by : List Float → ℕ → Run → Lists → Lists
left_by book n (done s ms read rest) l =
    record {
      order = joined s.groups;
      sizes = sizes_of n s.groups;
      scores = s.scores;
      ordered = matrix_of (cell_through book n (joined s.groups)) n;
      floats = wiped n l.floats;
      numbers = wiped_numbers n l.numbers;
    }
left_by book n (ended q ms) l =
    record {
      order = l.order;
      sizes = l.sizes;
      scores = l.scores;
      ordered = l.ordered;
      floats = wiped n l.floats;
      numbers = wiped_numbers n l.numbers;
    }

abbrev pub ran : List Float → ℕ → Run → Lists → Outcome
ran book n r l = record { answer = final_of r; lists = left_by book n r l }
