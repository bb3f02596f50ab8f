-- The three demands, about `group_of` (Onc.antt): what `get_onc_clusters_with_draws` promises to answer and to leave. Definitions only;
-- `demands` in proofs/Demands.antt proves them of every call.
use Rattle.std.specs.Prelude.{ℕ, ◌+◌, ◌*◌, ◌<◌, ◌≤◌, ◌≡◌, Bool, true, false, List, [], ◌∷◌, ◌++◌, length, take, drop, Float}
use Rattle.std.specs.Float.Ieee.{lt}
use Rattle.lists.specs.Lists.{listed, numbers, cell_at}
use Rattle.lists.specs.Sums.{zero64, one64}
use Rattle.refusals.specs.Table.{none, wiped, wiped_numbers}
use Rattle.distance.specs.Distance.{dist_at}
use Rattle.silhouette_areas.specs.Scoring.{scores_of}
use Rattle.draws.specs.Claim.{WholeLn, round_draws, CountClaim}
use Rattle.draws.specs.Draws.{Drawn, drawn, refused}
use Rattle.draws.specs.declared.Stop.TheVariants.{Rounds, Short, DrawOutOfRange, ClusteringFailed}
use Rattle.partition.specs.Partition.{Partition, State, has, group_at, label_of, joined}
use Rattle.partition.specs.Orders.{sizes_of, cut}
use Rattle.candidates.specs.Candidates.{Candidate, Best, found, best_of}
use Rattle.candidates.specs.Ranges.{RoundOutOfRange}
use Rattle.quality.specs.Quality.{qualities_of, weak_count, weak_mean}
use Rattle.base.specs.Base.{base_of}
use Rattle.improve_merge.specs.Merging.{weak_items, merged_of}
use Rattle.improve.specs.Improve.{rescored, mean_quality}
use Rattle.row_numbers.specs.Rows.{rows_of}
use Rattle.round.specs.Round.{Run, done, ended, need_of, total_of}
use Rattle.onc_answers.specs.Answers.{Answer, refusing}
use Rattle.onc_checks.specs.Checks.{lists_fit}
use Rattle.onc_run.specs.Run.{Lists, Outcome, Limits, run_of, ran}
use Rattle.onc.specs.Onc.{group_of}

-- what a call returns and leaves in its outputs
pub record Outputs : Type 0 where
  pub answer : Answer
  pub order : List ℕ
  pub sizes : List ℕ
  pub scores : List Float
  pub ordered : List Float

abbrev pub outputs : Outcome → Outputs
outputs o = record { answer = o.answer; order = o.lists.order; sizes = o.lists.sizes; scores = o.lists.scores; ordered = o.lists.ordered }

-- the groups that a call leaves, and the label of each name: the number of the group that has it. No list of labels is lent; they follow from the count of
-- groups in the answer, the sizes and the order
abbrev pub groups_in : Outputs → List (List ℕ)
groups_in o = cut o.answer.groups o.sizes o.order

abbrev pub labels_in : ℕ → Outputs → List ℕ
labels_in n o = listed (label_of (groups_in o)) n

-- the outputs that were lent, with the answer of the call
abbrev pub untouched : Outcome → Lists → Outputs
untouched o l = record { answer = o.answer; order = l.order; sizes = l.sizes; scores = l.scores; ordered = l.ordered }

-- both working lists with their front parts zero, and the rest kept
pub record Wiped (n : ℕ) (o : Outcome) (l : Lists) : Type 0 where
  pub floats : o.lists.floats ≡ wiped n l.floats
  pub numbers : o.lists.numbers ≡ wiped_numbers n l.numbers

-- a call within the limits of a run (Limits in onc_run/specs/Run.antt: 2 to 256 names, 1 to 64 repeats, and lists of the lengths that the call asks for)
pub record Within (book : List Float) (n repeat : ℕ) (l : Lists) : Type 0 where
  pub limits : Limits book n repeat (length l.order) (length l.sizes) (length l.scores) (length l.floats) (length l.numbers)
  pub ordered_long : length l.ordered ≡ n * n

-- rows 1 and 2 of the table do not apply
pub record Shaped (rows cols repeat : ℕ) : Type 0 where
  pub some : 1 ≤ repeat
  pub same : rows ≡ cols
  pub two : 2 ≤ rows

-- nor does row 4
pub record Limited (rows cols repeat : ℕ) : Type 0 where
  pub shaped : Shaped rows cols repeat
  pub few : rows ≤ 256
  pub times : repeat ≤ 64

-- what each refusal before the run is for; no row above it in the table applies
pub data Cause (book : List Float) (rows cols repeat : ℕ) (l : Lists) : ℕ → Type 0 where
  no_repeat : repeat ≡ 0 → Cause book rows cols repeat l 1
  not_square : 1 ≤ repeat → (rows ≡ cols → ⊥) → Cause book rows cols repeat l 2
  few_rows : 1 ≤ repeat → rows ≡ cols → rows < 2 → Cause book rows cols repeat l 2
  many_rows : Shaped rows cols repeat → 256 < rows → Cause book rows cols repeat l 4
  many_repeats : Shaped rows cols repeat → 64 < repeat → Cause book rows cols repeat l 4
  cell_count : Limited rows cols repeat → (length book ≡ rows * rows → ⊥) → Cause book rows cols repeat l 5
  list_length : Limited rows cols repeat → length book ≡ rows * rows
      → lists_fit rows (length l.order) (length l.sizes) (length l.scores) (length l.ordered) (length l.floats) (length l.numbers) ≡ false
      → Cause book rows cols repeat l 6

-- Demand 1. A call ends in one of three ways: a grouping; a refusal before the run, for its cause, which keeps every list; or a refusal that the run
-- meets, which keeps the outputs. A refusal tells no groups and no draws read, and before the run the place 0. A run starts within the limits alone, and
-- once it has started the working lists are wiped, however it ends. (That the code of a call returns is proved with its contract, as of every function.)
pub data Demand1 (book : List Float) (rows cols repeat : ℕ) (o : Outcome) (l : Lists) : Type 0 where
  grouping : rows ≡ cols → Within book rows repeat l → o.answer.refused ≡ none → Wiped rows o l → Demand1 book rows cols repeat o l
  not_started : Cause book rows cols repeat l o.answer.refused.number → o.answer ≡ refusing (record { number = o.answer.refused.number; place = 0 }) → o.lists ≡ l
      → Demand1 book rows cols repeat o l
  not_ended : rows ≡ cols → Within book rows repeat l → has (9 ∷ 7 ∷ 8 ∷ []) o.answer.refused.number ≡ true → o.answer ≡ refusing o.answer.refused
      → outputs o ≡ untouched o l → Wiped rows o l → Demand1 book rows cols repeat o l

-- the answer and the outputs are those of the definition's partition s: a name belongs to one group and to no other, each number below the count of groups is
-- that of a group with a member, the scores are the silhouettes of the names under their labels, and the ordered matrix has the book's rows and columns
-- group by group
pub record GroupingOf (book : List Float) (n : ℕ) (s : State) (o : Outcome) : Type 0 where
  pub not_refused : o.answer.refused ≡ none
  pub partition : Partition n s.groups
  pub groups : groups_in (outputs o) ≡ s.groups
  pub labels : (g i : ℕ) → has (group_at s.groups g) i ≡ true → numbers (labels_in n (outputs o)) i ≡ g
  pub numbered : (g : ℕ) → g < o.answer.groups → 0 < numbers o.lists.sizes g
  pub no_more : (g : ℕ) → o.answer.groups ≤ g → numbers o.lists.sizes g ≡ 0
  pub order : o.lists.order ≡ joined s.groups
  pub order_long : length o.lists.order ≡ n
  pub sizes : o.lists.sizes ≡ sizes_of n s.groups
  pub scores : o.lists.scores ≡ scores_of (dist_at book n (listed (λ i. i) n)) n (label_of s.groups)
  pub ordered_long : length o.lists.ordered ≡ n * n
  pub matrix : (i j : ℕ) → i < n → j < n → cell_at o.lists.ordered n i j ≡ cell_at book n (numbers o.lists.order i) (numbers o.lists.order j)

-- the search of a round over these items (rows of the book), after rounds that took exactly the draws in front of its own
abbrev pub search_of : List Float → ℕ → ℕ → List ℕ → (before items : List ℕ) → Drawn Best
search_of book n repeat draws before items = best_of (dist_at book n items) (length items) repeat (total_of repeat before) (drop (total_of repeat before) draws)

-- it finds the candidate c, and takes exactly the round's count of draws
abbrev pub Finds : List Float → ℕ → ℕ → List ℕ → (before items : List ℕ) → Candidate → Type 0
Finds book n repeat draws before items c =
    search_of book n repeat draws before items ≡ drawn (found c) (drop (total_of repeat before + need_of repeat (length items)) draws)

-- how many groups of a round's base are weak, the base being the groups of the candidate c
abbrev pub weak_in : List ℕ → Candidate → ℕ
weak_in items c = weak_count (qualities_of c.scores (base_of (length items) c).groups)

-- a round over `items` (rows of the book) is reached after rounds of `before` items, which took exactly their counts: the first round is over all names,
-- and each later one over the items of the weak groups of the base before it, of which there are more than two
pub data Reached (book : List Float) (n repeat : ℕ) (draws : List ℕ) : List ℕ → List ℕ → Type 0 where
  first : Reached book n repeat draws [] (listed (λ i. i) n)
  next : (before items : List ℕ) (c : Candidate) → Reached book n repeat draws before items → Finds book n repeat draws before items c
      → 2 < weak_in items c → Reached book n repeat draws (before ++ (length items ∷ [])) (rows_of items (weak_items (base_of (length items) c)))

-- the groups of the base that are not weak, then the groups of a round over the items of the others, scored afresh
abbrev pub merged_in : List Float → ℕ → List ℕ → Candidate → State → State
merged_in book n items c inner = rescored (dist_at book n items) (length items) (merged_of (base_of (length items) c) inner.groups)

-- the average of the t-stats of all these groups is above that of the base's weak groups
abbrev pub improves : List Float → ℕ → List ℕ → Candidate → State → Bool
improves book n items c inner = lt (weak_mean (qualities_of c.scores (base_of (length items) c).groups)) (mean_quality (merged_in book n items c inner))

-- How the partition s comes out of a round over `items`, after rounds of `before` items. With two weak groups or fewer it is the round's base: the groups
-- and the scores of the candidate that its search finds. With more, the round over the items of the weak groups gives the partition `inner`: s is the base with
-- the groups of `inner` in place of the weak ones (`merged_in`) where `improves` holds, and else the base.
pub data Made (book : List Float) (n repeat : ℕ) (draws : List ℕ) : List ℕ → List ℕ → State → Type 0 where
  few_weak : (before items : List ℕ) (c : Candidate) → Finds book n repeat draws before items c → weak_in items c ≤ 2
      → Made book n repeat draws before items (base_of (length items) c)
  improved : (before items : List ℕ) (c : Candidate) (inner : State) → Finds book n repeat draws before items c → 2 < weak_in items c
      → Made book n repeat draws (before ++ (length items ∷ [])) (rows_of items (weak_items (base_of (length items) c))) inner
      → improves book n items c inner ≡ true → Made book n repeat draws before items (merged_in book n items c inner)
  not_improved : (before items : List ℕ) (c : Candidate) (inner : State) → Finds book n repeat draws before items c → 2 < weak_in items c
      → Made book n repeat draws (before ++ (length items ∷ [])) (rows_of items (weak_items (base_of (length items) c))) inner
      → improves book n items c inner ≡ false → Made book n repeat draws before items (base_of (length items) c)

-- how 8 is met, at the place p of a draw: in the last round that started, which is reached, has two items or more, and has its draws. Its search meets the
-- draw, one of its own, and the draw is out of range: an index that is not below the number of items, or a share that is not below 2 ^ 53. No draw in
-- front of it is (`in_range` of DrawsRead).
abbrev pub MeetsDraw : List Float → ℕ → ℕ → List ℕ → ℕ → List ℕ → Type 0
MeetsDraw book n repeat draws p ms =
    (before : List ℕ) × (items : List ℕ) × Reached book n repeat draws before items × (ms ≡ before ++ (length items ∷ [])) × (2 ≤ length items)
    × (total_of repeat ms ≤ length draws) × (p < length draws) × (total_of repeat before ≤ p) × (p < total_of repeat before + need_of repeat (length items))
    × (search_of book n repeat draws before items ≡ refused p) × RoundOutOfRange (dist_at book n items) (length items) repeat (total_of repeat before) draws p

-- no round that is reached is refused: it is not the 33rd (9), and its draws are there (7) and in range (8)
pub record NoneRefused (book : List Float) (n repeat : ℕ) (draws : List ℕ) : Type 0 where
  pub few : (before items : List ℕ) → Reached book n repeat draws before items → length before < 32
  pub enough : (before items : List ℕ) → Reached book n repeat draws before items → total_of repeat before + need_of repeat (length items) ≤ length draws
  pub in_range : (before items : List ℕ) (p : ℕ) → Reached book n repeat draws before items
      → RoundOutOfRange (dist_at book n items) (length items) repeat (total_of repeat before) draws p → ⊥

-- Demand 2. Within the limits a call answers and leaves exactly what the run of the definition gives. With enough draws in range and at most 32 rounds
-- it is a grouping. A list of 32 times the first round's count is enough draws: then 7 is not answered. Where the run ends in a partition, so does the
-- call, and nowhere else.
pub record Demand2 (book : List Float) (n repeat : ℕ) (draws : List ℕ) (l : Lists) : Type 0 where
  pub exact : group_of book n n repeat draws l ≡ ran book n (run_of book n repeat draws) l
  pub answered : NoneRefused book n repeat draws → (s : State) × (ms : List ℕ) × (read : ℕ) × (rest : List ℕ) × (run_of book n repeat draws ≡ done s ms read rest)
      × GroupingOf book n s (group_of book n n repeat draws l)
  pub not_short : 32 * need_of repeat n ≤ length draws → has (0 ∷ 9 ∷ 8 ∷ []) (group_of book n n repeat draws l).answer.refused.number ≡ true
  pub grouping : (s : State) (ms : List ℕ) (read : ℕ) (rest : List ℕ) → run_of book n repeat draws ≡ done s ms read rest
      → GroupingOf book n s (group_of book n n repeat draws l)
  pub grouped : (group_of book n n repeat draws l).answer.refused.number ≡ 0
      → (s : State) × (ms : List ℕ) × (read : ℕ) × (rest : List ℕ) × (run_of book n repeat draws ≡ done s ms read rest)

-- the number of items of each round of a run that started
abbrev pub rounds_of : Run → List ℕ
rounds_of (done s ms read rest) = ms
rounds_of (ended q ms) = ms

-- lists as long as others, whatever they hold
pub record AsLong (l l' : Lists) : Type 0 where
  pub order : length l'.order ≡ length l.order
  pub sizes : length l'.sizes ≡ length l.sizes
  pub scores : length l'.scores ≡ length l.scores
  pub ordered : length l'.ordered ≡ length l.ordered
  pub floats : length l'.floats ≡ length l.floats
  pub numbers : length l'.numbers ≡ length l.numbers

-- f of each number of a list, summed
abbrev pub sum_over : (ℕ → ℕ) → List ℕ → ℕ
sum_over f [] = 0
sum_over f (m ∷ ms) = f m + sum_over f ms

-- `count` is the sum over rounds of m items, for each m of ms: `repeat` times the sum, for k from 2 to the larger of 2 and m - 1, of 1 + (k - 1) times (2 + the
-- whole part of ln k). `ln` is any function that gives these whole parts; `counts` of Demands has one
abbrev pub SumOf : (repeat : ℕ) → List ℕ → ℕ → Type 0
SumOf repeat ms count = (ln : ℕ → ℕ) → ((k : ℕ) → 2 ≤ k → k ≤ 256 → WholeLn k (ln k)) → count ≡ sum_over (λ m. repeat * round_draws ln m) ms

-- of a call that ends in a grouping and reports `count` draws: they are the sum over the rounds, a losing re-clustering included, at most 32 times the
-- first round's; and every other list of draws that begins with those gives the same answer and the same outputs, and so the same labels
pub record Counted (book : List Float) (rows cols repeat : ℕ) (draws : List ℕ) (l : Lists) (count : ℕ) : Type 0 where
  pub sum : SumOf repeat (rounds_of (run_of book rows repeat draws)) count
  pub total : count ≡ total_of repeat (rounds_of (run_of book rows repeat draws))
  pub most : count ≤ 32 * need_of repeat rows
  pub there : count ≤ length draws
  pub same : (draws' : List ℕ) (l' : Lists) → AsLong l l' → take count draws' ≡ take count draws
      → outputs (group_of book rows cols repeat draws' l') ≡ outputs (group_of book rows cols repeat draws l)
  pub same_labels : (draws' : List ℕ) (l' : Lists) → AsLong l l' → take count draws' ≡ take count draws
      → labels_in rows (outputs (group_of book rows cols repeat draws' l')) ≡ labels_in rows (outputs (group_of book rows cols repeat draws l))

-- How a run of n names ends. A grouping comes after a round that is reached and finds a candidate with two weak groups or fewer, and its partition s is what
-- `Made` says of the first round, over all names. 9 and 7 are met by a round that is reached and does not start: 9 after 32 rounds, 7 after fewer where fewer
-- draws remain than the round needs, and 7 gives the sum over the rounds that started. 8 is met at a draw out of range, and at no other. 3 is not met: every
-- round that starts and is not ended by 8 finds a candidate.
abbrev pub EndsBy : List Float → ℕ → ℕ → List ℕ → Run → Type 0
EndsBy book n repeat draws (done s ms read rest) =
    (read ≡ total_of repeat ms) × (rest ≡ drop read draws) × Made book n repeat draws [] (listed (λ i. i) n) s
    × (before : List ℕ) × (items : List ℕ) × (c : Candidate) × Reached book n repeat draws before items × (ms ≡ before ++ (length items ∷ []))
    × (search_of book n repeat draws before items ≡ drawn (found c) rest) × (weak_in items c ≤ 2)
EndsBy book n repeat draws (ended Rounds ms) = (length ms ≡ 32) × (items : List ℕ) × Reached book n repeat draws ms items
EndsBy book n repeat draws (ended (Short k) ms) =
    (k ≡ total_of repeat ms) × (length ms < 32) × (items : List ℕ) × Reached book n repeat draws ms items × (length draws < k + need_of repeat (length items))
EndsBy book n repeat draws (ended (DrawOutOfRange p) ms) = MeetsDraw book n repeat draws p ms
EndsBy book n repeat draws (ended ClusteringFailed ms) = ⊥

-- the run was ended by 8, at the place q or in front of it
abbrev pub StoppedBy : ℕ → Run → Type 0
StoppedBy q (done s ms read rest) = ⊥
StoppedBy q (ended Rounds ms) = ⊥
StoppedBy q (ended (Short k) ms) = ⊥
StoppedBy q (ended (DrawOutOfRange p) ms) = p ≤ q
StoppedBy q (ended ClusteringFailed ms) = ⊥

-- What a run of n names reads of its draws, however it ends. At most 32 rounds start, and their draws were there. All draws that it reads are in range, but for
-- the one that 8 names (`in_range`): a draw out of range, of any round that started, ends the run with 8, there or at one in front of it. The rounds that started
-- are those that are reached after fewer rounds than started.
pub record DrawsRead (book : List Float) (n repeat : ℕ) (draws : List ℕ) (r : Run) : Type 0 where
  pub rounds : length (rounds_of r) ≤ 32
  pub there : total_of repeat (rounds_of r) ≤ length draws
  pub ends : EndsBy book n repeat draws r
  pub in_range : (before items : List ℕ) (q : ℕ) → Reached book n repeat draws before items → length before < length (rounds_of r)
      → RoundOutOfRange (dist_at book n items) (length items) repeat (total_of repeat before) draws q → StoppedBy q r

-- what a call answers by how its run ends: the number and place of each refusal, which is never 3, and of a grouping its groups and the draws read
abbrev pub Tells : Run → Answer → Type 0
Tells (done s ms read rest) a = a ≡ record { refused = none; groups = length s.groups; read = read }
Tells (ended Rounds ms) a = a ≡ refusing (record { number = 9; place = 0 })
Tells (ended (Short k) ms) a = a ≡ refusing (record { number = 7; place = k })
Tells (ended (DrawOutOfRange p) ms) a = a ≡ refusing (record { number = 8; place = p })
Tells (ended ClusteringFailed ms) a = ⊥

-- Demand 3: how many draws a call reads. Where it ends in a grouping, no others matter (`Counted`); 7 gives the sum over the rounds that started; and each way in
-- which a run ends is told by its number and place, and met as `EndsBy` says. The runs of calls have 2 to 256 names and one repeat or more. What `reads` says is true
-- of no other run (`only`). It cites these parts of a round, which are read in their definitions: `dist_at`, `best_of`, `base_of`, `qualities_of`, `weak_count`,
-- `weak_mean`, `weak_items`, `rows_of`, `merged_of`, `rescored`, `mean_quality`; `need_of` and `total_of`, which `counts` says in other words; and for a draw out of range
-- RoundOutOfRange, with the centres chosen before it (`first_centres`). With these as they are, a definition whose runs take a draw out of range, always keep the
-- base or make one group of every book does not meet it.
pub record Demand3 (book : List Float) (rows cols repeat : ℕ) (draws : List ℕ) (l : Lists) : Type 0 where
  pub grouped : (group_of book rows cols repeat draws l).answer.refused.number ≡ 0
      → Counted book rows cols repeat draws l (group_of book rows cols repeat draws l).answer.read
  pub short : (group_of book rows cols repeat draws l).answer.refused.number ≡ 7
      → SumOf repeat (rounds_of (run_of book rows repeat draws)) (group_of book rows cols repeat draws l).answer.refused.place
  pub tells : rows ≡ cols → Within book rows repeat l → Tells (run_of book rows repeat draws) (group_of book rows cols repeat draws l).answer
  pub reads : 2 ≤ rows → rows ≤ 256 → 1 ≤ repeat → DrawsRead book rows repeat draws (run_of book rows repeat draws)
  pub only : 2 ≤ rows → rows ≤ 256 → 1 ≤ repeat → (r : Run) → DrawsRead book rows repeat draws r → r ≡ run_of book rows repeat draws

-- the program's example: two names without correlation, and their three draws
abbrev pub two_names : List Float
two_names = one64 ∷ zero64 ∷ zero64 ∷ one64 ∷ []

abbrev pub example_draws : List ℕ
example_draws = 0 ∷ 0 ∷ 4503599627370496 ∷ []

-- the three demands, of every call
pub record Demands : Type 0 where
  pub first : (book : List Float) (rows cols repeat : ℕ) (draws : List ℕ) (l : Lists)
      → Demand1 book rows cols repeat (group_of book rows cols repeat draws l) l
  pub second : (book : List Float) (n repeat : ℕ) (draws : List ℕ) (l : Lists) → Within book n repeat l → Demand2 book n repeat draws l
  pub third : (book : List Float) (rows cols repeat : ℕ) (draws : List ℕ) (l : Lists) → Demand3 book rows cols repeat draws l
  -- the whole parts of logarithms that `SumOf` asks for, the bounds of e in them, and each round's count
  pub counts : CountClaim
  -- the example has two groups, and 3 draws are read: so neither is every book turned back nor is each one group, which needs no reading of those parts
  pub apart : (l : Lists) → Within two_names 2 1 l → (group_of two_names 2 2 1 example_draws l).answer ≡ record { refused = none; groups = 2; read = 3 }
