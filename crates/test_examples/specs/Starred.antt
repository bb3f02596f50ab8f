-- The worked examples: a question to a definition, and its answer, in one table. `examples_hold` (proofs/Claim.antt) proves all of them.
use Rattle.std.specs.Prelude.{ℕ, ◌≡◌, true, false, List, [], ◌∷◌, length, replicate, pos, negsuc, Float}
use Rattle.std.specs.Float.{inf, fin}
use Rattle.lists.specs.Lists.{cells}
use Rattle.lists.specs.Sums.{counted, zero64}
use Rattle.sqrt.specs.Root.{root}
use Rattle.stats.specs.Average as stats
use Rattle.tstat.specs.Tstat as tstat
use Rattle.refusals.specs.Table.{Worked, work_doubles}
use Rattle.silhouette.specs.Leaf.{silhouettes_of}
use Rattle.draws.specs.Counts.{count_of}
use Rattle.choice.specs.Choice.{chosen}

-- which definition is asked, and of what
pub data Question : Type 0 where
  the_root : Float → Question
  the_mean : List Float → Question
  the_variance : List Float → ℕ → Question
  the_tstat : List Float → Question
  the_scores : List Float → List ℕ → Question
  the_draws : ℕ → Question
  the_choice : Float → Float → Question

-- an answer: the table's number, and the values, doubles or whole numbers
pub record Answered : Type 0 where
  pub number : ℕ
  pub values : List Float
  pub counts : List ℕ

abbrev pub valued : ℕ → List Float → Answered
valued q xs = record { number = q; values = xs; counts = [] }

unfoldable pub given : stats.Averaged → Answered
given a = valued a.number a.values

-- what the leaf of the scores answers, and leaves in the list of scores
unfoldable pub scored : Worked → Answered
scored w = valued w.answer.number w.out

unfoldable pub answer : Question → Answered
answer (the_root x) = valued 0 (root x ∷ [])
answer (the_mean xs) = given (stats.mean (cells xs) (length xs))
answer (the_variance xs ddof) = given (stats.variance (cells xs) (length xs) ddof)
answer (the_tstat xs) = given (tstat.tstat (cells xs) (length xs))
-- the list of scores and the one to work in have the lengths that the leaf asks for, and hold zeros
answer (the_scores pairs labels) =
    scored (silhouettes_of pairs (length labels) labels (replicate (length labels) zero64) (replicate (work_doubles (length labels)) zero64))
answer (the_draws m) = record { number = 0; values = []; counts = count_of m ∷ [] }
-- the mean t-stat of the new list, then that of the old one; the old list is 0, the new one 1
answer (the_choice newMean oldMean) = record { number = 0; values = []; counts = chosen newMean oldMean (0 ∷ []) (1 ∷ []) }

pub record Example : Type 0 where
  pub asked : Question
  pub expected : Answered

-- m * 2 ^ -(e + 1)
abbrev pub scaled : ℕ → ℕ → Float
scaled m e = fin false m (negsuc e)

-- the answer that an average gives where there is none
abbrev pub nothing : Answered
nothing = valued 0 []

abbrev pub single : Float → Answered
single x = valued 0 (x ∷ [])

-- a whole number
abbrev pub count : ℕ → Answered
count n = record { number = 0; values = []; counts = n ∷ [] }

abbrev pub quarter : Float
quarter = scaled 1 1

abbrev pub half : Float
half = scaled 1 0

abbrev pub table : List Example
table =
    -- the root of 0.25 is 0.5, of 4 is 2, of -0 is -0, of 2 ^ -1074 is 2 ^ -537
    (record { asked = the_root quarter; expected = single half })
    ∷ (record { asked = the_root (fin false 1 (pos 2)); expected = single (fin false 1 (pos 1)) })
    ∷ (record { asked = the_root (fin true 0 (pos 0)); expected = single (fin true 0 (pos 0)) })
    ∷ (record { asked = the_root (scaled 1 1073); expected = single (scaled 1 536) })
    -- the mean of 1, 2, 6 is 3; of nothing there is none
    ∷ (record { asked = the_mean (counted 1 ∷ counted 2 ∷ counted 6 ∷ []); expected = single (counted 3) })
    ∷ (record { asked = the_mean []; expected = nothing })
    -- the variance of 2, 4, 4, 4, 5, 5, 7, 9 with ddof 0 is 4; of one value with ddof 1 there is none
    ∷ (record { asked = the_variance (counted 2 ∷ counted 4 ∷ counted 4 ∷ counted 4 ∷ counted 5 ∷ counted 5 ∷ counted 7 ∷ counted 9 ∷ []) 0; expected = single (counted 4) })
    ∷ (record { asked = the_variance (counted 1 ∷ []) 1; expected = nothing })
    -- the t-stat of 0.5, 0.5 is +infinity, of -0.5, -0.5 is 0
    ∷ (record { asked = the_tstat (half ∷ half ∷ []); expected = single (inf false) })
    ∷ (record { asked = the_tstat (fin true 1 (negsuc 0) ∷ fin true 1 (negsuc 0) ∷ []); expected = single (counted 0) })
    -- pair distances 1 (0-1), 2 (0-2), 4 (1-2) with labels 0, 0, 1: scores 0.5, 0.75, 0
    ∷ (record {
      asked = the_scores (counted 0 ∷ counted 1 ∷ counted 2 ∷ counted 1 ∷ counted 0 ∷ counted 4 ∷ counted 2 ∷ counted 4 ∷ counted 0 ∷ []) (0 ∷ 0 ∷ 1 ∷ []);
      expected = valued 0 (half ∷ scaled 3 1 ∷ counted 0 ∷ []);
    })
    -- the draws of a round, for one repeat: 3 for 2 names, 3 for 3, 10 for 4, 208 for 12
    ∷ (record { asked = the_draws 2; expected = count 3 })
    ∷ (record { asked = the_draws 3; expected = count 3 })
    ∷ (record { asked = the_draws 4; expected = count 10 })
    ∷ (record { asked = the_draws 12; expected = count 208 })
    -- the choice with 1.5 against 1.5 is the old list, with 2.0 against 1.5 the new one
    ∷ (record { asked = the_choice (scaled 3 0) (scaled 3 0); expected = count 0 })
    ∷ (record { asked = the_choice (fin false 1 (pos 1)) (scaled 3 0); expected = count 1 })
    ∷ []

-- each question of the list has the answer that stands beside it
unfoldable pub AllHold : List Example → Type 0
AllHold [] = Unit
AllHold (e ∷ es) = (answer e.asked ≡ e.expected) × AllHold es
