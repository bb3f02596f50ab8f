-- What the grouping program prints for the text that it reads. Definitions only.
use Rattle.std.specs.Prelude.{ℕ, ◌*◌, true, cond, List, eqb, length, take, replicate, Float}
use Rattle.lists.specs.Lists.{listed}
use Rattle.lists.specs.Sums.{zero64}
use Rattle.refusals.specs.Table.{Refusal}
use Rattle.draws.specs.Stops.{stop_number, stop_place}
use Rattle.partition.specs.Partition.{label_of}
use Rattle.round.specs.Round.{Run, done, ended}
use Rattle.onc_checks.specs.Checks.{shape_of}
use Rattle.onc_run.specs.Run.{run_of}
use Rattle.text_request.specs.Request.{Answer, Requested, request_of}
use Rattle.text_answer.specs.Answer.{grouped_text, refused_text}

-- the end of a run of n names: the label of each name is the number of the group that has it
abbrev pub run_text : ℕ → Run → List ℕ
run_text n (done s ms read rest) = grouped_text (length s.groups) read (listed (label_of s.groups) n) s.scores
run_text n (ended q ms) = refused_text (stop_number q) (stop_place q)

-- refused by the first row that applies before the run, or else the end of the run
abbrev pub text_after : Refusal → ℕ → Run → List ℕ
text_after q n r = cond (eqb q.number 0) (run_text n r) (refused_text q.number q.place)

-- the grouping of a book of n names, with lists of the right lengths
unfoldable pub book_text : (n repeats : ℕ) → List Float → List ℕ → List ℕ
book_text n repeats book draws = text_after (shape_of repeats n n (length book) true) n (run_of book n repeats draws)

-- a text that is not in the layout is refused, with 11; else its book is grouped, by its draws. The lists are never too short here
abbrev pub text_for : Answer → List Float → List ℕ → List ℕ
text_for a cells draws =
    cond (eqb a.refused.number 0) (book_text a.names a.repeats (take (a.names * a.names) cells) (take a.count draws))
    (refused_text a.refused.number a.refused.place)

abbrev pub text_of : Requested → List ℕ
text_of q = text_for q.answer q.cells q.draws

-- what is printed for the text s, read to lists for the most cells and draws that a text may have
unfoldable pub program_of : List ℕ → List ℕ
program_of s = text_of (request_of s (replicate 144 zero64) (replicate 1024 0))
