-- What a text gives: the answer, and both lists. Definitions only.
use Rattle.std.specs.Prelude.{ℕ, ◌*◌, cond, ◌||◌, List, ◌++◌, ltb, length, drop, Float, Option, Some, None, Result, Ok, Err}
use Rattle.lists.specs.Lists.{listed}
use Rattle.bits.specs.Bits.{double_of}
use Rattle.refusals.specs.Table.{Refusal, none, refused}
use Rattle.text_layout.specs.Layout.{layout_of, cell_form, draw_form, value_of}
use Rattle.text_layout.specs.declared.Layout.{Layout}
use Rattle.text_request.specs.declared.Request.{Request}
use Rattle.text_request.specs.declared.RequestError.{RequestError}
use Rattle.text_request.specs.declared.RequestError.TheVariants.{ListLength, Fault}

-- the table's number for each answer, 0 for a request that was read; its place, 0, since the table names none for 6 and 11; the names, the repeats
-- and the count of draws that the request says, 0 for a refusal
abbrev pub number_of : Result Request RequestError → ℕ
number_of (Ok r) = 0
number_of (Err ListLength) = 6
number_of (Err Fault) = 11

abbrev pub place_of : Result Request RequestError → ℕ
place_of (Ok r) = 0
place_of (Err ListLength) = 0
place_of (Err Fault) = 0

abbrev pub names_of : Result Request RequestError → ℕ
names_of (Ok r) = r.names
names_of (Err ListLength) = 0
names_of (Err Fault) = 0

abbrev pub repeats_of : Result Request RequestError → ℕ
repeats_of (Ok r) = r.repeats
repeats_of (Err ListLength) = 0
repeats_of (Err Fault) = 0

abbrev pub count_of : Result Request RequestError → ℕ
count_of (Ok r) = r.draws
count_of (Err ListLength) = 0
count_of (Err Fault) = 0

-- an answer, as the table gives it
pub record Answer : Type 0 where
  pub refused : Refusal
  pub names : ℕ
  pub repeats : ℕ
  pub count : ℕ

abbrev pub answer_of : Result Request RequestError → Answer
answer_of a = record { refused = record { number = number_of a; place = place_of a }; names = names_of a; repeats = repeats_of a; count = count_of a }

abbrev pub refusing : Refusal → Answer
refusing q = record { refused = q; names = 0; repeats = 0; count = 0 }

-- of a request for n names, r repeats and d draws
abbrev pub sizes_read : ℕ → ℕ → ℕ → Answer
sizes_read n r d = record { refused = none; names = n; repeats = r; count = d }

-- the answer, and what the lists for the cells and the draws hold then
pub record Requested : Type 0 where
  pub answer : Answer
  pub cells : List Float
  pub draws : List ℕ

-- a refusal, with both lists as they were
abbrev pub kept_lists : Refusal → List Float → List ℕ → Requested
kept_lists q cells draws = record { answer = refusing q; cells = cells; draws = draws }

-- n names, r repeats and d draws, of these bits of cells and these draws: where both lists have room the doubles of the bits stand
-- in the front n * n places of the one, the draws in the front d places of the other, and what lies behind them is as it was
unfoldable pub read_as : ℕ → ℕ → ℕ → (ℕ → ℕ) → (ℕ → ℕ) → List Float → List ℕ → Requested
read_as n r d cell draw cells draws =
    cond (ltb (length cells) (n * n) || ltb (length draws) d) (kept_lists (refused 6) cells draws)
    (record { answer = sizes_read n r d; cells = listed (λ t. double_of (cell t)) (n * n) ++ drop (n * n) cells; draws = listed draw d ++ drop d draws })

-- the same of a layout that was looked for in the text s
abbrev pub answered_of : List ℕ → Option Layout → List Float → List ℕ → Requested
answered_of s (Some l) cells draws = read_as l.names l.repeats l.draws (value_of cell_form s l.cells_at) (value_of draw_form s l.draws_at) cells draws
answered_of s None cells draws = kept_lists (refused 11) cells draws

-- what the text s gives
unfoldable pub request_of : List ℕ → List Float → List ℕ → Requested
request_of s cells draws = answered_of s (layout_of s) cells draws
