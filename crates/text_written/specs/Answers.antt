-- What a call that writes answers: how many bytes were written, or a refusal. Definitions only.
use Rattle.std.specs.Prelude.{ℕ, Result, Ok, Err}
use Rattle.refusals.specs.Table.{Refusal}
use Rattle.text_written.specs.declared.ListLength.{ListLength}

-- how many bytes were written, or that a list's length is wrong
abbrev pub Written : Type 0
Written = Result ℕ ListLength

-- the table's number of an answer, 0 where the text is written; its place, 0, since the table names none for 6; and how many bytes the text takes
abbrev pub number_of : Written → ℕ
number_of (Ok n) = 0
number_of (Err e) = 6

abbrev pub place_of : Written → ℕ
place_of (Ok n) = 0
place_of (Err e) = 0

abbrev pub refusal_of : Written → Refusal
refusal_of w = record { number = number_of w; place = place_of w }

abbrev pub bytes_of : Written → ℕ
bytes_of (Ok n) = n
bytes_of (Err e) = 0
