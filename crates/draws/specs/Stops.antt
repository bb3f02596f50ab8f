-- What can end a run, by the table of refusals, and what taking one draw answers. Definitions only.
use Rattle.std.specs.Prelude.{ℕ, Result, Ok, Err}
use Rattle.draws.specs.declared.Stop.{Stop}
use Rattle.draws.specs.declared.Stop.TheVariants.{Rounds, Short, DrawOutOfRange, ClusteringFailed}
use Rattle.draws.specs.Draws.{Drawn, drawn, refused}

-- the table's number, and its place: for 7 the draws read so far, 0 where the table names none. 3 is never returned: onc/specs/Certain.antt
abbrev pub stop_number : Stop → ℕ
stop_number Rounds = 9
stop_number (Short read) = 7
stop_number (DrawOutOfRange p) = 8
stop_number ClusteringFailed = 3

abbrev pub stop_place : Stop → ℕ
stop_place Rounds = 0
stop_place (Short read) = read
stop_place (DrawOutOfRange p) = p
stop_place ClusteringFailed = 0

-- the answer of one draw that was taken
abbrev pub draw_of : Drawn ℕ → Result ℕ Stop
draw_of (drawn d rest) = Ok d
draw_of (refused p) = Err (DrawOutOfRange p)
