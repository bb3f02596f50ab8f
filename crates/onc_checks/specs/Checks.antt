-- The rows of the table of refusals that the grouping checks before its run. Definitions only.
use Rattle.std.specs.Prelude.{ℕ, ◌*◌, Bool, ◌&&◌, eqb, ltb, leb}
use Rattle.refusals.specs.Table.{Refusal, refused, whenever, unless, refusal, work_doubles, work_numbers}

-- outputs of exactly the lengths for n names, and lists to work in of at least theirs
abbrev pub lists_fit : ℕ → (order sizes scores ordered floats numbers : ℕ) → Bool
lists_fit n order sizes scores ordered floats numbers =
    eqb order n && (eqb sizes n && (eqb scores n && (eqb ordered (n * n) && (leb (work_doubles n) floats && leb (work_numbers n) numbers))))

-- the rows of the table that keep every list: 1, 2, 4, 5, 6
unfoldable pub shape_of : (repeat rows cols cells : ℕ) → Bool → Refusal
shape_of repeat rows cols cells fits =
    whenever (eqb repeat 0) (refused 1)
    (unless (eqb rows cols) (refused 2)
    (whenever (ltb rows 2) (refused 2)
    (whenever (ltb 64 repeat) (refused 4)
    (refusal cells rows rows fits 0 0))))
