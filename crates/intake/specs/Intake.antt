-- A book in whole millionths: proper, or the first row of the table that applies, with the first cell row by row. Definitions only.
use Rattle.std.specs.Prelude.{ℕ, ◌+◌, ◌*◌, ◌/◌, ◌%◌, Bool, true, false, cond, List, eqb, ltb, leb, length, get_or, ℤ, pos, negsuc, nat_abs}
use Rattle.lists.specs.Lists.{first_to}
use Rattle.refusals.specs.Table.{Refusal, none, refused, whenever, unless, refusal, or_else}

-- the millionths of 1
abbrev pub million : ℕ
million = 1000000

-- the cell at place t
abbrev pub cell_of : List ℤ → ℕ → ℤ
cell_of cells t = get_or cells t (pos 0)

-- whether two whole numbers are the same
unfoldable pub same_z : ℤ → ℤ → Bool
same_z (pos a) (pos b) = eqb a b
same_z (pos a) (negsuc b) = false
same_z (negsuc a) (pos b) = false
same_z (negsuc a) (negsuc b) = eqb a b

-- whether a cell is within -1,000,000 and 1,000,000
unfoldable pub in_range : ℤ → Bool
in_range x = leb (nat_abs x) million

-- whether a cell is 1,000,000, if it is on the diagonal
unfoldable pub on_diagonal : ℤ → Bool → Bool
on_diagonal x true = same_z x (pos million)
on_diagonal x false = true

-- the cause of a cell x with the mirror y: 21 where x is out of range, else 22 where it may not stand on the diagonal, else 23 where y is another
-- number; 0 for none
unfoldable pub cause_of : ℤ → ℤ → Bool → ℕ
cause_of x y diagonal = cond (in_range x) (cond (on_diagonal x diagonal) (cond (same_z x y) 0 23) 22) 21

-- the refusal of the cell at place t for a cause, and none for 0
unfoldable pub caused : ℕ → ℕ → Refusal
caused cause t = whenever (ltb 0 cause) (record { number = cause; place = t }) none

-- the cause at place t of a book of n names: row t / n, column t % n; its mirror has the two exchanged
unfoldable pub cause_at : List ℤ → ℕ → ℕ → ℕ
cause_at cells n t = cause_of (cell_of cells t) (cell_of cells (t % n * n + t / n)) (eqb (t / n) (t % n))

-- the first place with a cause, row by row, and n * n where there is none
unfoldable pub first_fault : List ℤ → ℕ → ℕ
first_fault cells n = first_to (λ t. ltb 0 (cause_at cells n t)) (n * n)

-- what it gives: that cause and that place
unfoldable pub fault_of : List ℤ → ℕ → Refusal
fault_of cells n = whenever (ltb (first_fault cells n) (n * n)) (record { number = cause_at cells n (first_fault cells n); place = first_fault cells n }) none

-- the shape of a book of so many rows, columns and cells: 2, 4 or 5, then 6 where the other lists of the call do not fit
abbrev pub shape_of : ℕ → ℕ → ℕ → Bool → Refusal
shape_of rows cols cells fits = unless (eqb rows cols) (refused 2) (refusal cells rows rows fits 0 0)

-- the number of a book that is refused by its shape, from the number of `shape_of`; 6 cannot come, since no other list is asked about
unfoldable pub shape_number : ℕ → ℕ
shape_number k = cond (eqb k 2) 2 (cond (eqb k 4) 4 5)

-- the answer for a book of so many rows and columns: its shape, then its cells
unfoldable pub intake_of : List ℤ → ℕ → ℕ → Refusal
intake_of cells rows cols = or_else (shape_of rows cols (length cells) true) (fault_of cells rows)
