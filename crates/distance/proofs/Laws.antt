-- What the checks give to the functions behind them, and the plain book as a matrix.
use Prim.Native.Nat.{ℕ, zero, suc, ◌*◌, ◌/◌, ◌%◌}
use mathlib.Core.Path.{◌≡◌, sym, ap}
use mathlib.Core.Bool.{Bool}
use mathlib.Core.List.{List}
use native.Mathlib.Nat.{div-add-mod'}
use native.Mathlib.Omega.{arith}
use lib.ListN.{length}
use lib.Ieee.{Float, nan}
use Rattle.lists.specs.Lists.{listed, cells, cell_at, matrix_of, first_from}
use Rattle.lists.proofs.Listed.{listed_same}
use Rattle.lists.proofs.First.{from_none}
use Rattle.refusals.proofs.Laws.{Accepted}
use Rattle.distance.specs.Distance.{Readable}

-- a book that is not refused can be read through its rows
pub readable : (book : List Float) (n : ℕ) (rows : List ℕ) (fits : Bool) → Accepted (length book) n (length rows) fits (first_from n rows) (length rows) → Readable book n rows
readable book n rows fits a =
    record { few = a.few; square = a.square; few_read = a.few_read; within = from_none n rows a.in_range }

-- the cells of a plain book, one after the other, are those of its rows and columns
pub plain_matrix : (g : Float → Float) (book : List Float) (n : ℕ) → listed (λ t. g (cells book t)) (n * n) ≡ matrix_of (λ i j. g (cell_at book n i j)) n
plain_matrix g book zero = listed_same nan (λ t. g (cells book t)) (λ t. g (cell_at book zero (t / zero) (t % zero))) (zero * zero) (λ t l. absurd (omega arith))
plain_matrix g book (suc n) =
    listed_same nan (λ t. g (cells book t)) (λ t. g (cell_at book (suc n) (t / suc n) (t % suc n))) (suc n * suc n)
    (λ t l. ap (λ (k : ℕ). g (cells book k)) (sym (div-add-mod' t (suc n))))
