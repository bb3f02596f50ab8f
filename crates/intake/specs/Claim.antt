-- When a book in whole millionths is proper, by row and column, and what `intake_of` (Intake.antt) says of it. Definitions only;
-- `intake_claim` in proofs/Claim.antt proves the claim of every book.
use Rattle.std.specs.Prelude.{ℕ, ◌+◌, ◌*◌, ◌/◌, ◌%◌, ◌<◌, ◌≤◌, ◌≡◌, List, length, ℤ, pos, nat_abs}
use Rattle.refusals.specs.Table.{Refusal, none, refused}
use Rattle.intake.specs.Intake.{million, cell_of, intake_of}

-- the cell in row i and column j of a book of n names
abbrev pub cell : List ℤ → ℕ → ℕ → ℕ → ℤ
cell cells n i j = cell_of cells (i * n + j)

-- the three rules for a cell
pub record Right (cells : List ℤ) (n i j : ℕ) : Type 0 where
  pub range : nat_abs (cell cells n i j) ≤ million
  pub diagonal : i ≡ j → cell cells n i j ≡ pos million
  pub mirror : cell cells n i j ≡ cell cells n j i

-- a proper book: every cell keeps them
pub record ProperBook (cells : List ℤ) (n : ℕ) : Type 0 where
  pub right : (i j : ℕ) → i < n → j < n → Right cells n i j

-- the number for the first rule that a cell breaks
pub data Cause (cells : List ℤ) (n i j : ℕ) : ℕ → Type 0 where
  out_of_range : million < nat_abs (cell cells n i j) → Cause cells n i j 21
  not-one : nat_abs (cell cells n i j) ≤ million → i ≡ j → (cell cells n i j ≡ pos million → ⊥) → Cause cells n i j 22
  not_mirrored : nat_abs (cell cells n i j) ≤ million → (i ≡ j → cell cells n i j ≡ pos million) → (cell cells n i j ≡ cell cells n j i → ⊥) → Cause cells n i j 23

-- the right shape
pub record Shaped (cells : List ℤ) (n : ℕ) : Type 0 where
  pub two : 2 ≤ n
  pub few : n ≤ 256
  pub full : length cells ≡ n * n

-- the number for the first fault of another shape
pub data Misshaped (cells : List ℤ) (rows cols : ℕ) : ℕ → Type 0 where
  not_square : (rows ≡ cols → ⊥) → Misshaped cells rows cols 2
  few_rows : rows ≡ cols → rows < 2 → Misshaped cells rows cols 2
  many_rows : rows ≡ cols → 256 < rows → Misshaped cells rows cols 4
  cell_count : rows ≡ cols → 2 ≤ rows → rows ≤ 256 → (length cells ≡ rows * rows → ⊥) → Misshaped cells rows cols 5

-- an answer that names the first cell, row by row, that breaks a rule
pub record FirstCell (cells : List ℤ) (n : ℕ) (q : Refusal) : Type 0 where
  pub inside : q.place < n * n
  pub cause : Cause cells n (q.place / n) (q.place % n) q.number
  pub before : (t : ℕ) → t < q.place → Right cells n (t / n) (t % n)

-- A book of another shape is refused for it. Of a book of the right shape the number is 0 exactly if it is proper, and any other names the first
-- cell with its cause.
pub record IntakeClaim : Type 0 where
  pub misshaped : (cells : List ℤ) (rows cols k : ℕ) → Misshaped cells rows cols k → intake_of cells rows cols ≡ refused k
  pub proper : (cells : List ℤ) (n : ℕ) → Shaped cells n → (intake_of cells n n).number ≡ 0 → ProperBook cells n
  pub passed : (cells : List ℤ) (n : ℕ) → Shaped cells n → ProperBook cells n → intake_of cells n n ≡ none
  pub named : (cells : List ℤ) (n : ℕ) → Shaped cells n → ((intake_of cells n n).number ≡ 0 → ⊥) → FirstCell cells n (intake_of cells n n)
