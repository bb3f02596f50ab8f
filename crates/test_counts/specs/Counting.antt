-- The count of the cases of a text. Definitions only.
use Rattle.std.specs.Prelude.{ℕ, zero, suc, ◌+◌, Bool, cond, not, ◌&&◌, leb}
use Rattle.lists.specs.Lists.{first_to}
use Rattle.lists.specs.Sums.{count_if}
use Rattle.test_counts.specs.declared.Counts.{Counts}

-- where case j of a text starts: the first at 0, each other where `next` says that the one behind it starts
unfoldable pub start_by : (ℕ → ℕ) → ℕ → ℕ
start_by next zero = 0
start_by next (suc j) = next (start_by next j)

-- the cases of a text that is n long: up to the first that would start at its end or behind it
unfoldable pub cases_by : (ℕ → ℕ) → ℕ → ℕ
cases_by next n = first_to (λ j. leb n (start_by next j)) (n + 1)

-- how many of the first k cases do not pass, by where each starts
abbrev pub differ_by : (ℕ → ℕ) → (ℕ → Bool) → ℕ → ℕ
differ_by next passed k = count_if (λ j. not (passed (start_by next j))) k

-- counts with one case more, which passes or not
abbrev pub with_case : Counts → Bool → Counts
with_case k passed = record { cases = k.cases + 1; differ = k.differ + cond passed 0 1 }

-- whether a case that ends at `next` passes in a text that is n long: it is right, and does not end behind the text
unfoldable pub passes : Bool → ℕ → ℕ → Bool
passes right next n = leb next n && right

-- the cases of a text that is n long, and how many of them do not pass, by the case that stands at a place, where the one behind a case
-- starts, and whether a case at a place is right
unfoldable pub counts_by : {C : Type 0} → (ℕ → C) → (C → ℕ) → (ℕ → C → Bool) → ℕ → Counts
counts_by case next right n =
    let cases = cases_by (λ at. next (case at)) n in
    record { cases = cases; differ = differ_by (λ at. next (case at)) (λ at. passes (right at (case at)) (next (case at)) n) cases }
