-- What the checks give to the functions behind them, and the record of an answer.
use Prim.Native.Nat.{ℕ, ◌+◌, ◌<◌, ◌≤◌}
use mathlib.Core.Path.{◌≡◌}
use mathlib.Core.List.{[], ◌∷◌}
use mathlib.Core.Logic.{by_cases}
use native.Mathlib.Decide.{dec_lt}
use native.Mathlib.Omega.{arith}
use borrow.Author.Tests.{lt-ltb, le-ltb, le-leb, lt-leb, ne_eqb}
use Rattle.std.proofs.Common.{Err}
use lib.Ieee.{Float}
use Rattle.refusals.specs.Table.{Refusal, none, number_of, refusal_of}
use Rattle.refusals.specs.declared.Cause.{Cause}
use Rattle.refusals.proofs.Laws.{err_number}
use Rattle.distance_squared.specs.Leaves.{first_bad, measured}

-- a place for a number that no bad number takes: they are all in range
pub record Good (bad m i j : ℕ) : Type 0 where
  pub rows_good : m ≤ bad
  pub first_good : i < m
  pub second_good : j < m

pub all_good : (bad m i j : ℕ) → m + 2 ≤ first_bad bad m i j → Good bad m i j
unfolding first_bad
all_good bad m i j h =
    by_cases (dec_lt bad m)
    (λ l. let z : m + 2 ≤ bad = rw (lt-ltb bad m l) at h in absurd (omega arith))
    (λ l. by_cases (dec_lt i m)
    (λ a. by_cases (dec_lt j m)
    (λ b. record { rows_good = omega arith; first_good = a; second_good = b })
    (λ b. let z : m + 2 ≤ m + 1 = rw (le-ltb bad m (omega arith), lt-leb m i a, le-leb m j (omega arith)) at h in absurd (omega arith)))
    (λ a. let z : m + 2 ≤ m = rw (le-ltb bad m (omega arith), le-leb m i (omega arith)) at h in absurd (omega arith)))

-- the records of a call that answers Err, and of one that answers Ok
pub not_measured : (k : Cause) {q : Refusal} → refusal_of (Err k) ≡ q → (x : Float) → record { answer = refusal_of (Err k); values = [] } ≡ measured q x
not_measured k is x = rw (← is, ne_eqb (number_of (Err k)) 0 (err_number k))

pub was_measured : {q : Refusal} {x y : Float} → none ≡ q → y ≡ x → record { answer = none; values = y ∷ [] } ≡ measured q x
was_measured is e = rw (← is, e)
