-- The answer of a statistic in its lists, or the refusal of lists that do not fit.
use Prim.Native.Nat.{ℕ}
use mathlib.Core.Path.{◌≡◌, refl, ◌∙◌, ap}
use mathlib.Core.List.{List, [], ◌∷◌, ◌++◌}
use native.Mathlib.Omega.{arith}
use borrow.Author.Tests.{eq-eqb, ne_eqb}
use lib.ListN.{length, set, drop}
use lib.Ieee.{Float}
use Rattle.std.proofs.Common.{Option, Ok}
use Rattle.stats.specs.Average.{Average, Averaged}
use Rattle.exports_reports.specs.Average.{number_without, average_reported}

pub two_written : (xs : List ℕ) (a b : ℕ) → length xs ≡ 2 → set (set xs 0 a) 1 b ≡ a ∷ b ∷ []
two_written [] a b h = absurd (omega arith)
two_written (x ∷ []) a b h = absurd (omega arith)
two_written (x ∷ y ∷ []) a b h = refl
two_written (x ∷ y ∷ z ∷ zs) a b h = absurd (omega arith)

-- a list of one, written
pub one_written : (xs : List Float) (a : Float) → length xs ≡ 1 → set xs 0 a ≡ (a ∷ []) ++ drop 1 xs
one_written [] a h = absurd (omega arith)
one_written (x ∷ []) a h = refl
one_written (x ∷ y ∷ ys) a h = absurd (omega arith)

-- an answer whose option is known
pub with_option : (a : Average) (o p : Option Float) → a ≡ Ok o → o ≡ p → a ≡ Ok p
with_option a o p e f = e ∙ ap Ok f

module _ (a : Averaged) (answer : List ℕ) (average : List Float) where
  -- an average list of another length than one
  pub average_short : {r : ℕ} → (length average ≡ 1 → ⊥) → r ≡ number_without a → record { number = r; answer = answer; average = average } ≡ average_reported a answer average
  unfolding average_reported
  average_short h e = rw (ne_eqb (length average) 1 h, e)

  -- an answer list of another length than two
  pub answer_short : {r : ℕ} → length average ≡ 1 → (length answer ≡ 2 → ⊥) → r ≡ number_without a → record { number = r; answer = answer; average = average } ≡ average_reported a answer average
  unfolding average_reported
  answer_short h g e = rw (eq-eqb (length average) 1 h, ne_eqb (length answer) 2 g, e)

  -- lists that fit
  pub average_reported_lem : {r : ℕ} {answer' : List ℕ} {average' : List Float} → length average ≡ 1 → length answer ≡ 2 → r ≡ a.number → answer' ≡ a.number ∷ length a.values ∷ []
      → average' ≡ a.values ++ drop (length a.values) average → record { number = r; answer = answer'; average = average' } ≡ average_reported a answer average
  unfolding average_reported
  average_reported_lem h g e f k = rw (eq-eqb (length average) 1 h, eq-eqb (length answer) 2 g, e, f, k)
