-- What a call for C gives and leaves, with its answer in a list of three numbers.
use Prim.Native.Nat.{ℕ}
use mathlib.Core.Path.{◌≡◌, ap}
use mathlib.Core.Bool.{false, cond}
use mathlib.Core.List.{List, [], ◌∷◌}
use borrow.Author.Tests.{eq-eqb}
use lib.Dec.{eqb}
use lib.ListN.{length}
use lib.Ieee.{Float}
use Rattle.lists.proofs.Tests.{impossible}
use Rattle.refusals.specs.Table.{refusal}
use Rattle.refusals.proofs.Laws.{accepted}
use Rattle.std.proofs.Common.{Result}
use Rattle.kmeans_answers.specs.declared.KmeansError.{KmeansError}
use Rattle.kmeans_answers.specs.Answers.{number_of, place_of, refusal_of, read_of}
use Rattle.kmeans_answers.specs.Leaf.{Leaf}
use Rattle.exports_reports.proofs.Written.{places_are, refused_as}
use Rattle.harness_exports.specs.Reported.{reported_of}

-- the list for the answer has three places where it is not refused
pub three_places : (cells n places : ℕ) {r : ℕ} → r ≡ cond (eqb places 3) 0 (refusal cells n n false 0 0).number → r ≡ 0 → places ≡ 3
three_places cells n places e z = places_are 3 places (λ q. impossible (accepted cells n n false 0 0 (ap (λ (x : ℕ). eqb x 0) q)).fitting) e z

module _ (cells n : ℕ) (leaf : Leaf) (answer out : List ℕ) (floats : List Float) (numbers : List ℕ) where
  pub reported : (a : Result ℕ KmeansError) {r : ℕ} {answer' out' numbers' : List ℕ} {floats' : List Float} → length answer ≡ 3
      → record { answer = refusal_of a; read = read_of a; out = out'; floats = floats'; numbers = numbers' } ≡ leaf → r ≡ number_of a → answer' ≡ number_of a ∷ place_of a ∷ read_of a ∷ []
      → record { number = r; answer = answer'; out = out'; floats = floats'; numbers = numbers' } ≡ reported_of cells n leaf answer out floats numbers
  unfolding reported_of
  reported a h e f g = rw (eq-eqb (length answer) 3 h, ← e, f, g)

  pub refused_as_is : {r : ℕ} → r ≡ cond (eqb (length answer) 3) 0 (refusal cells n n false 0 0).number → (r ≡ 0 → ⊥)
      → record { number = r; answer = answer; out = out; floats = floats; numbers = numbers } ≡ reported_of cells n leaf answer out floats numbers
  unfolding reported_of
  refused_as_is e h = refused_as (eqb (length answer) 3) (refusal cells n n false 0 0).number _ (λ q. record { number = q; answer = answer; out = out; floats = floats; numbers = numbers }) e h
