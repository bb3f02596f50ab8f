-- A list of four numbers that is written, and a call that is refused because the list for its answer has another length.
use Prim.Native.Nat.{ℕ}
use mathlib.Core.Path.{◌≡◌, refl, sym, ◌∙◌}
use mathlib.Core.Bool.{Bool, true, false, cond}
use mathlib.Core.List.{List, [], ◌∷◌}
use native.Mathlib.Omega.{arith}
use borrow.Author.Tests.{eqb-true}
use lib.Dec.{eqb}
use lib.ListN.{length, set}

four : (xs : List ℕ) (a b c d : ℕ) → length xs ≡ 4 → set (set (set (set xs 0 a) 1 b) 2 c) 3 d ≡ a ∷ b ∷ c ∷ d ∷ []
four [] a b c d h = absurd (omega arith)
four (x ∷ []) a b c d h = absurd (omega arith)
four (x ∷ y ∷ []) a b c d h = absurd (omega arith)
four (x ∷ y ∷ z ∷ []) a b c d h = absurd (omega arith)
four (x ∷ y ∷ z ∷ u ∷ []) a b c d h = refl
four (x ∷ y ∷ z ∷ u ∷ v ∷ vs) a b c d h = absurd (omega arith)

pub four_written : (xs : List ℕ) {a b c d n p g r : ℕ} → length xs ≡ 4 → a ≡ n → b ≡ p → c ≡ g → d ≡ r → set (set (set (set xs 0 a) 1 b) 2 c) 3 d ≡ n ∷ p ∷ g ∷ r ∷ []
four_written xs {a} {b} {c} {d} h e f g k = four xs a b c d h ∙ rw (e, f, g, k)

-- where a list of another length than k is refused by a number that is not 0, a call that is not refused was lent k places
by_places : (t : Bool) (k places : ℕ) {q r : ℕ} → eqb places k ≡ t → (q ≡ 0 → ⊥) → r ≡ cond t 0 q → r ≡ 0 → places ≡ k
by_places true k places h n e z = eqb-true places k h
by_places false k places h n e z = absurd (n (sym e ∙ z))

pub places_are : (k places : ℕ) {q r : ℕ} → (q ≡ 0 → ⊥) → r ≡ cond (eqb places k) 0 q → r ≡ 0 → places ≡ k
places_are k places n e z = by_places (eqb places k) k places refl n e z

-- and one that is refused leaves what f says of its number
pub refused_as : {A : Type 0} (t : Bool) (q : ℕ) (x : A) (f : ℕ → A) {r : ℕ} → r ≡ cond t 0 q → (r ≡ 0 → ⊥) → f r ≡ cond t x (f q)
refused_as true q x f e h = absurd (h e)
refused_as false q x f e h = rw e
