-- A list of three numbers that is written.
use Prim.Native.Nat.{ℕ}
use mathlib.Core.Path.{◌≡◌, refl, ◌∙◌}
use mathlib.Core.List.{List, [], ◌∷◌}
use native.Mathlib.Omega.{arith}
use lib.ListN.{length, set}

three : (xs : List ℕ) (a b c : ℕ) → length xs ≡ 3 → set (set (set xs 0 a) 1 b) 2 c ≡ a ∷ b ∷ c ∷ []
three [] a b c h = absurd (omega arith)
three (x ∷ []) a b c h = absurd (omega arith)
three (x ∷ y ∷ []) a b c h = absurd (omega arith)
three (x ∷ y ∷ z ∷ []) a b c h = refl
three (x ∷ y ∷ z ∷ u ∷ us) a b c h = absurd (omega arith)

pub three_written : (xs : List ℕ) {a b c n p r : ℕ} → length xs ≡ 3 → a ≡ n → b ≡ p → c ≡ r → set (set (set xs 0 a) 1 b) 2 c ≡ n ∷ p ∷ r ∷ []
three_written xs {a} {b} {c} h e f g = three xs a b c h ∙ rw (e, f, g)
