-- Lines of numbers: one field more, the ends, and how long they are.
use Prim.Native.Nat.{ℕ, zero, suc, ◌+◌, ◌*◌, ◌<◌, ◌≤◌}
use mathlib.Core.Path.{◌≡◌, refl, sym, ap, ◌∙◌}
use mathlib.Core.Bool.{Bool, true, false, cond}
use mathlib.Core.List.{[], ◌∷◌, ◌++◌}
use native.Mathlib.Numerals.{add-one}
use native.Mathlib.Nat.{suc-mul}
use native.Mathlib.Omega.{arith}
use borrow.Author.Tests.{eq-eqb, ne_eqb}
use lib.Dec.{eqb}
use lib.ListN.{length, length-append}
use Rattle.text_digits.specs.Digits.{digits_of, newline, stop_of}
use Rattle.text_digits.specs.Lines.{fields_of, line_of}
use Rattle.text_digits.proofs.Numerals.{length_digits}

module _ (b : ℕ) (width x : ℕ → ℕ) (n : ℕ) where
  -- no field yet
  pub fields_none : [] ≡ fields_of b width x n 0
  unfolding fields_of
  fields_none = refl

  -- one field more
  pub fields-more : (t : ℕ) → fields_of b width x n t ++ (digits_of b (width t) (x t) ++ (stop_of t n ∷ [])) ≡ fields_of b width x n (t + 1)
  unfolding fields_of
  fields-more t = ap (fields_of b width x n) (sym (add-one t))

  pub length_more : (t : ℕ) → length (fields_of b width x n (suc t)) ≡ length (fields_of b width x n t) + (width t + 1)
  unfolding fields_of
  length_more t =
      length-append (fields_of b width x n t) (digits_of b (width t) (x t) ++ (stop_of t n ∷ []))
      ∙ rw (length-append (digits_of b (width t) (x t)) (stop_of t n ∷ []), length_digits b (width t) (x t))

  -- the line of no field, and the line when its last field stands
  pub line_none : n ≡ 0 → newline ∷ [] ≡ line_of b width x n
  unfolding line_of
  line_none h = rw (eq-eqb n 0 h)

  pub line_some : (n ≡ 0 → ⊥) → fields_of b width x n n ≡ line_of b width x n
  unfolding line_of
  line_some h = rw (ne_eqb n 0 h)

  -- fields of at most m digits
  pub length_fields : (m t : ℕ) → ((j : ℕ) → j < t → width j ≤ m) → length (fields_of b width x n t) ≤ t * (m + 1)
  unfolding fields_of
  length_fields m zero h = omega arith
  length_fields m (suc t) h = rw (length_more t) (omega (arith, length_fields m t (λ j l. h j (omega arith)), h t (omega arith), suc-mul t (m + 1)))

  pub length_line : (m : ℕ) → ((j : ℕ) → j < n → width j ≤ m) → length (line_of b width x n) ≤ n * (m + 1) + 1
  unfolding line_of
  length_line m h = longest (eqb n 0) (omega arith) (omega (arith, length_fields m n h))
    where
      longest : (c : Bool) → 1 ≤ n * (m + 1) + 1 → length (fields_of b width x n n) ≤ n * (m + 1) + 1 → length (cond c (newline ∷ []) (fields_of b width x n n)) ≤ n * (m + 1) + 1
      longest true i j = i
      longest false i j = j
