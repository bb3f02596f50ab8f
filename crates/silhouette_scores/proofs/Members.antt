-- Sums and counts over the members of a group, for all items at a time.
use Prim.Native.Nat.{ℕ, zero, suc, ◌+◌, ◌<◌}
use mathlib.Core.Path.{◌≡◌, refl, sym, ◌∙◌, ap}
use mathlib.Core.Bool.{Bool, true, false, cond}
use mathlib.Core.List.{List}
use mathlib.Core.Logic.{⊎_elim, by_cases}
use native.Mathlib.Nat.{eq-or-lt_of_le, ne_of_lt}
use native.Mathlib.Omega.{arith}
use native.Mathlib.Decide.{ℕ_discrete}
use borrow.Author.Tests.{eq-eqb, ne_eqb}
use lib.Dec.{eqb}
use lib.ListN.{length, set, replicate}
use lib.Ieee.{Float, nan, add, binary64}
use Rattle.lists.specs.Lists.{listed, cells, numbers, row}
use Rattle.lists.specs.Sums.{zero64, fold_if, sum_if, count_if, group_size}
use Rattle.lists.proofs.Listed.{listed_same, listed_set, listed_const, listed_length, get_d_listed}
use Rattle.lists.proofs.Sums.{fold_in, fold_out, fold_same}
use Rattle.lists.proofs.Matrix.{row_cell}
use Rattle.silhouette_scores.specs.Scores.{member}
use Rattle.silhouette_scores.specs.Groups.{distance}
use Rattle.lists.proofs.Tests.{and-false, and-true}

module _ (label : ℕ → ℕ) where
  member_self : (i l j : ℕ) → j ≡ i → member label i l j ≡ false
  member_self i l j e = rw (eq-eqb j i e) (and-false (eqb (label j) l))

  member_other : (i l j : ℕ) → (j ≡ i → ⊥) → member label i l j ≡ eqb (label j) l
  member_other i l j h = rw (ne_eqb j i h) (and-true (eqb (label j) l))

  -- an item outside the group does not lessen its count
  pub size_out : (i l n : ℕ) → (label i ≡ l → ⊥) → count_if (member label i l) n ≡ group_size label n l
  size_out i l n h =
      fold_same (member label i l) (λ j. eqb (label j) l) (λ c k. c + 1) (λ c k. c + 1) 0 n
      (λ k b. by_cases (ℕ_discrete k i)
      (λ e. member_self i l k e ∙ sym (ne_eqb (label k) l (λ q. h (ap label (sym e) ∙ q))))
      (λ e. member_other i l k e))
      (λ x k b. refl)

  both_more : (b : Bool) (x : ℕ) → cond b (x + 1 + 1) (x + 1) ≡ cond b (x + 1) x + 1
  both_more true x = refl
  both_more false x = refl

  -- a member leaves one fewer
  pub size_in : (i l n : ℕ) → label i ≡ l → i < n → group_size label n l ≡ count_if (member label i l) n + 1
  unfolding fold_if
  size_in i l zero e h = absurd (omega arith)
  size_in i l (suc n) e h =
      ⊎_elim
      (λ q.
      let before : count_if (member label i l) n ≡ group_size label n l =
      fold_same (member label i l) (λ j. eqb (label j) l) (λ c k. c + 1) (λ c k. c + 1) 0 n
      (λ k b. member_other i l k (λ r. omega arith)) (λ x k b. refl) in
      rw (member_self i l n (sym q), eq-eqb (label n) l (ap label (sym q) ∙ e), before))
      (λ q. rw (member_other i l n (λ r. ne_of_lt q (sym r)), size_in i l n e q) (both_more (eqb (label n) l) (count_if (member label i l) n)))
      (eq-or-lt_of_le {n = i} {m = n} (omega arith))

-- each item's sum over the members of l below j
abbrev pub sums_to : List Float → List ℕ → ℕ → ℕ → ℕ → Float
sums_to across labels l j i = sum_if (member (numbers labels) i l) (distance across (length labels) i) j

module _ (across : List Float) (labels : List ℕ) (l : ℕ) where
  pub sums_none : {xs : List Float} → xs ≡ replicate (length labels) zero64 → xs ≡ listed (sums_to across labels l 0) (length labels)
  unfolding fold_if
  sums_none e = e ∙ sym (listed_const zero64 (length labels))

  -- item j is not in the group
  pub sums_skip : (j : ℕ) {xs : List Float} → xs ≡ listed (sums_to across labels l j) (length labels) → (numbers labels j ≡ l → ⊥)
      → xs ≡ listed (sums_to across labels l (j + 1)) (length labels)
  sums_skip j e h =
      e ∙ listed_same nan (sums_to across labels l j) (sums_to across labels l (j + 1)) (length labels)
      (λ i b. sym (fold_out (member (numbers labels) i l) (λ s k. add binary64 s (distance across (length labels) i k)) zero64 j (rw (ne_eqb (numbers labels j) l h))))

  -- item j is: its row is added to the sums of the others
  pub sums_add : (j : ℕ) {xs r ys : List Float} → xs ≡ listed (sums_to across labels l j) (length labels) → numbers labels j ≡ l → j < length labels → r ≡ row across (length labels) j
      → ys ≡ set (listed (λ i. add binary64 (cells xs i) (cells r i)) (length xs)) j (cells xs j) → ys ≡ listed (sums_to across labels l (j + 1)) (length labels)
  sums_add j {xs} {r} e h b q y =
      let m = length labels in
      let cell : (i : ℕ) → i < m → cells xs i ≡ sums_to across labels l j i = λ i c. ap (λ (x : List Float). cells x i) e ∙ get_d_listed (sums_to across labels l j) m i nan c in
      y ∙ ap (λ (n : ℕ). set (listed (λ i. add binary64 (cells xs i) (cells r i)) n) j (cells xs j)) (listed_length (sums_to across labels l j) m e)
      ∙ listed_set nan (λ i. add binary64 (cells xs i) (cells r i)) (sums_to across labels l (j + 1)) m j (cells xs j) b
      (cell j b ∙ sym (fold_out (member (numbers labels) j l) (λ s k. add binary64 s (distance across m j k)) zero64 j (member_self (numbers labels) j l j refl)))
      (λ i c n.
      rw (cell i c, q, row_cell nan across m j i c)
      (sym (fold_in (member (numbers labels) i l) (λ s k. add binary64 s (distance across m i k)) zero64 j
      (member_other (numbers labels) i l j (λ t. n (sym t)) ∙ eq-eqb (numbers labels j) l h))))
