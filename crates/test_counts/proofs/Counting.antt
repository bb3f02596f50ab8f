-- Counting the cases of a text: what holds at each turn of the loop, its steps, and its end. Assumes nothing.
use Prim.Native.Nat.{ℕ, ◌+◌, ◌≤◌, ◌<◌}
use mathlib.Core.Path.{◌≡◌, refl, ap}
use mathlib.Core.Bool.{Bool, true, false, cond, not}
use native.Mathlib.Omega.{arith}
use native.Mathlib.Numerals.{add-one}
use borrow.Author.Tests.{lt-leb, le-leb}
use lib.Dec.{leb}
use Rattle.lists.specs.Lists.{first_to}
use Rattle.lists.specs.Sums.{fold_if}
use Rattle.lists.proofs.First.{first_found, first_more}
use Rattle.test_counts.specs.declared.Counts.{Counts}
use Rattle.test_counts.specs.Counting.{start_by, cases_by, differ_by, passes, with_case, counts_by}

-- The next case of a text that is n long starts at `at`, and k counts the cases before it.
pub record Counted {C : Type 0} (case : ℕ → C) (next : C → ℕ) (right : ℕ → C → Bool) (n at : ℕ) (k : Counts) : Type 0 where
  pub starts : at ≡ start_by (λ i. next (case i)) k.cases
  pub in_text : first_to (λ j. leb n (start_by (λ i. next (case i)) j)) k.cases ≡ k.cases
  pub differing : k.differ ≡ differ_by (λ i. next (case i)) (λ i. passes (right i (case i)) (next (case i)) n) k.cases
  pub few : k.cases ≤ at
  pub few_in_text : k.cases ≤ n
  pub differ_few : k.differ ≤ k.cases

at_most_one : (b : Bool) → cond b 0 1 ≤ 1
at_most_one true = omega arith
at_most_one false = omega arith

count_by : (b : Bool) (x : ℕ) → x + cond b 0 1 ≡ cond (not b) (x + 1) x
count_by true x = omega arith
count_by false x = refl

module _ {C : Type 0} (case : ℕ → C) (next : C → ℕ) (right : ℕ → C → Bool) (n : ℕ) where
  -- no case was counted
  pub counted_none : Counted case next right n 0 (record { cases = 0; differ = 0 })
  unfolding start_by first_to fold_if
  counted_none = record { starts = refl; in_text = refl; differing = refl; few = omega arith; few_in_text = omega arith; differ_few = omega arith }

  -- one more, c, which starts in the text
  pub counted_more : {at : ℕ} {k l : Counts} {c : C} {r : Bool} → Counted case next right n at k → at < n → c ≡ case at → at < next c → r ≡ right at c → l ≡ with_case k (passes r (next c) n)
      → Counted case next right n (next c) l
  unfolding start_by fold_if
  counted_more {at} {k} {l} {c} {r} i h e f t s =
      let b = at_most_one (passes r (next c) n) in
      let s' = start_by (λ j. next (case j)) k.cases in
      let t' : passes r (next c) n ≡ passes (right s' (case s')) (next (case s')) n = rw (← i.starts, ← e) (ap (λ (p : Bool). passes p (next c) n) t) in
      rw s
      (record {
        starts = rw (add-one, ← i.starts, e);
        in_text = first_more _ _ i.in_text (rw (← i.starts) (lt-leb n at h));
        differing = rw (add-one, ← i.differing, ← t') (count_by (passes r (next c) n) k.differ);
        few = omega arith;
        few_in_text = omega arith;
        differ_few = omega arith;
      })

  ended : {at : ℕ} {k : Counts} → Counted case next right n at k → n ≤ at → k.cases ≡ cases_by (λ j. next (case j)) n
  unfolding cases_by
  ended {at} {k} i h = first_found _ _ _ i.in_text (rw (← i.starts) (le-leb n at h)) (omega arith)

  -- all were counted
  pub counted_all : {at : ℕ} {k : Counts} → Counted case next right n at k → n ≤ at → k ≡ counts_by case next right n
  unfolding counts_by
  counted_all i h = rw (← ended i h, ← i.differing)
