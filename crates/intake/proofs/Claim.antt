-- What an answer says of a book (specs/Claim.antt).
use Prim.Native.Nat.{ℕ, zero, suc, ◌+◌, ◌*◌, ◌/◌, ◌%◌, ◌<◌, ◌≤◌}
use mathlib.Core.Path.{◌≡◌, refl, sym, ap, ◌∙◌}
use mathlib.Core.Bool.{Bool, true, false, cond}
use mathlib.Core.List.{List}
use mathlib.Core.Logic.{by_cases, ⊎_elim}
use native.Mathlib.Decide.{ℕ_discrete, dec_lt}
use native.Mathlib.Nat.{div-add-mod', eq-or-lt_of_le}
use native.Mathlib.Omega.{arith}
use borrow.Author.Tests.{lt-ltb, le-ltb, ltb-false, eq-eqb, ne_eqb, leb-true, leb-false, le-leb}
use lib.Dec.{eqb, ltb}
use lib.IntN.{ℤ, pos, nat_abs}
use lib.ListN.{length}
use Rattle.lists.specs.Lists.{first_to}
use Rattle.lists.proofs.Tests.{impossible}
use Rattle.lists.proofs.Matrix.{row_below, column_below, cell_below, row_of_cell, column_of_cell}
use Rattle.lists.proofs.First.{first-none}
use Rattle.refusals.specs.Table.{Refusal, none, refused, refusal, whenever, unless, or_else}
use Rattle.intake.specs.Intake.{million, cell_of, same_z, in_range, on_diagonal, cause_of, cause_at, first_fault, fault_of, intake_of}
use Rattle.intake.specs.Claim.{cell, Right, ProperBook, Cause, out_of_range, not-one, not_mirrored, Shaped, Misshaped, not_square, few_rows, many_rows, cell_count, FirstCell, IntakeClaim}
use Rattle.intake.proofs.Whole.{same_true, same_self}
use Rattle.intake.proofs.Faults.{some_names, first_cause, no_fault, is_fault}

-- ---- one cell

-- the test of the diagonal
diagonal_is : (x : ℤ) (i j : ℕ) → on_diagonal x (eqb i j) ≡ true → i ≡ j → x ≡ pos million
unfolding on_diagonal
diagonal_is x i j e h = same_true x (pos million) (rw (eq-eqb i j h) at e)

is_diagonal : (x : ℤ) (i j : ℕ) → (i ≡ j → x ≡ pos million) → on_diagonal x (eqb i j) ≡ true
unfolding on_diagonal
is_diagonal x i j d =
    by_cases (ℕ_discrete i j) (λ e. rw (eq-eqb i j e) (ap (λ (y : ℤ). same_z y (pos million)) (d e) ∙ same_self (pos million))) (λ e. rw (ne_eqb i j e))

not_diagonal : (x : ℤ) (i j : ℕ) → on_diagonal x (eqb i j) ≡ false → (i ≡ j) × (x ≡ pos million → ⊥)
unfolding on_diagonal
not_diagonal x i j e =
    by_cases (ℕ_discrete i j)
    (λ q. (q, λ z. impossible (sym e ∙ is_diagonal x i j (λ _. z))))
    (λ q. impossible (sym e ∙ rw (ne_eqb i j q) refl))

module _ (cells : List ℤ) (n i j : ℕ) where
  abbrev x : ℤ
  x = cell cells n i j

  abbrev y : ℤ
  y = cell cells n j i

  -- a cell without a cause is right
  right_if : (a b c : Bool) (k : ℕ) → in_range x ≡ a → on_diagonal x (eqb i j) ≡ b → same_z x y ≡ c → k ≡ cond a (cond b (cond c 0 23) 22) 21 → k ≡ 0 → Right cells n i j
  unfolding in_range
  right_if true true true k e f g h z = record { range = leb-true (nat_abs x) million e; diagonal = diagonal_is x i j f; mirror = same_true x y g }
  right_if true true false k e f g h z = absurd (omega arith)
  right_if true false c k e f g h z = absurd (omega arith)
  right_if false b c k e f g h z = absurd (omega arith)

  -- and one with a cause has it
  cause_if : (a b c : Bool) (k : ℕ) → in_range x ≡ a → on_diagonal x (eqb i j) ≡ b → same_z x y ≡ c → k ≡ cond a (cond b (cond c 0 23) 22) 21 → 0 < k → Cause cells n i j k
  unfolding in_range
  cause_if true true true k e f g h l = absurd (omega arith)
  cause_if true true false k e f g h l =
      rw h (not_mirrored (leb-true (nat_abs x) million e) (diagonal_is x i j f) (λ q. impossible (sym g ∙ ap (same_z x) (sym q) ∙ same_self x)))
  cause_if true false c k e f g h l = let d = not_diagonal x i j f in rw h (not-one (leb-true (nat_abs x) million e) d.0 d.1)
  cause_if false b c k e f g h l = rw h (out_of_range (leb-false (nat_abs x) million e))

  -- a right cell has no cause
  no_cause : Right cells n i j → cause_of x y (eqb i j) ≡ 0
  unfolding cause_of in_range
  no_cause r =
      let m : same_z x y ≡ true = ap (same_z x) (sym r.mirror) ∙ same_self x in
      rw (le-leb (nat_abs x) million r.range, is_diagonal x i j r.diagonal, m)

module _ (cells : List ℤ) (n t : ℕ) where
  -- the cell at place t by its row and column
  cause_there : cause_at cells n t ≡ cause_of (cell cells n (t / n) (t % n)) (cell cells n (t % n) (t / n)) (eqb (t / n) (t % n))
  unfolding cause_at
  cause_there = ap (λ (k : ℕ). cause_of (cell_of cells k) (cell_of cells (t % n * n + t / n)) (eqb (t / n) (t % n))) (sym (div-add-mod' t n))

  right_there : cause_at cells n t ≡ 0 → Right cells n (t / n) (t % n)
  unfolding cause_of
  right_there h = right_if cells n (t / n) (t % n) _ _ _ (cause_at cells n t) refl refl refl cause_there h

  caused_there : (k : ℕ) → k ≡ cause_at cells n t → 0 < k → Cause cells n (t / n) (t % n) k
  unfolding cause_of
  caused_there k h l = cause_if cells n (t / n) (t % n) _ _ _ k refl refl refl (h ∙ cause_there) l

-- ---- all cells

-- before the first place the test fails
first_step : (p : ℕ → Bool) (n k : ℕ) (a b : Bool) → ltb (first_to p n) n ≡ a → p n ≡ b → (k < first_to p n → p k ≡ false) → k < cond a (first_to p n) (cond b n (suc n)) → p k ≡ false
first_step p n k true b e f u h = u h
first_step p n k false true e f u h = first-none p n (ltb-false (first_to p n) n e) k h
first_step p n k false false e f u h = ⊎_elim (λ q. rw q f) (λ q. first-none p n (ltb-false (first_to p n) n e) k q) (eq-or-lt_of_le {n = k} {m = n} (omega arith))

before_first : (p : ℕ → Bool) (n k : ℕ) → k < first_to p n → p k ≡ false
unfolding first_to
before_first p zero k l = absurd (omega arith)
before_first p (suc n) k l = first_step p n k (ltb (first_to p n) n) (p n) refl refl (before_first p n k) l

not_above : (k : ℕ) → ltb 0 k ≡ false → k ≡ 0
not_above k h = let q : k ≤ 0 = ltb-false 0 k h in omega arith

-- the shape is right, so the cells decide
cells_decide : (cells : List ℤ) (n : ℕ) → Shaped cells n → intake_of cells n n ≡ fault_of cells n
unfolding intake_of or_else refusal whenever unless
cells_decide cells n s = rw (eq-eqb n n refl, le-ltb n 2 s.two, le-ltb 256 n s.few, eq-eqb (length cells) (n * n) s.full)

-- and another shape does
shape_decides : (cells : List ℤ) (rows cols k : ℕ) → Misshaped cells rows cols k → intake_of cells rows cols ≡ refused k
unfolding intake_of or_else refusal whenever unless
shape_decides cells rows cols k (not_square h) = rw (ne_eqb rows cols h)
shape_decides cells rows cols k (few_rows e h) = rw (eq-eqb rows cols e, lt-ltb rows 2 h)
shape_decides cells rows cols k (many_rows e h) = let l : 2 ≤ rows = omega arith in rw (eq-eqb rows cols e, le-ltb rows 2 l, lt-ltb 256 rows h)
shape_decides cells rows cols k (cell_count e l h q) = rw (eq-eqb rows cols e, le-ltb rows 2 l, le-ltb 256 rows h, ne_eqb (length cells) (rows * rows) q)

module _ (cells : List ℤ) (n : ℕ) (s : Shaped cells n) where
  -- the number 0 is that of no fault
  none_first : (intake_of cells n n).number ≡ 0 → n * n ≤ first_fault cells n
  none_first e =
      by_cases (dec_lt (first_fault cells n) (n * n))
      (λ h.
      let q : cause_at cells n (first_fault cells n) ≡ 0 = ap (λ (r : Refusal). r.number) (is_fault cells n refl h refl ∙ sym (cells_decide cells n s)) ∙ e in
      let z : ⊥ = omega (arith, first_cause cells n h, q) in
      absurd z)
      (λ h. omega (arith, h))

  number_none : n * n ≤ first_fault cells n → intake_of cells n n ≡ none
  number_none h = cells_decide cells n s ∙ sym (no_fault cells n refl h)

  proper_one : (intake_of cells n n).number ≡ 0 → (i j : ℕ) → i < n → j < n → Right cells n i j
  unfolding first_fault
  proper_one e i j h l =
      let c : cause_at cells n (i * n + j) ≡ 0 = not_above _ (first-none (λ t. ltb 0 (cause_at cells n t)) (n * n) (none_first e) (i * n + j) (cell_below i j n h l)) in
      rw (row_of_cell i j n l, column_of_cell i j n l) at (right_there cells n (i * n + j) c)

  pass : ProperBook cells n → intake_of cells n n ≡ none
  pass b =
      by_cases (dec_lt (first_fault cells n) (n * n))
      (λ h.
      let t = first_fault cells n in
      let z = some_names n t h in
      let q : cause_at cells n t ≡ 0 = cause_there cells n t ∙ no_cause cells n (t / n) (t % n) (b.right (t / n) (t % n) (row_below t n z h) (column_below t n z)) in
      let w : ⊥ = omega (arith, first_cause cells n h, q) in
      absurd w)
      (λ h. number_none (omega (arith, h)))

  name : ((intake_of cells n n).number ≡ 0 → ⊥) → FirstCell cells n (intake_of cells n n)
  unfolding first_fault
  name e =
      by_cases (dec_lt (first_fault cells n) (n * n))
      (λ h.
      let q : intake_of cells n n ≡ record { number = cause_at cells n (first_fault cells n); place = first_fault cells n } = cells_decide cells n s ∙ sym (is_fault cells n refl h refl) in
      rw q
      (record {
        inside = h;
        cause = caused_there cells n (first_fault cells n) _ refl (first_cause cells n h);
        before = λ t l. right_there cells n t (not_above _ (before_first (λ k. ltb 0 (cause_at cells n k)) (n * n) t l));
      }))
      (λ h. absurd (e (ap (λ (r : Refusal). r.number) (number_none (omega (arith, h))))))

pub intake_claim : IntakeClaim
intake_claim = record { misshaped = shape_decides; proper = λ cells n s e. record { right = proper_one cells n s e }; passed = pass; named = name }
