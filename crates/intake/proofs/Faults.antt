-- The place of a mirror, the search for the first fault, and what its cause can be.
use Prim.Native.Nat.{ℕ, zero, suc, ◌+◌, ◌*◌, ◌/◌, ◌%◌, ◌<◌, ◌≤◌}
use mathlib.Core.Path.{◌≡◌, refl, sym, ap, ◌∙◌}
use mathlib.Core.Bool.{Bool, true, false, cond}
use mathlib.Core.List.{List}
use native.Mathlib.Omega.{arith}
use borrow.Author.Tests.{lt-ltb, le-ltb, ltb-true}
use lib.Dec.{eqb, ltb}
use lib.IntN.{ℤ}
use Rattle.lists.specs.Lists.{first_to}
use Rattle.lists.proofs.Matrix.{row_below, column_below, cell_below}
use Rattle.lists.proofs.First.{first_more, first_found, first_holds}
use Rattle.refusals.specs.Table.{Refusal, none, whenever}
use Rattle.std.proofs.Common.{Err}
use Rattle.intake_answers.specs.declared.IntakeError.{IntakeError}
use Rattle.intake_answers.specs.declared.IntakeError.TheVariants.{InvalidCorrelationMatrix, TooLarge, CellCount, Range, Diagonal, Mirror}
use Rattle.intake_answers.specs.Answers.{number_of}
use Rattle.intake.specs.Intake.{in_range, on_diagonal, same_z, cell_of, cause_of, caused, cause_at, first_fault, fault_of}

-- a book that has a place has a name
pub some_names : (n t : ℕ) → t < n * n → 0 < n
some_names zero t h = absurd (omega arith)
some_names (suc n) t h = omega arith

-- the mirror of a place is a place
pub mirror_below : (n t : ℕ) → t < n * n → t % n * n + t / n < n * n
mirror_below n t h = let z = some_names n t h in cell_below (t % n) (t / n) n (column_below t n z) (row_below t n z h)

-- no fault before t: at t there is one, or not
module _ (cells : List ℤ) (n t : ℕ) {k : ℕ} (is : k ≡ cause_at cells n t) (so_far : first_to (λ j. ltb 0 (cause_at cells n j)) t ≡ t) where
  pub fault_found : (k ≡ 0 → ⊥) → t < n * n → t ≡ first_fault cells n
  unfolding first_fault
  fault_found h l = let q : 0 < k = omega (arith, h) in first_found _ t (n * n) so_far (rw (← is) (lt-ltb 0 k q)) l

  pub fault_more : k ≡ 0 → first_to (λ j. ltb 0 (cause_at cells n j)) (t + 1) ≡ t + 1
  fault_more h = first_more _ t so_far (rw (← is, h))

pub fault_none : (cells : List ℤ) (n t count : ℕ) → first_to (λ j. ltb 0 (cause_at cells n j)) t ≡ t → t ≡ count → count ≡ n * n → count ≡ first_fault cells n
unfolding first_fault
fault_none cells n t count h e q = sym e ∙ sym h ∙ ap (first_to _) (e ∙ q)

-- a cause is 0, 21, 22 or 23
cond_range : (a b c : Bool) (k : ℕ) → k ≡ cond a (cond b (cond c 0 23) 22) 21 → (k ≡ 0 → ⊥) → (k ≡ 21 → ⊥) → (k ≡ 22 → ⊥) → k ≡ 23
cond_range true true true k e f g h = absurd (f e)
cond_range true true false k e f g h = e
cond_range true false c k e f g h = absurd (h e)
cond_range false b c k e f g h = absurd (g e)

pub third_cause : (cells : List ℤ) (n t : ℕ) {k : ℕ} → k ≡ cause_at cells n t → (k ≡ 0 → ⊥) → (k ≡ 21 → ⊥) → (k ≡ 22 → ⊥) → k ≡ 23
unfolding cause_at cause_of
third_cause cells n t {k} e =
    let x = cell_of cells t in
    let y = cell_of cells (t % n * n + t / n) in
    cond_range (in_range x) (on_diagonal x (eqb (t / n) (t % n))) (same_z x y) k e

-- the first fault has a cause
pub first_cause : (cells : List ℤ) (n : ℕ) → first_fault cells n < n * n → 0 < cause_at cells n (first_fault cells n)
unfolding first_fault
first_cause cells n h = ltb-true 0 _ (first_holds (λ t. ltb 0 (cause_at cells n t)) (n * n) h)

-- what is answered: none, or the first fault with its cause
pub no_fault : (cells : List ℤ) (n : ℕ) {t : ℕ} → t ≡ first_fault cells n → n * n ≤ t → none ≡ fault_of cells n
unfolding fault_of whenever
no_fault cells n {t} e h = rw (← e, le-ltb t (n * n) h)

pub is_fault : (cells : List ℤ) (n : ℕ) {t k : ℕ} → t ≡ first_fault cells n → t < n * n → k ≡ cause_at cells n t → record { number = k; place = t } ≡ fault_of cells n
unfolding fault_of whenever
is_fault cells n {t} e h q = rw (← e, lt-ltb t (n * n) h, q)

pub third_fault : (cells : List ℤ) (n : ℕ) {t k : ℕ} → t ≡ first_fault cells n → t < n * n → k ≡ cause_at cells n t → (k ≡ 21 → ⊥) → (k ≡ 22 → ⊥) → record { number = 23; place = t } ≡ fault_of cells n
third_fault cells n {t} {k} e h q f g =
    let p : 0 < cause_at cells n t = rw e (first_cause cells n (rw (← e) h)) in
    let z : k ≡ 23 = third_cause cells n t q (λ y. let w : ⊥ = omega (arith, p, q, y) in w) f g in
    is_fault cells n e h (sym z ∙ q)

-- a cell without a cause, and one with a cause
caused_some : (k t : ℕ) → 0 < k → caused k t ≡ record { number = k; place = t }
unfolding caused whenever
caused_some k t h = rw (lt-ltb 0 k h)

pub no_cause_at : (k t : ℕ) → none ≡ caused k t → k ≡ 0
unfolding caused whenever
no_cause_at zero t e = refl
no_cause_at (suc k) t e = let z : 0 ≡ suc k = ap (λ (q : Refusal). q.number) (e ∙ caused_some (suc k) t (omega arith)) in absurd (omega arith)

cause_is : (k t : ℕ) {q : Refusal} → (q.number ≡ 0 → ⊥) → q ≡ caused k t → (0 < k) × (q ≡ record { number = k; place = t })
unfolding caused whenever
cause_is zero t h e = absurd (h (ap (λ (q : Refusal). q.number) e))
cause_is (suc k) t h e = (omega arith, e ∙ caused_some (suc k) t (omega arith))

pub first_caused : (cells : List ℤ) (n t : ℕ) {q : Refusal} → (q.number ≡ 0 → ⊥) → q ≡ caused (cause_at cells n t) t → first_to (λ j. ltb 0 (cause_at cells n j)) t ≡ t → t < n * n
    → q ≡ fault_of cells n
first_caused cells n t {q} h e so_far l =
    let i = cause_is (cause_at cells n t) t h e in
    i.1 ∙ is_fault cells n (fault_found cells n t refl so_far (λ z. let w : ⊥ = omega (arith, i.0, z) in w) l) l refl

-- an error has a number other than 0
pub number_some : (d : IntakeError) → number_of (Err d) ≡ 0 → ⊥
number_some InvalidCorrelationMatrix h = omega arith
number_some TooLarge h = omega arith
number_some CellCount h = omega arith
number_some (Range t) h = omega arith
number_some (Diagonal t) h = omega arith
number_some (Mirror t) h = omega arith
