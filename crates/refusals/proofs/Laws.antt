-- What a call knows once nothing is refused, and what its lists are, refused or not.
use Prim.Native.Nat.{ℕ, ◌*◌, ◌<◌, ◌≤◌}
use mathlib.Core.Path.{◌≡◌, refl, sym, ◌∙◌, ap}
use mathlib.Core.Bool.{Bool, true, false, ◌||◌}
use mathlib.Core.List.{List}
use mathlib.Core.Logic.{by_cases}
use native.Mathlib.Omega.{arith}
use native.Mathlib.Decide.{dec_lt}
use borrow.Author.Tests.{lt-ltb, ltb-false, eqb-true, eq-eqb, ne_eqb}
use Rattle.std.proofs.Common.{Ok, Err}
use lib.Dec.{eqb, ltb}
use lib.Ieee.{Float}
use Rattle.refusals.specs.Table.{Answer, number_of, refusal_of, Refusal, none, refused, whenever, unless, refusal, filled, worked, wiped}
use Rattle.refusals.specs.declared.Cause.{Cause}
use Rattle.refusals.specs.declared.Cause.TheVariants.{InvalidCorrelationMatrix, TooLarge, CellCount, ListLength, OutOfRange}
use Rattle.lists.proofs.Tests.{impossible, neither, or-true}

-- nothing is refused: the test of each row failed (or held), and nothing is refused below it
pub when_none : (test : Bool) (q below : Refusal) → eqb q.number 0 ≡ false → eqb (whenever test q below).number 0 ≡ true → (test ≡ false) × (eqb below.number 0 ≡ true)
unfolding whenever
when_none true q below e h = impossible (sym e ∙ h)
when_none false q below e h = (refl, h)

pub unless_none : (test : Bool) (q below : Refusal) → eqb q.number 0 ≡ false → eqb (unless test q below).number 0 ≡ true → (test ≡ true) × (eqb below.number 0 ≡ true)
unfolding unless
unless_none true q below e h = (refl, h)
unless_none false q below e h = impossible (sym e ∙ h)

-- what holds of the inputs of a call that is not refused
pub record Accepted (cells n m : ℕ) (fits : Bool) (bad count : ℕ) : Type 0 where
  pub two : 2 ≤ n
  pub two_read : 2 ≤ m
  pub few : n ≤ 256
  pub few_read : m ≤ 256
  pub square : cells ≡ n * n
  pub fitting : fits ≡ true
  pub in_range : count ≤ bad

pub accepted : (cells n m : ℕ) (fits : Bool) (bad count : ℕ) → eqb (refusal cells n m fits bad count).number 0 ≡ true → Accepted cells n m fits bad count
unfolding refusal
accepted cells n m fits bad count h =
    let a = when_none (ltb n 2 || ltb m 2) (refused 2) _ refl h in
    let b = when_none (ltb 256 n || ltb 256 m) (refused 4) _ refl a.1 in
    let c = unless_none (eqb cells (n * n)) (refused 5) _ refl b.1 in
    let d = unless_none fits (refused 6) _ refl c.1 in
    let e = when_none (ltb bad count) (record { number = 10; place = bad }) none refl d.1 in
    let l = neither (ltb n 2) (ltb m 2) a.0 in
    let g = neither (ltb 256 n) (ltb 256 m) b.0 in
    record {
      two = ltb-false n 2 l.0;
      two_read = ltb-false m 2 l.1;
      few = ltb-false 256 n g.0;
      few_read = ltb-false 256 m g.1;
      square = eqb-true cells (n * n) c.0;
      fitting = d.0;
      in_range = ltb-false bad count e.0;
    }

-- over 256 rows are refused whatever else is asked
pub many_rows : (cells n m : ℕ) (f g : Bool) (bad bad' count count' : ℕ) → 256 < m → refusal cells n m f bad count ≡ refusal cells n m g bad' count'
unfolding refusal whenever unless
many_rows cells n m f g bad bad' count count' h = rw (lt-ltb 256 m h, or-true (ltb 256 n))

-- so whether the other lists fit is asked of at most 256 rows alone
pub fits_asked : (cells n m : ℕ) (f g : Bool) (bad count : ℕ) → (m ≤ 256 → f ≡ g) → refusal cells n m f bad count ≡ refusal cells n m g bad count
fits_asked cells n m f g bad count e =
    by_cases (dec_lt 256 m) (λ h. many_rows cells n m f g bad bad count count h) (λ h. ap (λ (b : Bool). refusal cells n m b bad count) (e (omega arith)))

-- the record of a call with one output list, refused and not
module _ (a : Answer) (q : Refusal) (is : refusal_of a ≡ q) (new old : List Float) where
  pub not_filled : (number_of a ≡ 0 → ⊥) → record { answer = refusal_of a; out = old } ≡ filled q new old
  not_filled h = rw (← is, ne_eqb (number_of a) 0 h)

  pub was_filled : {out : List Float} → number_of a ≡ 0 → out ≡ new → record { answer = refusal_of a; out = out } ≡ filled q new old
  was_filled h e = rw (← is, eq-eqb (number_of a) 0 h, e)

  pub not_worked : (m : ℕ) (floats : List Float) → (number_of a ≡ 0 → ⊥) → record { answer = refusal_of a; out = old; floats = floats } ≡ worked q m new old floats
  not_worked m floats h = rw (← is, ne_eqb (number_of a) 0 h)

  pub was_worked : (m : ℕ) (floats : List Float) {out left : List Float} → number_of a ≡ 0 → out ≡ new → left ≡ wiped m floats
      → record { answer = refusal_of a; out = out; floats = left } ≡ worked q m new old floats
  was_worked m floats h e l = rw (← is, eq-eqb (number_of a) 0 h, e, l)

-- a call whose number is 0 is not refused
pub passed : (a : Answer) {q : Refusal} → refusal_of a ≡ q → number_of a ≡ 0 → eqb q.number 0 ≡ true
passed a is h = rw (← is) (eq-eqb (number_of a) 0 h)

-- and is given no place
pub done_none : (a : Answer) → number_of a ≡ 0 → refusal_of a ≡ none
done_none (Ok done) h = refl
done_none (Err InvalidCorrelationMatrix) h = absurd (omega arith)
done_none (Err TooLarge) h = absurd (omega arith)
done_none (Err CellCount) h = absurd (omega arith)
done_none (Err ListLength) h = absurd (omega arith)
done_none (Err (OutOfRange k)) h = absurd (omega arith)

-- a cause has a number other than 0
pub err_number : (k : Cause) → number_of (Err k) ≡ 0 → ⊥
err_number InvalidCorrelationMatrix h = omega arith
err_number TooLarge h = omega arith
err_number CellCount h = omega arith
err_number ListLength h = omega arith
err_number (OutOfRange k) h = omega arith

-- what holds of the inputs once the checks answer Ok
pub allowed : {cells n m : ℕ} {fits : Bool} {bad count : ℕ} → none ≡ refusal cells n m fits bad count → Accepted cells n m fits bad count
allowed {cells} {n} {m} {fits} {bad} {count} is = accepted cells n m fits bad count (rw (← is) refl)

-- the records of a call that answers Err, and of one that answers Ok
pub err_filled : (k : Cause) {q : Refusal} (new old : List Float) → refusal_of (Err k) ≡ q → record { answer = refusal_of (Err k); out = old } ≡ filled q new old
err_filled k {q} new old is = not_filled (Err k) q is new old (err_number k)

pub ok_filled : {q : Refusal} {new out : List Float} (old : List Float) → none ≡ q → out ≡ new → record { answer = none; out = out } ≡ filled q new old
ok_filled {q} {new} old is e = was_filled (Ok tt) q is new old refl e

pub err_worked : (k : Cause) {q : Refusal} (new old : List Float) (m : ℕ) (floats : List Float) → refusal_of (Err k) ≡ q
    → record { answer = refusal_of (Err k); out = old; floats = floats } ≡ worked q m new old floats
err_worked k {q} new old m floats is = not_worked (Err k) q is new old m floats (err_number k)

pub ok_worked : {q : Refusal} {new out left : List Float} (old : List Float) (m : ℕ) (floats : List Float) → none ≡ q → out ≡ new → left ≡ wiped m floats
    → record { answer = none; out = out; floats = left } ≡ worked q m new old floats
ok_worked {q} {new} old m floats is e l = was_worked (Ok tt) q is new old m floats refl e l
