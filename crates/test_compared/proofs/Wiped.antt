-- How many names the zero fronts are measured by, by the number that was answered. Assumes nothing.
use Prim.Native.Nat.{ℕ, zero, suc, ◌+◌, ◌-◌, ◌<◌, ◌≤◌}
use mathlib.Core.Path.{◌≡◌, refl, subst}
use mathlib.Core.Bool.{true, false}
use native.Mathlib.Omega.{arith}
use borrow.Author.Tests.{lt-ltb, le-ltb, ne_eqb}
use Rattle.test_compared.specs.Compared.{wipes, names_wiped}

pub none_above : (k n : ℕ) → 256 < n → 0 ≡ names_wiped k n
unfolding names_wiped
none_above k n h = rw (lt-ltb 256 n h)

pub all_wiped : (k n : ℕ) → n ≤ 256 → wipes k ≡ true → n ≡ names_wiped k n
unfolding names_wiped
all_wiped k n h e = rw (le-ltb 256 n h, e)

pub none_kept : (k n : ℕ) → n ≤ 256 → wipes k ≡ false → 0 ≡ names_wiped k n
unfolding names_wiped
none_kept k n h e = rw (le-ltb 256 n h, e)

-- the fronts are left zero by 0 and 7 to 9
pub wipes_0 : (k : ℕ) → k ≡ 0 → wipes k ≡ true
unfolding wipes
wipes_0 k e = rw e

wipes_from_7 : (i : ℕ) → i < 3 → wipes (7 + i) ≡ true
unfolding wipes
wipes_from_7 zero h = refl
wipes_from_7 (suc zero) h = refl
wipes_from_7 (suc (suc zero)) h = refl
wipes_from_7 (suc (suc (suc i))) h = absurd (omega arith)

pub wipes_7_9 : (k : ℕ) → 7 ≤ k → k < 10 → wipes k ≡ true
wipes_7_9 k h l =
    let e : 7 + (k - 7) ≡ k = omega arith in
    subst (λ (m : ℕ). wipes m ≡ true) e (wipes_from_7 (k - 7) (omega arith))

pub kept_below_7 : (k : ℕ) → k < 7 → (k ≡ 0 → ⊥) → wipes k ≡ false
unfolding wipes
kept_below_7 k h o =
    rw (ne_eqb k 0 o, ne_eqb k 7 (λ e. omega (arith, h, e)), ne_eqb k 8 (λ e. omega (arith, h, e)), ne_eqb k 9 (λ e. omega (arith, h, e)))

pub kept_from_10 : (k : ℕ) → 10 ≤ k → wipes k ≡ false
unfolding wipes
kept_from_10 k h =
    rw (ne_eqb k 0 (λ e. omega (arith, h, e)), ne_eqb k 7 (λ e. omega (arith, h, e)), ne_eqb k 8 (λ e. omega (arith, h, e)), ne_eqb k 9 (λ e. omega (arith, h, e)))
