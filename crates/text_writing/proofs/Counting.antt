-- Counting the decimal digits of a number.
use Prim.Native.Nat.{ℕ, zero, suc, ◌+◌, ◌-◌, ◌/◌, ◌^◌, ◌<◌, ◌≤◌}
use mathlib.Core.Path.{◌≡◌, sym, ◌∙◌}
use native.Mathlib.Nat.{zero-add, pow-suc, div-lt_iff_lt-mul}
use native.Mathlib.Omega.{arith}
use borrow.Author.Tests.{lt-ltb, le-ltb}
use Rattle.text_digits.specs.Digits.{places_to}

-- the loop that counts the places of x: k are counted, and rest is left of x
pub record Counting (x k rest : ℕ) : Type 0 where
  pub one : 1 ≤ k
  pub few : k ≤ 20
  pub small : rest < 10 ^ (21 - k)
  pub left : places_to 20 x ≡ (k - 1) + places_to (21 - k) rest

pub count_starts : (x : ℕ) → x < 2 ^ 64 → Counting x 1 x
count_starts x h = record { one = omega arith; few = omega arith; small = omega arith; left = sym (zero-add (places_to 20 x)) }

-- a number of two digits or more has one digit more than its tenth
fewer : (m rest : ℕ) → 10 ≤ rest → rest < 10 ^ suc m → (0 < m) × (rest / 10 < 10 ^ m)
fewer zero rest h l = absurd (omega arith)
fewer (suc m) rest h l = (omega arith, (div-lt_iff_lt-mul {k = 10} {x = rest} {y = 10 ^ suc m} (omega arith)).1 (rw pow-suc at l))

pub count_more : {x k rest : ℕ} → Counting x k rest → 10 ≤ rest → Counting x (k + 1) (rest / 10)
unfolding places_to
count_more {x} {k} {rest} c h =
    let a : 21 - k ≡ suc (20 - k) = omega (arith, c.few) in
    let b : 21 - (k + 1) ≡ 20 - k = omega (arith, c.few) in
    let r = fewer (20 - k) rest h (rw a at c.small) in
    let s = c.one in
    let t = c.few in
    let u : (k - 1) + suc (places_to (20 - k) (rest / 10)) ≡ (k + 1 - 1) + places_to (20 - k) (rest / 10) = omega arith in
    record {
      one = omega arith;
      few = omega arith;
      small = rw b r.1;
      left = rw b (c.left ∙ rw (a, le-ltb rest 10 h) u);
    }

pub count_ends : {x k rest : ℕ} → Counting x k rest → rest < 10 → k ≡ places_to 20 x
unfolding places_to
count_ends {x} {k} {rest} c h =
    let a : 21 - k ≡ suc (20 - k) = omega (arith, c.few) in
    let s = c.one in
    let u : (k - 1) + 1 ≡ k = omega arith in
    sym (c.left ∙ rw (a, lt-ltb rest 10 h) u)
