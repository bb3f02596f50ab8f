-- The steps of reading a word, and what a test of two values says. Assumes nothing.
use Prim.Native.Nat.{ℕ, ◌+◌, ◌<◌, ◌≤◌}
use mathlib.Core.Path.{◌≡◌}
use mathlib.Core.Bool.{Bool, cond, true, false, ◌&&◌}
use native.Mathlib.Numerals.{add-one}
use borrow.Author.Tests.{lt-ltb, le-ltb, eq-eqb, ne_eqb}
use lib.Dec.{ltb, eqb}
use Rattle.test_words.specs.Words.{with_digit, value_to}

-- one more digit
pub value_more : (f : ℕ → ℕ) (i : ℕ) {v w : ℕ} → v ≡ value_to f i → w ≡ with_digit v (f i) → w ≡ value_to f (i + 1)
unfolding value_to
value_more f i e h = rw (add-one, h, e)

-- the smaller of two numbers, by a test
pub above_most : (most : ℕ) {v w : ℕ} → v ≡ w → most < v → most ≡ cond (ltb most w) most w
above_most most {v} {w} e h = rw (← e, lt-ltb most v h)

pub not_above_most : (most : ℕ) {v w : ℕ} → v ≡ w → v ≤ most → v ≡ cond (ltb most w) most w
not_above_most most {v} {w} e h = rw (← e, le-ltb most v h)

-- what a test of two values says of what they equal
pub differ_at : {a b x y : ℕ} → a ≡ x → b ≡ y → (a ≡ b → ⊥) → eqb x y ≡ false
differ_at {a} {b} p q h = rw (← p, ← q) (ne_eqb a b h)

pub same_at : {a b x y : ℕ} → a ≡ x → b ≡ y → a ≡ b → eqb x y ≡ true
same_at {a} {b} p q h = rw (← p, ← q) (eq-eqb a b h)

-- two tests, the second of which is made where the first passes
pub first_fails : (y : Bool) {a x : Bool} → a ≡ x → a ≡ false → false ≡ x && y
first_fails y e h = rw (← e, h)

pub first_passes : {a b x y : Bool} → a ≡ x → a ≡ true → b ≡ y → b ≡ x && y
first_passes e h f = rw (← e, h) f
