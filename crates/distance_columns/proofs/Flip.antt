-- The square of x - y is the square of y - x, bit for bit, so squared distances are the same both ways.
use Prim.Native.Nat.{ℕ, zero, suc, ◌+◌, ◌-◌, ◌*◌, ◌/◌, ◌%◌, ◌^◌, compare}
use mathlib.Core.Path.{◌≡◌, refl, sym, ap, subst}
use mathlib.Core.Bool.{Bool, true, false, cond, not}
use native.Mathlib.Nat.{mul_comm, add_comm}
use native.Mathlib.Omega.{arith}
use borrow.Author.Tests.{le-ltb, ltb-true, ltb-false}
use lib.Dec.{T, ltb}
use lib.Ieee.{Float, nan, inf, fin, add, sub, mul, neg, sum, round, units, odd, nearest, size, prec, low, emax, up, down, binary64}
use Rattle.sqrt.specs.Root.{root}
use Rattle.lists.specs.Sums.{square_from}
use Rattle.lists.proofs.Sums.{sum_same}
use Rattle.distance_columns.specs.Pair.{squared_at, pair_at}

abbrev square : Float → Float
square x = mul binary64 x x

-- the sign of what is squared does not count
square_odd : (d q k l : ℕ) → square (odd d true q k l) ≡ square (odd d false q k l)
unfolding odd mul
square_odd d zero k l = refl
square_odd d (suc q) k l = refl

square_cond : (b : Bool) (x y : Float) → square x ≡ square y → square (cond b x (inf true)) ≡ square (cond b y (inf false))
unfolding mul
square_cond true x y e = e
square_cond false x y e = refl

square_units : (q k : ℕ) → square (units binary64 true q k) ≡ square (units binary64 false q k)
unfolding units
square_units q k =
    square_cond (ltb (q * 2 ^ k) (2 ^ (low binary64 + suc (emax binary64)))) (odd (suc (prec binary64)) true q k (low binary64)) (odd (suc (prec binary64)) false q k (low binary64))
    (square_odd (suc (prec binary64)) q k (low binary64))

square_round : (num den : ℕ) → square (round binary64 true num den) ≡ square (round binary64 false num den)
unfolding round
square_round num den =
    let n = num * 2 ^ low binary64 in
    let k = size (n / den) - prec binary64 in
    let u = den * 2 ^ k in
    square_units (nearest (n / u) (compare (n % u * 2) u)) k

-- a / c less b / c, both ways; l says that a is less, and g that b is
module _ (a b c : ℕ) where
  less_up : (l g : Bool) → (l ≡ true → g ≡ false) → (l ≡ false → g ≡ false → a ≡ b)
      → square (cond l (round binary64 true (b - a) c) (round binary64 false (a - b) c)) ≡ square (cond g (round binary64 true (a - b) c) (round binary64 false (b - a) c))
  less_up true true p q = absurd (subst T (p refl) tt)
  less_up true false p q = square_round (b - a) c
  less_up false true p q = sym (square_round (a - b) c)
  less_up false false p q = rw (q refl refl)

  less_down : (l g : Bool) → (l ≡ true → g ≡ false) → (l ≡ false → g ≡ false → a ≡ b)
      → square (cond l (round binary64 false (b - a) c) (round binary64 g (a - b) c)) ≡ square (cond g (round binary64 false (a - b) c) (round binary64 l (b - a) c))
  less_down true true p q = absurd (subst T (p refl) tt)
  less_down true false p q = sym (square_round (b - a) c)
  less_down false true p q = square_round (a - b) c
  less_down false false p q = rw (q refl refl)

  one_way : ltb a b ≡ true → ltb b a ≡ false
  one_way h = le-ltb b a (omega (arith, ltb-true a b h))

  no_way : ltb a b ≡ false → ltb b a ≡ false → a ≡ b
  no_way h k = omega (arith, ltb-false a b h, ltb-false b a k)

  square_sum : (s t : Bool) → square (sum binary64 s a (not t) b c) ≡ square (sum binary64 t b (not s) a c)
  unfolding sum
  square_sum false false = less_up (ltb a b) (ltb b a) one_way no_way
  square_sum true true = less_down (ltb a b) (ltb b a) one_way no_way
  square_sum false true = rw (add_comm b a) (sym (square_round (a + b) c))
  square_sum true false = rw (add_comm b a) (square_round (a + b) c)

square_sub : (x y : Float) → square (sub binary64 x y) ≡ square (sub binary64 y x)
unfolding sub add neg mul
square_sub nan nan = refl
square_sub nan (inf t) = refl
square_sub nan (fin t n d) = refl
square_sub (inf s) nan = refl
square_sub (fin s m e) nan = refl
square_sub (inf true) (inf true) = refl
square_sub (inf true) (inf false) = refl
square_sub (inf false) (inf true) = refl
square_sub (inf false) (inf false) = refl
square_sub (inf true) (fin t n d) = refl
square_sub (inf false) (fin t n d) = refl
square_sub (fin s m e) (inf true) = refl
square_sub (fin s m e) (inf false) = refl
square_sub (fin s m e) (fin t n d) = rw (mul_comm (down d) (down e)) (square_sum (m * up e * down d) (n * up d * down e) (down e * down d) s t)

pub square_flip : (x y : Float) → square_from y x ≡ square_from x y
square_flip x y = square_sub x y

-- squared distances, and distances, are the same both ways
pub squared_flip : (x : ℕ → ℕ → Float) (m i j : ℕ) → squared_at x m i j ≡ squared_at x m j i
unfolding squared_at
squared_flip x m i j = sum_same (λ c. square_from (x j c) (x i c)) (λ c. square_from (x i c) (x j c)) m (λ c l. square_flip (x i c) (x j c))

pub pair_flip : (x : ℕ → ℕ → Float) (m i j : ℕ) → pair_at x m i j ≡ pair_at x m j i
unfolding pair_at
pair_flip x m i j = ap root (squared_flip x m i j)
