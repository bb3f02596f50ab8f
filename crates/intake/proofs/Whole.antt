-- Tests on signed numbers, which the code makes on bits, are the definitions' tests.
use Prim.Native.Nat.{suc}
use mathlib.Core.Path.{◌≡◌, refl, sym, ap, ◌∙◌}
use mathlib.Core.Bool.{Bool, true, false}
use native.Mathlib.Omega.{arith}
use borrow.Author.Tests.{lt-leb, le-leb, ltb-true, ltb-false, eqb-true, eq-eqb}
use lib.Dec.{eqb}
use lib.IntN.{ℤ, pos, negsuc}
use lib.Signed.{lt_z, le_z}
use mir.Syntax.{w64}
use mir.Val.{SFits, of_z, to_z}
use mir.ValLaws.{to_z-of_z}
use Rattle.lists.proofs.Tests.{impossible}
use Rattle.intake.specs.Intake.{same_z, in_range}

-- two tests that imply each other
both_ways : (a b : Bool) → (a ≡ true → b ≡ true) → (b ≡ true → a ≡ true) → a ≡ b
both_ways true b f g = sym (f refl)
both_ways false true f g = g refl
both_ways false false f g = refl

pub same_true : (x y : ℤ) → same_z x y ≡ true → x ≡ y
unfolding same_z
same_true (pos a) (pos b) e = ap pos (eqb-true a b e)
same_true (pos a) (negsuc b) e = impossible e
same_true (negsuc a) (pos b) e = impossible e
same_true (negsuc a) (negsuc b) e = ap negsuc (eqb-true a b e)

pub same_self : (x : ℤ) → same_z x x ≡ true
unfolding same_z
same_self (pos a) = eq-eqb a a refl
same_self (negsuc a) = eq-eqb a a refl

-- equal bits are equal numbers
pub same_bits : (x y : ℤ) → SFits w64 x → SFits w64 y → eqb (of_z w64 x) (of_z w64 y) ≡ same_z x y
same_bits x y fx fy =
    both_ways (eqb (of_z w64 x) (of_z w64 y)) (same_z x y)
    (λ e. let q : x ≡ y = sym (to_z-of_z w64 x fx) ∙ ap (to_z w64) (eqb-true (of_z w64 x) (of_z w64 y) e) ∙ to_z-of_z w64 y fy in rw q (same_self y))
    (λ e. eq-eqb (of_z w64 x) (of_z w64 y) (ap (of_z w64) (same_true x y e)))

-- below the range, and else at most its upper end
pub under_range : (x : ℤ) → lt_z x (negsuc 999999) ≡ true → false ≡ in_range x
unfolding in_range
under_range (pos a) e = impossible e
under_range (negsuc a) e = sym (lt-leb (suc a) 1000000 (omega (arith, ltb-true 999999 a e)))

pub range_above : (x : ℤ) → lt_z x (negsuc 999999) ≡ false → le_z x (pos 1000000) ≡ in_range x
unfolding in_range
range_above (pos a) e = refl
range_above (negsuc a) e = sym (le-leb (suc a) 1000000 (omega (arith, ltb-false 999999 a e)))
