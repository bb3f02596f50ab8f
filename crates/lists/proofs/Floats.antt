-- What a program's tests on a double say: that it is finite, and that it is a NaN.
use Rattle.std.proofs.Common.{◌≡◌, ◌*◌, Bool, true, false, not, T, sym, refl, ◌∙◌, subst, eq-eqb}
use lib.Ieee.{Float, nan, inf, fin, lt, ne, eq, is_nan, up, down}
use lib.Ieee.Scale.{finite}

-- below +infinity, x is finite where it is above -infinity
pub finite_below : (x : Float) → lt x (inf false) ≡ true → lt (inf true) x ≡ finite x
unfolding lt
finite_below nan h = refl
finite_below (inf true) h = refl
finite_below (inf false) h = sym h
finite_below (fin s m e) h = refl

pub finite_not_below : (x : Float) → lt x (inf false) ≡ false → false ≡ finite x
unfolding lt
finite_not_below nan h = refl
finite_not_below (inf s) h = refl
finite_not_below (fin s m e) h = sym h

-- a NaN, and nothing else, differs from itself
pub ne_self : (x : Float) → ne x x ≡ is_nan x
unfolding ne eq is_nan
ne_self nan = refl
ne_self (inf true) = refl
ne_self (inf false) = refl
ne_self (fin true m e) = rw (eq-eqb (m * up e * down e) (m * up e * down e) refl)
ne_self (fin false m e) = rw (eq-eqb (m * up e * down e) (m * up e * down e) refl)

not_is : (b : Bool) → b ≡ false → T (not b)
not_is true h = subst T h tt
not_is false h = tt

pub number : (x : Float) → ne x x ≡ false → T (not (is_nan x))
number x h = not_is (is_nan x) (sym (ne_self x) ∙ h)

pub finite_number : (x : Float) → finite x ≡ true → T (not (is_nan x))
unfolding is_nan
finite_number nan h = subst T (sym h) tt
finite_number (inf s) h = tt
finite_number (fin s m e) h = tt
