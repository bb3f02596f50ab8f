-- Laws of tests that are put together from others.
use Rattle.std.proofs.Common.{◌≡◌, Bool, true, false, ◌&&◌, ◌||◌, T, sym, refl, subst}

pub impossible : {A : Type 0} → false ≡ true → A
impossible h = absurd (subst T (sym h) tt)

pub both : (a b : Bool) → a && b ≡ true → (a ≡ true) × (b ≡ true)
both true b h = (refl, h)
both false b h = impossible h

pub neither : (a b : Bool) → a || b ≡ false → (a ≡ false) × (b ≡ false)
neither true b h = impossible (sym h)
neither false b h = (refl, h)

pub or-true : (b : Bool) → b || true ≡ true
or-true true = refl
or-true false = refl

pub and-false : (b : Bool) → b && false ≡ false
and-false true = refl
and-false false = refl

pub and-true : (b : Bool) → b && true ≡ b
and-true true = refl
and-true false = refl

pub or-false : (b : Bool) → b || false ≡ b
or-false true = refl
or-false false = refl
