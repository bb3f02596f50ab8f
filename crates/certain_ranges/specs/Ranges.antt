-- Doubles within whole bounds. Definitions only.
use Rattle.std.specs.Prelude.{ℕ, ◌*◌, ◌≤◌, ◌≡◌, ◌⊎◌, Bool, false, Float}
use Rattle.std.specs.Float.{nan, inf, fin}
use Rattle.std.specs.Float.Ieee.{up, down}

-- x is finite, has the sign s, and its size is at most b / d
abbrev pub Sized : Bool → ℕ → ℕ → Float → Type 0
Sized s b d nan = ⊥
Sized s b d (inf t) = ⊥
Sized s b d (fin t m e) = (t ≡ s) × (m * up e * d ≤ b * down e)

-- x is finite, and its size is at most k: x is within -k..k
abbrev pub Bounded : ℕ → Float → Type 0
Bounded k nan = ⊥
Bounded k (inf t) = ⊥
Bounded k (fin t m e) = m * up e ≤ k * down e

-- x is finite, from +0 to k; -0 is not
abbrev pub UpTo : ℕ → Float → Type 0
UpTo k nan = ⊥
UpTo k (inf t) = ⊥
UpTo k (fin t m e) = (t ≡ false) × (m * up e ≤ k * down e)

-- a NaN, or what P says
abbrev pub OrNan : (Float → Type 0) → Float → Type 0
OrNan P x = (x ≡ nan) ⊎ P x
