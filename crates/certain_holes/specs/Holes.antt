-- The items of a round, some of which have holes: x i c is item i's column c, its distance to item c. Definitions only.
use Rattle.std.specs.Prelude.{ℕ, ◌<◌, ◌≡◌, Float}
use Rattle.std.specs.Float.{nan}
use Rattle.certain_ranges.specs.Ranges.{UpTo, OrNan}

-- each column is a NaN, or from +0 to 1
abbrev pub Distances : (ℕ → ℕ → Float) → Type 0
Distances x = (i c : ℕ) → OrNan (UpTo 1) (x i c)

-- one of the m columns is a NaN; and none is
abbrev pub Hole : (ℕ → Float) → ℕ → Type 0
Hole a m = (c : ℕ) × (c < m) × (a c ≡ nan)

abbrev pub Whole : (ℕ → Float) → ℕ → Type 0
Whole a m = (c : ℕ) → c < m → a c ≡ nan → ⊥
