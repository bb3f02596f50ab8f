-- What a reader may believe of `root` without reading how it is worked out: of every finite double above zero it is the double nearest the exact root,
-- stated by comparing squares of whole numbers, and nothing else is. `root_claim` (proofs/Near.antt) proves it.
use Rattle.std.specs.Prelude.{◌≡◌, T, Float}
use Rattle.std.specs.Float.{binary64}
use Rattle.std.specs.Float.Ieee.{fits}
use Rattle.std.specs.Float.Ieee.Positive.{positive}
use Rattle.sqrt.specs.Root.{root, Nearest}

pub record RootClaim : Type 0 where
  pub nearest : (x : Float) → T (fits binary64 x) → T (positive x) → Nearest x (root x)
  pub determined : (x r : Float) → T (fits binary64 x) → T (positive x) → Nearest x r → r ≡ root x
