-- Draws are taken from the front of a list, one after the other, and the first that is out of range ends the run. Definitions only.
use Rattle.std.specs.Prelude.{ℕ, zero, suc, ◌+◌, ◌^◌, ◌<◌, false, cond, List, [], ◌∷◌, pos, nat_lt, Float}
use Rattle.std.specs.Float.{fin, binary64}
use Rattle.std.specs.Float.Ieee.{div}
use Rattle.std.specs.Float.Ieee.Exact.{HasValue}
use Rattle.lists.specs.Sums.{counted}

-- what the draws made and the draws that remain; or the place of a draw that is out of range or missing (callers ask for enough draws first, refusal 7)
pub data Drawn (S : Type 0) : Type 0 where
  drawn : S → List ℕ → Drawn S
  refused : ℕ → Drawn S

-- s, after a step by each of n draws below `limit`, `at` being the place of the first; or the place of a draw that is out of range or missing
-- (callers ask for enough draws first, refusal 7)
unfoldable pub takes : {S : Type 0} → ℕ → (S → ℕ → S) → ℕ → S → ℕ → List ℕ → Drawn S
takes limit step zero s at ds = drawn s ds
takes limit step (suc n) s at [] = refused at
takes limit step (suc n) s at (d ∷ ds) = cond (nat_lt d limit) (takes limit step n (step s d) (at + 1) ds) (refused at)

-- one draw below `limit`
abbrev pub one_draw : ℕ → ℕ → List ℕ → Drawn ℕ
one_draw limit at ds = takes limit (λ s d. d) 1 0 at ds

-- f of what was made, with the draws that remain
abbrev pub and_then : {S U : Type 0} → Drawn S → (S → List ℕ → Drawn U) → Drawn U
and_then (drawn s ds) f = f s ds
and_then (refused p) f = refused p

-- a share draw must be below 2 ^ 53 and means itself over 2 ^ 53
abbrev pub shares : ℕ
shares = 2 ^ 53

-- 2 ^ 53 as a double
abbrev pub full : Float
full = fin false 1 (pos 53)

abbrev pub share : ℕ → Float
share d = div binary64 (counted d) full

-- an index draw among m names
abbrev pub index_draw : ℕ → ℕ → List ℕ → Drawn ℕ
index_draw m at ds = one_draw m at ds

-- What is proved of `share`: it is exactly d over 2 ^ 53. HasValue x false a c says that x is finite, not negative, and a / c.
abbrev pub ShareClaim : Type 0
ShareClaim = (d : ℕ) → d < shares → HasValue (share d) false d shares
