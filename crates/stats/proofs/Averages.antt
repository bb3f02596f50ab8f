-- What is done to an average is done to its value, where there is one.
use Prim.Native.Nat.{ℕ}
use mathlib.Core.Path.{◌≡◌, refl}
use mathlib.Core.Bool.{Bool, true, false, cond}
use mathlib.Core.List.{[], ◌∷◌, map}
use Rattle.std.proofs.Common.{Option, Some, None, Ok}
use Rattle.std.specs.Option.{MatchOption, IsSomeAnd}
use lib.Dec.{ltb}
use lib.Ieee.{Float}
use Rattle.stats.specs.Average.{Averaged, averaged, averaged_of, most_values}

abbrev pub each : (Float → Float) → Averaged → Averaged
each g a = record { number = a.number; values = map g a.values }

by_cases_of : (g : Float → Float) (many none : Bool) (x : Float)
    → each g (cond many (record { number = 4; values = [] }) (record { number = 0; values = cond none [] (x ∷ []) }))
    ≡ cond many (record { number = 4; values = [] }) (record { number = 0; values = cond none [] (g x ∷ []) })
by_cases_of g true none x = refl
by_cases_of g false true x = refl
by_cases_of g false false x = refl

pub each_averaged : (g : Float → Float) (n : ℕ) (none : Bool) (x : Float) → each g (averaged n none x) ≡ averaged n none (g x)
unfolding averaged
each_averaged g n none x = by_cases_of g (ltb most_values n) none x

-- what `map` makes of an answer's value
pub each_mapped : (g : Float → Float) (o r : Option Float) → MatchOption o (r ≡ None) (λ x. IsSomeAnd r (λ y. y ≡ g x)) → averaged_of (Ok r) ≡ each g (averaged_of (Ok o))
each_mapped g None r h = rw h
each_mapped g (Some x) None h = absurd h
each_mapped g (Some x) (Some y) h = rw h
