-- The choice between an old and a new partition. López de Prado, MLAM (2020) section 4.4, snippet 4.2 (higher-level clustering). Definitions only.
use Rattle.std.specs.Prelude.{cond, Float}
use Rattle.std.specs.Float.Ieee.{lt}

-- the new one where its number is strictly greater than the old one's, else the old one: so too on a tie, and where one is a NaN. The numbers are the mean
-- t-stat of all groups of the new partition and that of the weak groups of the old one (`better_of`, improve/specs/Improve.antt)
abbrev pub chosen : {A : Type 0} → Float → Float → A → A → A
chosen newMean oldMean old new = cond (lt oldMean newMean) new old
