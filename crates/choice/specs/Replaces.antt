-- Which of two candidates is kept. López de Prado, MLAM (2020) section 4.4, snippet 4.1 (base clustering). Definitions only.
use Rattle.std.specs.Prelude.{Bool, true, ◌&&◌, ◌||◌, Option, Some, None, Float}
use Rattle.std.specs.Float.{inf}
use Rattle.std.specs.Float.Ieee.{lt, eq}
use Rattle.choice.specs.declared.Kept.{Kept}

-- whether a t-stat and its mean replace those of the best: the t-stat is greater, or equal with a greater mean; a NaN is neither
unfoldable pub replaces : Float → Float → Float → Float → Bool
replaces stat mean bestStat bestMean = lt bestStat stat || (eq stat bestStat && lt bestMean mean)

-- whether a t-stat and its mean replace what is kept
abbrev pub replaces_kept : Float → Float → Option Kept → Bool
replaces_kept stat mean None = lt (inf true) stat
replaces_kept stat mean (Some k) = replaces stat mean k.stat k.mean
