-- What `silhouette_from_pairwise` gives and leaves. Definitions only.
use Rattle.std.specs.Prelude.{ℕ, Bool, ◌&&◌, List, eqb, leb, length, Float}
use Rattle.lists.specs.Lists.{listed, numbers, cell_at, first_from}
use Rattle.refusals.specs.Table.{refusal, work_doubles, Worked, worked}
use Rattle.silhouette_scores.specs.Scores.{silhouette}

-- the score of item i, from the n by n pair distances and the labels
unfoldable pub score_at : List Float → ℕ → List ℕ → ℕ → Float
score_at pairs n labels i = silhouette (cell_at pairs n i) (numbers labels) n i

-- n labels, n scores, and doubles to work in at a run's length
abbrev pub lists_fit : ℕ → ℕ → ℕ → ℕ → Bool
lists_fit n labels scores floats = eqb labels n && (eqb scores n && leb (work_doubles n) floats)

-- refused by the table's first row that applies, 10 at the first label of n or more; else the scores, by item
unfoldable pub silhouettes_of : List Float → ℕ → List ℕ → List Float → List Float → Worked
silhouettes_of pairs n labels scores floats =
    worked (refusal (length pairs) n n (lists_fit n (length labels) (length scores) (length floats)) (first_from n labels) (length labels)) n
    (listed (score_at pairs n labels) n) scores floats
