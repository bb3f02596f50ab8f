-- The one translation of row numbers. Definitions only.
use Rattle.std.specs.Prelude.{ℕ, List, map}
use Rattle.lists.specs.Lists.{numbers}

-- the rows of the items of an inner book, as rows of the book above: `rows` has the rows of the inner one
abbrev pub rows_of : List ℕ → List ℕ → List ℕ
rows_of rows items = map (numbers rows) items
