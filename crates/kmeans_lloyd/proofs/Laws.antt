-- The centres handed to the leaf of Lloyd's passes, where it starts.
use Prim.Native.Nat.{ℕ, ◌≤◌}
use mathlib.Core.List.{List}
use lib.ListN.{length}
use Rattle.lists.specs.Lists.{first_from}
use Rattle.lists.proofs.First.{from_none}
use Rattle.lloyd_table.specs.Area.{Centres}

pub centres_are : (centres : List ℕ) (n : ℕ) → length centres ≤ n → length centres ≤ first_from n centres → Centres centres n
centres_are centres n h f = record { groups = h; items = λ l b. from_none n centres f l b }
