-- Bytes that are stored one after another. Definitions only.
use Rattle.std.specs.Prelude.{ℕ, ◌+◌, ◌≡◌, List, length}
use Rattle.std.proofs.lemmas.List.Edits.{sets}

-- d' is d with w stored from place p on, and r is the place behind w
pub record Wrote (d d' : List ℕ) (p : ℕ) (w : List ℕ) (r : ℕ) : Type 0 where
  pub stored : d' ≡ sets d p w
  pub end : r ≡ p + length w
