-- The place of the next draw, as the harness gets it. Definitions only.
use Rattle.std.specs.Prelude.{ℕ}
use Rattle.draws.specs.Draws.{Drawn, drawn, refused}

-- `next`, and 0 where a draw was out of range
abbrev pub next_after : {A : Type 0} → ℕ → Drawn A → ℕ
next_after next (drawn a rest) = next
next_after next (refused p) = 0
