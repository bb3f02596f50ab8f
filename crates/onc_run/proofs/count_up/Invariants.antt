use Prim.Native.Nat.{◌≤◌}
use mathlib.Core.Path.{◌≡◌}
use lib.ListN.{length}
use Rattle.lists.proofs.Listed.{writes}
use Rattle.onc_run.proofs.count_up.Given as goal

abbrev pub invariant-loop-i : goal.invariant-loop-i
invariant-loop-i l = (l.n ≡ length l.initial.xs) × (l.i ≤ l.n) × (length l.xs ≡ l.n) × (l.xs ≡ writes (λ k. k) l.i l.initial.xs)
