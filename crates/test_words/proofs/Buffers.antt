-- A buffer of which n cells at the front were lent, and came back as the words of a text. Assumes nothing.
use Prim.Native.Nat.{ℕ, ◌≤◌}
use mathlib.Core.Path.{◌≡◌}
use mathlib.Core.List.{List, ◌++◌}
use lib.ListN.{length, take, drop}
use Rattle.lists.specs.Lists.{listed}
use Rattle.lists.proofs.Listed.{listed_length}
use Rattle.lists.proofs.Refilled.{refilled, refilled_front}

-- its length, and its front
pub read_front : {A : Type 0} (f : ℕ → A) (k n : ℕ) (old : List A) {p : List A} → k ≡ length old → n ≤ k → p ≡ listed f (length (take n old))
    → (k ≡ length (p ++ drop n old)) × (take n (p ++ drop n old) ≡ listed f n)
read_front f k n old {p} e h w = (refilled k n p old e h (listed_length f (length (take n old)) w), refilled_front f k n p old e h w)
