use Rattle.std.proofs.Common.{◌≡◌, ◌+◌, ◌*◌, ◌≤◌, length}
use Rattle.lists.specs.Lists.{cells}
use Rattle.lists.proofs.Areas.{stores}
use Rattle.lists.proofs.gather.Given as goal

abbrev pub invariant-loop-j : goal.invariant-loop-j
invariant-loop-j l = (l.j ≤ l.count) × (length l.xs ≡ length l.initial.xs) × (l.xs ≡ stores l.to (λ k. cells l.initial.xs (l.from + k * l.step)) l.j l.initial.xs)
