use Prim.Native.Nat.{◌+◌}
use mathlib.Core.Path.{◌≡◌}
use Rattle.lists.specs.Lists.{cells}
use Rattle.sqrt.specs.Root.{root}
use Rattle.lists.proofs.Areas.{stores}
use Rattle.areas.proofs.root_cells.Given as goal

abbrev pub invariant-loop-j : goal.invariant-loop-j
invariant-loop-j l = l.area ≡ stores l.to (λ k. root (cells l.initial.area (l.from + k))) l.j l.initial.area
