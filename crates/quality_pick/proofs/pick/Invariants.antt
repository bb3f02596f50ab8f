use Rattle.std.proofs.Common.{◌≡◌, length}
use Rattle.lists.specs.Lists.{numbers}
use Rattle.partition.specs.Orders.{cut, total_to}
use Rattle.quality.specs.Quality.{on_side}
use Rattle.quality_pick.proofs.Picking.{Picking}
use Rattle.quality_pick.proofs.pick.Given as goal

abbrev pub invariant-loop-g : goal.invariant-loop-g
invariant-loop-g l =
    (l.at ≡ total_to (numbers l.sizes) l.g)
    × Picking (on_side l.qs l.limit l.below) (cut (length l.qs) l.sizes l.order) l.g l.items l.groups l.initial.out l.out l.out_sizes
