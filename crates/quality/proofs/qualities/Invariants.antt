use mathlib.Core.Path.{◌≡◌}
use lib.ListN.{length}
use Rattle.lists.specs.Lists.{numbers}
use Rattle.partition.specs.Partition.{group_at}
use Rattle.partition.specs.Orders.{cut, total_to}
use Rattle.lists.proofs.Listed.{writes}
use Rattle.quality.specs.Quality.{quality_of}
use Rattle.quality.proofs.qualities.Given as goal

abbrev pub invariant-loop-g : goal.invariant-loop-g
invariant-loop-g l = (l.at ≡ total_to (numbers l.sizes) l.g) × (length l.out ≡ length l.initial.out) × (l.out ≡ writes (λ k. quality_of l.scores (group_at (cut (length l.initial.out) l.sizes l.order) k)) l.g l.initial.out)
