use lib.Ieee.{of_bits}
use Rattle.lists.proofs.Listed.{listed_length}
use Rattle.distance_columns.proofs.Steps.{no_column}
use Rattle.distance_columns.proofs.squared_tail.Goals as goal

pub add_fours-c-requires : goal.add_fours-c-requires
unfolding of_bits
add_fours-c-requires c =
    let p = c.requires in
    let e = no_column c.args.own.now c.args.across.now c.args.from (c.fill.ensures.after (λ y e. e)) p.sums_length in
    record {
      tail = record { few = p.few; square = p.square; within = p.within; sums_length = listed_length _ _ e };
      sums_value = e;
    }
