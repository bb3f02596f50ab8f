use lib.Ieee.{neg}
use Rattle.lloyd_table.proofs.take_farthest.Goals as goal

pub returns : goal.returns
unfolding neg
returns c = record {
  dists_after = rw (c.farthest-far.ensures.0, c.infinity.ensures);
  area_after = rw c.farthest-far.ensures.0 at c.copy_row.ensures;
}
