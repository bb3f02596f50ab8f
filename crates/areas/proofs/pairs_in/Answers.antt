use Rattle.areas.proofs.Regions.{all_made}
use Rattle.areas.proofs.pairs_in.Goals as goal

pub returns : goal.returns
returns c = all_made c.args.area.now c.args.m (record { some = c.requires.0; few = c.requires.1; size = c.requires.2 }) c.transpose.ensures c.square_all.ensures c.root_all.ensures
