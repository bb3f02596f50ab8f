use Rattle.std.proofs.Common.{refl}
use lib.Ieee.{of_bits, div}
use Rattle.lists.proofs.infinity.Goals as goal

pub returns : goal.returns
unfolding of_bits div
returns c = refl
