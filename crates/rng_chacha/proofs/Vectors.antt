-- The published vectors of the block function, computed.
use Rattle.std.proofs.Common.{refl}
use Rattle.lists.specs.Lists.{listed}
use Rattle.rng_chacha.specs.ChaCha.{rotated, half_of, quarter_of, quarter_at, columns_of, diagonals_of, rounds_of, summed, block_of, start_of}
use Rattle.rng_chacha.specs.Vectors.{VectorsClaim}

pub vectors : VectorsClaim
unfolding rotated half_of quarter_of quarter_at columns_of diagonals_of rounds_of summed block_of start_of listed
vectors = record { quarter = refl; rfc = refl; zeros = refl; keyed = refl }
