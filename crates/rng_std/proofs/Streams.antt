-- Draws of some seeds, computed.
use Rattle.std.proofs.Common.{refl}
use Rattle.lists.specs.Lists.{listed}
use Rattle.rng_chacha.specs.ChaCha.{rotated, half_of, quarter_of, quarter_at, columns_of, diagonals_of, rounds_of, summed, block_of, start_of}
use Rattle.rng_std.specs.Seeds.{advanced, output_of, steps, key_of}
use Rattle.rng_std.specs.Words.{words_of, word_of, index_from, share_from}
use Rattle.rng_std.specs.Streams.{StreamsClaim}

pub streams : StreamsClaim
unfolding rotated half_of quarter_of quarter_at columns_of diagonals_of rounds_of summed block_of start_of listed advanced output_of steps key_of words_of word_of index_from share_from
streams = record { index = refl; share = refl; carried = refl; not_carried = refl; across = refl; later = refl }
