use native.Mathlib.Omega.{arith}
use Rattle.rng_std.specs.States.{key_in}
use Rattle.rng_std.specs.Words.{word_of}
use Rattle.rng_std.proofs.Ranges.{index_next, share_next, word_below}
use Rattle.test_streams.proofs.print_pairs.Goals as goal

pub random_share-share-requires : goal.random_share-share-requires
random_share-share-requires c =
    let r = c.random_range-index.ensures in
    let g = c.loop.rng in
    (rw r.taken_is r.moved.holds, omega (arith, r.taken_is, index_next (word_of (key_in g)) (word_below (key_in g)) c.args.n c.loop.taken, c.loop.invariant.1, c.loop.invariant.2, c.requires.2))

pub loop-preserved : goal.loop-preserved
loop-preserved c =
    let r = c.random_range-index.ensures in
    let s = c.random_share-share.ensures in
    let g = c.loop.rng in
    let g' = c.random_range-index.new.rng in
    (rw s.taken_is s.moved.holds, omega (arith, s.taken_is, share_next (word_of (key_in g')) (word_below (key_in g')) c.random_range-index.result.taken, r.taken_is, index_next (word_of (key_in g)) (word_below (key_in g)) c.args.n c.loop.taken, c.loop.invariant.1), omega (arith, c.loop-test.true))
