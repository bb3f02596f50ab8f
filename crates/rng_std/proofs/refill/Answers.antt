use Rattle.std.proofs.Common.{◌≡◌, ◌≤◌, length, take, sym, ◌∙◌, arith, length-take-le}
use Rattle.rng_std.proofs.Chunks.{filled_by}
use Rattle.rng_std.proofs.refill.Goals as goal
use Rattle.rng_std.proofs.refill.Goals.{Start}

-- the list has the words of a chunk
front : (s : Start) → length (take 64 s.args.rng.now) ≡ 64
front s =
    let h : 64 ≤ length s.args.rng.now = omega (arith, s.requires.0) in
    length-take-le 64 s.args.rng.now h

pub slice_bounds-four_blocks-end-2 : goal.slice_bounds-four_blocks-end-2
slice_bounds-four_blocks-end-2 c = sym (front (goal.at.slice_bounds-four_blocks-end-2 c).Start)

pub four_blocks-requires : goal.four_blocks-requires
four_blocks-requires c = (omega (arith, c.requires.1), front (goal.at.four_blocks-requires c).Start)

pub returns : goal.returns
returns c = filled_by c.args.number c.args.rng.now _ c.key_in-key.ensures c.four_blocks.ensures (c.four_blocks.auto.out ∙ front (goal.at.returns c).Start)
