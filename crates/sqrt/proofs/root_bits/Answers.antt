use Rattle.std.proofs.Common.{◌+◌, ◌*◌, ◌%◌, rules}
use lib.Ieee.{binary64, of_bits}
use Rattle.sqrt.proofs.Value.{positive_bits}
use Rattle.sqrt.proofs.Rooted.{rounded_bits}
use Rattle.sqrt.proofs.root_bits.Goals as goal

pub returns : goal.returns
returns g c =
    let b = c.args.b in
    let n = c.split-n.result in
    let e = c.split-n.ensures in
    let p = c.requires.finite in
    rounded_bits (of_bits binary64 b) (positive_bits b p.0 p.1) n.m n.s c.nearest.result e.0 e.1 e.2 e.3 e.4
    (c.requires.exact (n.m * (1 + n.s % 2)) c.nearest.result (search rules) (search rules) c.nearest.ensures)
