use Rattle.std.proofs.Common.{arith}
use Rattle.sqrt.proofs.Value.{square_low, square_high}
use Rattle.sqrt.proofs.split.Goals as goal

pub returns-then-b-lt4503599627370496 : goal.returns-then-b-lt4503599627370496
returns-then-b-lt4503599627370496 c =
    let b = c.args.b in
    let r = c.lead.result in
    let e = c.lead.ensures in
    (e.0, e.1, e.2, omega arith, square_low b r.m r.s c.if-b-lt4503599627370496.true e.3 e.4)

pub returns : goal.returns
returns c = (omega arith, omega arith, omega arith, omega arith, square_high c.args.b c.if-b-lt4503599627370496.false c.requires.1)
