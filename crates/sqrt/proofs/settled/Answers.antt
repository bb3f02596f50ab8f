use Rattle.std.proofs.Common.{◌*◌, ◌^◌, arith}
use Rattle.sqrt.proofs.Nearby.{is_none, is_beside}
use Rattle.sqrt.proofs.settled.Goals as goal

pub returns-then-t-p-le40532396646334466 : goal.returns-then-t-p-le40532396646334466
returns-then-t-p-le40532396646334466 c =
    let o = c.offset-t in
    is_none (c.args.m * 2 ^ 52) c.args.p o.result c.requires.1 c.requires.2 o.ensures.1 o.ensures.2 (λ w. omega arith)

pub returns-then-t-p : goal.returns-then-t-p
returns-then-t-p c =
    let o = c.offset-t in
    is_none (c.args.m * 2 ^ 52) c.args.p o.result c.requires.1 c.requires.2 o.ensures.1 o.ensures.2 (λ w. omega arith)

pub returns : goal.returns
returns c =
    let o = c.offset-t in
    is_beside (c.args.m * 2 ^ 52) c.args.p o.result c.requires.1 (o.ensures.1 (omega arith)) (omega arith) (omega arith)
