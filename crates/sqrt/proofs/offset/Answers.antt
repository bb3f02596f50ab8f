use Rattle.std.proofs.Common.{◌^◌, ◌≤◌, arith}
use Rattle.sqrt.proofs.Nearby.{Parts, parts, a_small, c_small, offset_is}
use Rattle.sqrt.proofs.offset.Goals as goal
use Rattle.sqrt.proofs.offset.Goals.{Start}

of : (c : Start) → Parts c.args.p
of c = parts c.args.p c.requires.2

pub returns-then-a-gt1073741824 : goal.returns-then-a-gt1073741824
returns-then-a-gt1073741824 c =
    let x = c.wrapping_sub_u64-a in
    (omega arith, λ z. omega arith, λ v w. let h : x.result ≤ 2 ^ 30 = a_small c.args.m c.args.p x.result (of (goal.at.returns-then-a-gt1073741824 c).Start) c.requires.2 x.ensures.value (omega arith) (v, w) in omega arith)

pub returns-then-c-gt4294967296 : goal.returns-then-c-gt4294967296
returns-then-c-gt4294967296 c =
    let x = c.wrapping_sub_u64-a in
    let y = c.wrapping_sub_u64-c in
    (omega arith, λ z. omega arith, λ v w. let h : y.result ≤ 2 ^ 32 = c_small c.args.m c.args.p x.result (of (goal.at.returns-then-c-gt4294967296 c).Start) c.requires.2 x.ensures.value y.result (omega arith) y.ensures.value (omega arith) (v, w) in omega arith)

pub returns : goal.returns
returns c =
    let x = c.wrapping_sub_u64-a in
    let y = c.wrapping_sub_u64-c in
    (omega arith, λ z. offset_is c.args.m c.args.p x.result (of (goal.at.returns c).Start) c.requires.2 x.ensures.value y.result (omega arith) y.ensures.value (omega arith), λ v w. omega arith)
