use Prim.Native.Nat.{◌*◌, ◌+◌, ◌≤◌}
use mathlib.Core.Path.{◌∙◌, ◌≡◌, refl, sym}
use mathlib.Core.Bool.{false}
use native.Mathlib.Omega.{arith}
use lib.ListN.{length, take}
use lib.Seq.{length-take-le}
use Rattle.draws.specs.Counts.{count_of}
use Rattle.round.proofs.Openings.{lacks_list, lacks_none, need_fits, open_short, stood_supplies}
use Rattle.round.proofs.start_round.Goals as goal

pub overflow_mul-need : goal.overflow_mul-need
overflow_mul-need c =
    let few : c.args.m ≤ 256 = omega (arith, c.requires.0.items, c.requires.0.few) in
    rw c.draws_for.ensures (omega (arith, need_fits c.args.repeat c.args.m c.requires.0.times few))

pub returns-then-lacks : goal.returns-then-lacks
returns-then-lacks c =
    let a = c.args in
    let len : length (take a.m a.wi.now) ≡ a.m = length-take-le a.m a.wi.now (omega (arith, c.requires.0.items, c.requires.3)) in
    let v = lacks_list a.src.seeded (length a.draws.now) a.src.at (a.repeat * count_of a.m) (rw c.draws_for.ensures at (sym c.lacks.ensures ∙ c.if-lacks.true)) in
    rw (open_short a.book.now a.n a.repeat a.m (take a.m a.wi.now) a.src a.draws.now len v.0 v.1)
    (record { answer_is = refl; starts = tt; behind = refl; beyond = refl })

pub start_with-requires : goal.start_with-requires
start_with-requires c =
    let few : c.args.m ≤ 256 = omega (arith, c.requires.0.items, c.requires.0.few) in
    let a : length (take c.args.m c.buffer-order.result) ≡ c.args.m = length-take-le c.args.m c.buffer-order.result (omega (arith, few, c.buffer-order.ensures)) in
    let b : length (take c.args.m c.buffer-sizes.result) ≡ c.args.m = length-take-le c.args.m c.buffer-sizes.result (omega (arith, few, c.buffer-sizes.ensures)) in
    let d : length (take c.args.m c.buffer-scores.result) ≡ c.args.m = length-take-le c.args.m c.buffer-scores.result (omega (arith, few, c.buffer-scores.ensures)) in
    let need = c.args.repeat * count_of c.args.m in
    let most : need ≤ 13723392 = need_fits c.args.repeat c.args.m c.requires.0.times few in
    let full : c.args.src.seeded ≡ false → c.args.src.at + need ≤ length c.args.draws.now =
    λ e. omega (arith, lacks_none c.args.src.seeded (length c.args.draws.now) c.args.src.at need (rw c.draws_for.ensures at (sym c.lacks.ensures ∙ c.if-lacks.false)) e, c.requires.0.stood.there e) in
    (rw a (record { reads = c.requires.0; supplies = stood_supplies c.args.src c.args.draws.now c.args.left c.requires.0.stood need most (omega (arith, c.well_formed)) full; one = c.requires.1; level = c.requires.2; room = c.requires.3; space = c.requires.4 }), b ∙ sym a, d ∙ sym a)
