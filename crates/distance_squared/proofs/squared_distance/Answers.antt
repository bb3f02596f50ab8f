use Rattle.std.proofs.Common.{◌≡◌, ◌-◌, List, arith, drop, length, length-append, min, refl, rules, take}
use Rattle.std.proofs.lemmas.List.{take_all}
use Rattle.std.proofs.lemmas.Slice.Zip.{zip_turn, zip_end}
use lib.Ieee.{Float, nan, of_bits}
use Rattle.lists.specs.Sums.{sum_to}
use Rattle.lists.proofs.Sums.{sum_more}
use Rattle.distance_squared.specs.Leaves.{squared_distance}
use Rattle.distance_squared.proofs.squared_distance.Goals as goal

-- a list from its first place on
from_first : (xs : List Float) → take (length xs - 0) (drop 0 xs) ≡ xs
from_first xs = take_all (length xs - 0) xs (omega arith)

pub loop-x-init : goal.loop-x-init
unfolding sum_to of_bits
loop-x-init c = refl

pub loop-x-preserved : goal.loop-x-preserved
loop-x-preserved c =
    let t =
    zip_turn c.args.a.now c.args.b.now c.loop-x.yielded _ c.loop-x.x-iterator c.next.new.self c.next.result (search (rules, from_first)) (search (rules, from_first)) c.loop-x.yielded_by (c.in-Some.x, c.in-Some.y)
    c.in-Some.is c.next.ensures.steps in
    rw (t.2 nan, t.3 nan) (simp length-append (sum_more _ _ c.loop-x.invariant))

pub returns : goal.returns
unfolding squared_distance
returns c =
    let e : length c.loop-x.yielded ≡ min (length c.args.a.now) (length c.args.b.now) =
    zip_end c.args.a.now c.args.b.now c.loop-x.yielded _ c.loop-x.x-iterator c.next.new.self c.next.result (search (rules, from_first)) (search (rules, from_first)) c.loop-x.yielded_by c.in-None.is c.next.ensures.steps in
    cc
