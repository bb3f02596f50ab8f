use Prim.Native.Nat.{◌+◌, ◌<◌}
use mathlib.Core.Path.{◌≡◌, refl}
use mathlib.Core.List.{[], ◌++◌, ◌∷◌}
use native.Mathlib.Omega.{arith}
use lib.ListN.{length, length-append, length-set}
use Rattle.lists.specs.Lists.{numbers}
use Rattle.lists.proofs.Parts.{put_none, put_push}
use Rattle.partition.specs.Partition.{members}
use Rattle.partition.proofs.Groups.{members_in, members_none, members_out, members_room}
use Rattle.partition.proofs.append_members.Goals as goal

pub loop-i-init : goal.loop-i-init
loop-i-init c =
    let a = c.args in
    let none = members_none (numbers a.labels.now) a.l in
    (refl, rw none (omega arith), rw none (put_none a.at a.order.now))

pub loop-i-preserved-then-x-l : goal.loop-i-preserved-then-x-l
loop-i-preserved-then-x-l c =
    let a = c.args in
    let i = c.loop-i.i in
    let other : numbers a.labels.now i ≡ a.l → ⊥ = c.if-x-l.true in
    let same = members_out (numbers a.labels.now) i a.l other in
    (c.loop-i.invariant.0, rw same c.loop-i.invariant.1, rw same c.loop-i.invariant.2)

pub bounds-order-to : goal.bounds-order-to
bounds-order-to c =
    let a = c.args in
    let own : numbers a.labels.now c.loop-i.i ≡ a.l = c.if-x-l.false in
    let room = members_room (numbers a.labels.now) c.loop-i.i (length a.labels.now) a.l (omega arith) own in
    omega (arith, room, c.requires.1, c.loop-i.invariant.1, c.loop-i.invariant.0)

pub loop-i-preserved : goal.loop-i-preserved
loop-i-preserved c =
    let a = c.args in
    let i = c.loop-i.i in
    let own : numbers a.labels.now i ≡ a.l = c.if-x-l.false in
    let before = members (numbers a.labels.now) i a.l in
    let room = members_room (numbers a.labels.now) i (length a.labels.now) a.l (omega arith) own in
    let fits : a.at + length before < length a.order.now = omega (arith, room, c.requires.1) in
    let more = members_in (numbers a.labels.now) i a.l own in
    let longer : length (before ++ (i ∷ [])) ≡ length before + 1 = length-append before (i ∷ []) in (
      simp length-set c.loop-i.invariant.0,
      rw (more, longer) (omega (arith, c.loop-i.invariant.1)),
      rw (more, longer, c.loop-i.invariant.1, c.loop-i.invariant.2) (put_push a.at (length before) a.order.now before i fits refl),
    )
