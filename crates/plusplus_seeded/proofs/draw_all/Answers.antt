use Prim.Native.Nat.{◌+◌, ℕ}
use mathlib.Core.Path.{◌∙◌, ◌≡◌, refl, sym}
use native.Mathlib.Omega.{arith}
use lib.ListN.{length}
use Rattle.rng_std.specs.States.{key_in}
use Rattle.rng_std.specs.Words.{Taken, word_of}
use Rattle.rng_std.proofs.Ranges.{word_below}
use Rattle.lists.proofs.Listed.{writes, writes_done, writes_one}
use Rattle.plusplus_seeded.specs.Seeded.{place_of, rule_of}
use Rattle.plusplus_seeded.proofs.Rules.{moved_then, place_few, place_more}
use Rattle.plusplus_seeded.proofs.draw_all.Goals as goal

pub loop-draw-init : goal.loop-draw-init
unfolding writes place_of
loop-draw-init c = (refl, refl, record { key_is = refl; holds = c.requires.0.holds })

pub draw_one-d-requires : goal.draw_one-d-requires
draw_one-d-requires c =
    let a = c.args in
    let l = c.loop-draw in
    let p = c.requires in
    record { holds = l.invariant.2.holds; early = omega (arith, l.invariant.1, place_few (word_of (key_in a.rng.now)) (word_below (key_in a.rng.now)) a.total a.m l.draw-index a.first, p.1, c.loop-draw-test.true); some = p.0.some; few = p.0.few }

pub loop-draw-preserved : goal.loop-draw-preserved
loop-draw-preserved c =
    let a = c.args in
    let l = c.loop-draw in
    let g = a.rng.now in
    let rule : ℕ → Taken = rule_of (word_of (key_in g)) a.total a.m in
    let i : ℕ = place_of rule l.draw-index a.first in
    let e = c.draw_one-d.ensures in
    let k : key_in l.rng ≡ key_in g = l.invariant.2.key_is in
    let n : l.taken ≡ i = l.invariant.1 in
    let v : c.draw_one-d.result.value ≡ (rule i).value = e.value-is ∙ rw (k, n) in
    let p : c.draw_one-d.result.taken ≡ place_of rule (l.draw-index + 1) a.first = e.taken_is ∙ rw (k, n) (sym (place_more rule l.draw-index a.first)) in
    (writes_one _ _ _ l.invariant.0 v, p, moved_then g l.rng _ _ _ _ l.invariant.2 e.moved (sym e.taken_is))

pub returns : goal.returns
returns c =
    let l = c.loop-draw in
    let j : l.draw-index ≡ length c.args.draws.now = omega arith in
    (writes_done 0 _ _ _ _ l.invariant.0 j refl, rw j at l.invariant.1, l.invariant.2)
