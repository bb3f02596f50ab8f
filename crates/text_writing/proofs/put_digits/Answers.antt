use mathlib.Core.Path.{◌≡◌, sym, ◌∙◌}
use native.Mathlib.Omega.{arith}
use Rattle.text_writing.proofs.Stores.{digit_stored, no_digits}
use Rattle.text_writing.proofs.put_digits.Goals as goal

pub loop-i-preserved : goal.loop-i-preserved
loop-i-preserved c = c.loop-i.invariant ∙ digit_stored _ _ _ _ _ c.loop-i-test.true c.digit_byte.ensures

pub returns : goal.returns
returns c =
    let z : c.loop-i.i ≡ 0 = omega arith in
    sym (c.loop-i.invariant ∙ rw z (no_digits _ _ _ _))
