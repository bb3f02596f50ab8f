use Prim.Native.Nat.{◌+◌, ◌*◌, ◌^◌, ◌<◌}
use lib.ListN.{length}
use mathlib.Core.Path.{◌≡◌, refl, sym, ap, ◌∙◌}
use native.Mathlib.Nat.{add-zero, pow-zero}
use native.Mathlib.Omega.{arith}
use Rattle.text_digits.specs.Digits.{digit_of, byte_at}
use Rattle.text_digits.proofs.Scan.{digit_in_text, still_fits, run_starts, run_more, run_stops, run_full, spelled_more, spelled_none, one_more}
use Rattle.text_layout.proofs.run_at.Goals as goal
use Rattle.text_layout.proofs.run_at.Goals.{After-digit-d, Else-d-base}

-- what the byte behind the digits is worth
worth : (d : After-digit-d) →
    d.digit-d.result ≡ digit_of (byte_at d.args.text.now (d.args.at + d.loop-k.k))
worth d =
    d.digit-d.ensures
    ∙ ap digit_of (d.byte_at.ensures ∙ ap (byte_at d.args.text.now) d.loop-k.invariant.0)

-- a digit that is taken
digit_below : (c : Else-d-base) → digit_of (byte_at c.args.text.now (c.args.at + c.loop-k.k)) < c.args.base
digit_below c = rw (← (c.digit-d.ensures ∙ ap digit_of (c.byte_at.ensures ∙ ap (byte_at c.args.text.now) c.loop-k.invariant.0))) c.if-d-base.false

inside : (c : Else-d-base) → c.args.at + c.loop-k.k < length c.args.text.now
inside c = digit_in_text c.args.text.now (c.args.at + c.loop-k.k) c.args.base (digit_below c) c.requires.0

fits : (c : Else-d-base) → c.loop-k.value * c.args.base + c.digit-d.result < 2 ^ 64
fits c =
    still_fits c.args.base c.loop-k.k c.args.most c.loop-k.value c.digit-d.result
    c.requires.1 c.loop-k-test.true c.loop-k.invariant.1 c.if-d-base.false

pub loop-k-init : goal.loop-k-init
loop-k-init c = (sym (add-zero _), rw pow-zero (omega arith), spelled_none _ _ _, run_starts _ _ _ _ _ refl)

pub returns-then-d-base : goal.returns-then-d-base
returns-then-d-base c = (c.loop-k.invariant.2, run_stops _ _ _ _ _ _ c.loop-k.invariant.3 c.loop-k-test.true (rw (← worth (goal.at.returns-then-d-base c).After-digit-d) c.if-d-base.true), c.loop-k.invariant.0)

pub overflow_mul-value : goal.overflow_mul-value
overflow_mul-value c = let h = fits (goal.at.overflow_mul-value c).Else-d-base in omega arith

pub overflow_add-value : goal.overflow_add-value
overflow_add-value c = let h = fits (goal.at.overflow_add-value c).Else-d-base in omega arith

pub overflow_add-end : goal.overflow_add-end
overflow_add-end c = let h = inside (goal.at.overflow_add-end c).Else-d-base in omega arith

pub loop-k-preserved : goal.loop-k-preserved
loop-k-preserved c = (
  omega arith,
  one_more _ _ _ _ c.loop-k.invariant.1 c.if-d-base.false,
  spelled_more _ _ _ _ c.loop-k.invariant.2 (worth (goal.at.loop-k-preserved c).After-digit-d),
  run_more _ _ _ _ _ _ c.loop-k.invariant.3 c.loop-k-test.true (digit_below (goal.at.loop-k-preserved c).Else-d-base),
)

pub returns : goal.returns
returns c =
    let e : c.loop-k.k ≡ c.args.most = omega arith in
    (rw e at c.loop-k.invariant.2, run_full _ _ _ _ _ _ c.loop-k.invariant.3 e, rw e at c.loop-k.invariant.0)
