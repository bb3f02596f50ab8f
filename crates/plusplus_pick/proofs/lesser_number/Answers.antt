use mathlib.Core.Path.{◌∙◌, ◌≡◌, sym}
use mathlib.Core.Bool.{false, true}
use lib.Ieee.{is_nan}
use Rattle.lists.proofs.Floats.{ne_self}
use Rattle.plusplus_pick.proofs.lesser_number.Goals as goal

pub returns-then-a : goal.returns-then-a
returns-then-a c =
    let a = c.args.a in
    let h : is_nan a ≡ true = sym (ne_self a) ∙ c.if-a.true in
    rw (c.if-b-a.false, h)

pub returns : goal.returns
returns c =
    let a = c.args.a in
    let h : is_nan a ≡ false = sym (ne_self a) ∙ c.if-a.false in
    rw (c.if-b-a.false, h)
