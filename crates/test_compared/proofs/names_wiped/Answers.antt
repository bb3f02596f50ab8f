use native.Mathlib.Omega.{arith}
use Rattle.test_compared.proofs.Wiped.{all_wiped, kept_below_7, kept_from_10, none_above, none_kept, wipes_0, wipes_7_9}
use Rattle.test_compared.proofs.names_wiped.Goals as goal

pub returns-then-n-gt256 : goal.returns-then-n-gt256
returns-then-n-gt256 c = none_above _ _ c.if-n-gt256.true

pub returns-in_default : goal.returns-in_default
returns-in_default c = none_kept _ _ c.if-n-gt256.false (kept_below_7 c.args.number (omega arith) (omega arith))

pub returns-in_default-2 : goal.returns-in_default-2
returns-in_default-2 c = none_kept _ _ c.if-n-gt256.false (kept_from_10 c.args.number (omega arith))

pub returns-in-0 : goal.returns-in-0
returns-in-0 c = all_wiped _ _ c.if-n-gt256.false (wipes_0 _ c.in-0.is)

pub returns-in-0-2 : goal.returns-in-0-2
returns-in-0-2 c = all_wiped _ _ c.if-n-gt256.false (wipes_7_9 c.args.number (omega arith) (omega arith))
