use Prim.Native.Nat.{◌%◌, ◌*◌, ◌+◌, ◌/◌}
use Rattle.std.proofs.Common.{◌≡◌, refl, rules}
use Rattle.std.proofs.lemmas.Result.{err_from_is_err_and}
use native.Mathlib.Omega.{arith}
use lib.IntN.{pos}
use lib.ListN.{get_or}
use mir.Syntax.{w64}
use mir.ValLaws.{to_z-of_z}
use Rattle.lists.specs.Lists.{first_to}
use Rattle.intake.specs.Intake.{cause_at}
use Rattle.intake.proofs.Faults.{fault_more, fault_none, first_caused, no_cause_at, no_fault, number_some}
use Rattle.intake.proofs.check_cells.Goals as goal

pub loop-t-init : goal.loop-t-init
unfolding first_to
loop-t-init c = refl

-- what is passed on is read back from its bits: the same number, since it fits
pub returns-in_err-check_cell : goal.returns-in_err-check_cell
unfolding cause_at
returns-in_err-check_cell c =
    let p = err_from_is_err_and c.from_residual.result c.from_residual.ensures.1 in
    let l = c.args.cells.now in
    let n = c.args.n in
    let t = c.loop-t.t in
    let e = rw (to_z-of_z w64 (get_or l t (pos 0)) (search rules), to_z-of_z w64 (get_or l (t % n * n + t / n) (pos 0)) (search rules)) at c.in_err-check_cell.ensures in
    rw (p.1, p.2) (first_caused l n t (number_some c.in_err-check_cell.field-0.0) e c.loop-t.invariant (omega (arith, c.loop-t-test.true)))

pub loop-t-preserved : goal.loop-t-preserved
unfolding cause_at
loop-t-preserved c =
    let l = c.args.cells.now in
    let n = c.args.n in
    let t = c.loop-t.t in
    let e = rw (to_z-of_z w64 (get_or l t (pos 0)) (search rules), to_z-of_z w64 (get_or l (t % n * n + t / n) (pos 0)) (search rules)) at c.in_ok-check_cell.ensures in
    fault_more l n t refl c.loop-t.invariant (no_cause_at (cause_at l n t) t e)

pub returns : goal.returns
returns c =
    let n = c.args.n in
    let e : c.loop-t.t ≡ n * n = omega arith in
    no_fault c.args.cells.now n (fault_none c.args.cells.now n c.loop-t.t (n * n) c.loop-t.invariant e refl) (omega arith)
