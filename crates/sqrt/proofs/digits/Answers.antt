use Rattle.std.proofs.Common.{◌≡◌, ℕ, ◌+◌, ◌-◌, ◌*◌, ◌/◌, ◌%◌, ◌^◌, ◌<◌, ◌≤◌, ap, ◌∙◌, add-one, arith, pow_mono}
use native.Mathlib.Nat.{pow-succ'}
use Rattle.sqrt.proofs.digits.Invariants.{Kept}
use Rattle.sqrt.proofs.digits.Goals as goal
use Rattle.sqrt.proofs.digits.Goals.{then-t-r, else-t-r}

-- the next digit is 1, or 0
one : (m p z a q r : ℕ) → Kept m p z a q r → q * 4 + 1 ≤ r * 4 + a / 2 ^ 52
    → Kept m (4 * p) (2 * z) (a % 2 ^ 52 * 4) (q * 2 + 1) (r * 4 + a / 2 ^ 52 - (q * 4 + 1))
one m p z a q r k h = omega arith

none : (m p z a q r : ℕ) → Kept m p z a q r → r * 4 + a / 2 ^ 52 < q * 4 + 1
    → Kept m (4 * p) (2 * z) (a % 2 ^ 52 * 4) (q * 2) (r * 4 + a / 2 ^ 52)
none m p z a q r k h = omega arith

again : (m i a q r : ℕ) → i < 54 → Kept m (4 * 4 ^ i) (2 * 2 ^ i) a q r → Kept m (4 ^ (i + 1)) (2 ^ (i + 1)) a q r × (q < 2 ^ 54)
again m i a q r h k =
    let p : 4 ^ (i + 1) ≡ 4 * 4 ^ i = ap (λ (x : ℕ). 4 ^ x) (add-one i) ∙ pow-succ' 4 i in
    let z : 2 ^ (i + 1) ≡ 2 * 2 ^ i = ap (λ (x : ℕ). 2 ^ x) (add-one i) ∙ pow-succ' 2 i in
    let y : 2 ^ (i + 1) ≤ 2 ^ 54 = pow_mono {i = i + 1} {j = 54} (omega arith) in
    (rw (p, z) k, omega arith)

pub loop-preserved : goal.loop-preserved
loop-preserved c =
    let l = c.loop in
    let m = c.args.m in
    again m l.counter (l.a % 2 ^ 52 * 4) c.if-t-r.q c.if-t-r.r c.loop-test.true
    (elim c.if-t-r.branch [
      | then-t-r w ↦ rw (w.q-is, w.r-is) (one m (4 ^ l.counter) (2 ^ l.counter) l.a l.q l.r l.invariant.0 w.if-t-r.true)
      | else-t-r w ↦ rw (w.q-is, w.r-is) (none m (4 ^ l.counter) (2 ^ l.counter) l.a l.q l.r l.invariant.0 w.if-t-r.false)
    ])
