use Rattle.std.proofs.Common.{◌≡◌, ℕ, suc, ◌-◌, ◌*◌, ◌^◌, ◌<◌, ◌≤◌, ap, ◌∙◌, mul-le-mul_right, lt_of_not-le, arith, pow_mono}
use native.Mathlib.Nat.{pow-succ'}
use Rattle.sqrt.proofs.lead.Goals as goal

low : (t m s : ℕ) → 0 < t → m ≡ t * 2 ^ (1074 - s) → m < 2 ^ 53 → 1021 < s
low t m s T e h = lt_of_not-le (λ (g : s ≤ 1021).
    let p : 2 ^ 53 ≤ 2 ^ (1074 - s) = pow_mono {i = 53} {j = 1074 - s} (omega arith) in
    let q : 1 * 2 ^ (1074 - s) ≤ t * 2 ^ (1074 - s) = mul-le-mul_right (2 ^ (1074 - s)) T in
    omega arith)

next : (t m s : ℕ) → 0 < s → s ≤ 1074 → m ≡ t * 2 ^ (1074 - s) → 2 * m ≡ t * 2 ^ (1074 - (s - 1))
next t m s S h e =
    let k : 1074 - (s - 1) ≡ suc (1074 - s) = omega arith in
    let p : 2 ^ (1074 - (s - 1)) ≡ 2 * 2 ^ (1074 - s) = ap (λ (x : ℕ). 2 ^ x) k ∙ pow-succ' 2 (1074 - s) in
    rw p (omega arith)

pub loop-m-preserved : goal.loop-m-preserved
loop-m-preserved c =
    let l = c.loop-m in
    let t = c.args.t in
    let T : 0 < t = omega arith in
    let e : 2 * l.m ≡ t * 2 ^ (1074 - (l.s - 1)) = next t l.m l.s (omega arith) (omega arith) l.invariant.4 in
    let h : 2 * l.m < 2 ^ 53 = omega arith in
    let b : 1021 < l.s - 1 = low t (2 * l.m) (l.s - 1) T e h in
    (omega arith, h, b, omega arith, e)
