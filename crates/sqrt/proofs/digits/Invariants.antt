use Rattle.std.proofs.Common.{◌≡◌, ℕ, ◌+◌, ◌*◌, ◌^◌, ◌<◌, ◌≤◌}
use Rattle.sqrt.proofs.digits.Given as goal

-- what the loop keeps, with p for 4 ^ i and z for 2 ^ i
abbrev pub Kept : (m p z a q r : ℕ) → Type 0
Kept m p z a q r = (a < 2 ^ 54) × (r ≤ 2 * q) × (q < z) × ((q * q + r) * 2 ^ 54 + a ≡ m * p)

abbrev pub invariant-loop : goal.invariant-loop
invariant-loop l = Kept l.m (4 ^ l.counter) (2 ^ l.counter) l.a l.q l.r × (l.q < 2 ^ 54)
