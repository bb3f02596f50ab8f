-- Laws of counts: more names never take fewer draws, 256 names take 214,428, a seeding of a round is within the round's count, and one seeding more.
use Rattle.std.proofs.Common.{◌≡◌, ℕ, zero, suc, ◌+◌, ◌-◌, ◌*◌, ◌<◌, ◌≤◌, max, Bool, true, false, cond, ltb, refl, ap, subst, zero-le, le_of_suc-le-suc, not-suc-le-zero, add-zero, mul-le-mul, arith}
use Rattle.draws.specs.Counts.{trials_of, count_of, seedings_of, seeding_of}

between : (a b c d e : Bool) → (2 ≤ cond a 2 (cond b 3 (cond c 4 (cond d 5 (cond e 6 7))))) × (cond a 2 (cond b 3 (cond c 4 (cond d 5 (cond e 6 7)))) ≤ 7)
between true b c d e = (omega arith, omega arith)
between false true c d e = (omega arith, omega arith)
between false false true d e = (omega arith, omega arith)
between false false false true e = (omega arith, omega arith)
between false false false false true = (omega arith, omega arith)
between false false false false false = (omega arith, omega arith)

pub trials_two : (k : ℕ) → 2 ≤ trials_of k
trials_two k = (between (ltb k 3) (ltb k 8) (ltb k 21) (ltb k 55) (ltb k 149)).0

pub trials_some : (k : ℕ) → 0 < trials_of k
trials_some k = omega (arith, trials_two k)

pub trials_few : (k : ℕ) → trials_of k ≤ 7
trials_few k = (between (ltb k 3) (ltb k 8) (ltb k 21) (ltb k 55) (ltb k 149)).1

pub turns_few : (k : ℕ) → k ≤ 256 → (k - 1) * trials_of k ≤ 1785
turns_few k h = let l : k - 1 ≤ 255 = omega arith in omega (arith, mul-le-mul l (trials_few k))

pub seedings_mono : (k i j : ℕ) → i ≤ j → seedings_of k i ≤ seedings_of k j
unfolding seedings_of
seedings_mono k zero j h = zero-le
seedings_mono k (suc i) zero h = absurd (not-suc-le-zero h)
seedings_mono k (suc i) (suc j) h = omega (arith, seedings_mono (suc k) i j (le_of_suc-le-suc h))

pub count_mono : (w m : ℕ) → w ≤ m → count_of w ≤ count_of m
unfolding count_of
count_mono w m h = seedings_mono 2 (max 2 (w - 1) - 1) (max 2 (m - 1) - 1) (omega arith)

pub count_last : count_of 256 ≡ 214428
unfolding count_of seedings_of
count_last = refl

pub count_max : (m : ℕ) → m ≤ 256 → count_of m ≤ 214428
count_max m h = subst (λ (x : ℕ). count_of m ≤ x) count_last (count_mono m 256 h)

-- the seedings up to one more
pub seedings_more : (j k : ℕ) → seedings_of k (suc j) ≡ seedings_of k j + seeding_of (k + j)
unfolding seedings_of
seedings_more zero k = rw (add-zero k) (omega arith)
seedings_more (suc j) k =
    let e : suc k + j ≡ k + suc j = omega arith in
    omega (arith, seedings_more j (suc k), ap seeding_of e)
