-- The draws of a round by the five bounds of the trials: an arithmetic series from each of them on.
use Rattle.std.proofs.Common.{◌≡◌, ℕ, zero, suc, ◌+◌, ◌-◌, ◌*◌, ◌/◌, ◌<◌, ◌≤◌, max, Bool, true, false, cond, ltb, sym, refl, ap, ◌∙◌, suc-mul, mul-le-mul, zero-mul, mul-suc, arith, w64, Fits, ltb-false, ltb-true, le-ltb, lt-ltb}
use Rattle.draws.specs.Counts.{trials_of, seeding_of, seedings_of, tries, count_of}
use Rattle.draws.specs.Bounds.{later_of, by_bounds, BoundsClaim}
use Rattle.draws.proofs.Counting.{seedings_more}

-- twice a series is its terms times the first and the last together
series : (b most : ℕ) → 2 ≤ b → later_of b most + later_of b most ≡ (most + 1 - b) * (b + most - 2)
unfolding later_of
series b zero h = let e : 0 + 1 - b ≡ 0 = omega arith in rw e (sym (zero-mul (b + 0 - 2)))
series b (suc k) h = by_test (ltb (suc k) b) refl (series b k h)
  where
    by_test : (t : Bool) → ltb (suc k) b ≡ t → later_of b k + later_of b k ≡ (k + 1 - b) * (b + k - 2)
        → later_of b k + cond t 0 k + (later_of b k + cond t 0 k) ≡ (suc k + 1 - b) * (b + suc k - 2)
    by_test true e before =
        let l = ltb-true (suc k) b e in
        let none : k + 1 - b ≡ 0 = omega (arith, l) in
        let more : suc k + 1 - b ≡ 0 = omega (arith, l) in
        rw more (omega (arith, rw none at before, zero-mul (b + k - 2), zero-mul (b + suc k - 2)))
    by_test false e before =
        let l = ltb-false (suc k) b e in
        let terms : suc k + 1 - b ≡ suc (k + 1 - b) = omega (arith, l) in
        let ends : b + suc k - 2 ≡ suc (b + k - 2) = omega (arith, l) in
        rw (terms, ends) (omega (arith, before, suc-mul (k + 1 - b) (suc (b + k - 2)), mul-suc (k + 1 - b) (b + k - 2)))

-- as the code works it out: nothing below the first term, and else half of that product
pub later_none : (b most : ℕ) → 2 ≤ b → most < b → later_of b most ≡ 0
later_none b most h l =
    let e : most + 1 - b ≡ 0 = omega arith in
    omega (arith, rw e at (series b most h), zero-mul (b + most - 2))

pub later_half : (b most : ℕ) → 2 ≤ b → (most + 1 - b) * (b + most - 2) / 2 ≡ later_of b most
later_half b most h = omega (arith, series b most h)

-- the code's numbers are small
pub product_fits : (x y : ℕ) → x ≤ 255 → y ≤ 510 → Fits w64 (x * y)
product_fits x y h l = omega (arith, mul-le-mul h l)

pub later_few : (b most : ℕ) → 2 ≤ b → b ≤ most → most ≤ 255 → later_of b most ≤ 65025
later_few b most h l m =
    let terms : most + 1 - b ≤ 255 = omega arith in
    let ends : b + most - 2 ≤ 510 = omega arith in
    omega (arith, series b most h, mul-le-mul terms ends)

-- what a series gains by a seeding with k + 1 centres
abbrev gain : ℕ → ℕ → ℕ
gain b k = cond (ltb (suc k) b) 0 k

-- nested tests, each of which implies the next, count those that fail
nested : (k : ℕ) (a b c d e : Bool) → (a ≡ true → b ≡ true) → (b ≡ true → c ≡ true) → (c ≡ true → d ≡ true) → (d ≡ true → e ≡ true)
    → k * cond a 2 (cond b 3 (cond c 4 (cond d 5 (cond e 6 7)))) ≡ 2 * k + (cond a 0 k + cond b 0 k + cond c 0 k + cond d 0 k + cond e 0 k)
nested k true b c d e f g h i = rw (f refl, g (f refl), h (g (f refl)), i (h (g (f refl)))) (omega arith)
nested k false true c d e f g h i = rw (g refl, h (g refl), i (h (g refl))) (omega arith)
nested k false false true d e f g h i = rw (h refl, i (h refl)) (omega arith)
nested k false false false true e f g h i = rw (i refl) (omega arith)
nested k false false false false true f g h i = omega arith
nested k false false false false false f g h i = omega arith

-- what is below a bound is below the next
wider : (k b c : ℕ) → b ≤ c → ltb k b ≡ true → ltb k c ≡ true
wider k b c h e = lt-ltb k c (omega (arith, ltb-true k b e))

-- the trials of a seeding with k + 1 centres: two for each centre after the first, and one more from each bound on
turns : (k : ℕ) → k * trials_of (suc k) ≡ 2 * k + (gain 3 k + gain 8 k + gain 21 k + gain 55 k + gain 149 k)
turns k =
    nested k (ltb (suc k) 3) (ltb (suc k) 8) (ltb (suc k) 21) (ltb (suc k) 55) (ltb (suc k) 149)
    (wider (suc k) 3 8 (omega arith))
    (wider (suc k) 8 21 (omega arith))
    (wider (suc k) 21 55 (omega arith))
    (wider (suc k) 55 149 (omega arith))

-- one more seeding
bounds_more : (k : ℕ) → by_bounds (suc (suc k)) ≡ by_bounds (suc k) + seeding_of (suc (suc k))
unfolding later_of
bounds_more k =
    let two : gain 2 (suc k) ≡ suc k = rw (le-ltb (suc (suc k)) 2 (omega arith)) refl in
    let e : suc (suc k) - 1 ≡ suc k = omega arith in
    rw e (omega (arith, two, turns (suc k)))

-- so the seedings with 2 to j + 1 centres, by induction
by_bounds_lem : (j : ℕ) → seedings_of 2 j ≡ by_bounds (suc j)
unfolding seedings_of later_of
by_bounds_lem zero = refl
by_bounds_lem (suc j) =
    let e : 2 + j ≡ suc (suc j) = omega arith in
    omega (arith, seedings_more j 2, by_bounds_lem j, ap seeding_of e, bounds_more j)

pub count_bounds : BoundsClaim
unfolding count_of
count_bounds m = let e : suc (tries m) ≡ max 2 (m - 1) = omega arith in by_bounds_lem (tries m) ∙ ap by_bounds e

-- the same for what `groups_end` answers, which is one more than the most centres
pub bounds_end : (m end : ℕ) → end ≡ tries m + 2 → by_bounds (end - 1) ≡ count_of m
bounds_end m end h = let e : end - 1 ≡ max 2 (m - 1) = omega arith in rw e (sym (count_bounds m))
