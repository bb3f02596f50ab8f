-- A distance is a NaN, or from +0 to 1.
use Prim.Native.Nat.{ℕ, ◌+◌, ◌-◌, ◌*◌, ◌≤◌, ◌<◌}
use mathlib.Core.Path.{◌≡◌, refl}
use mathlib.Core.Logic.{inl, inr, ⊎_elim}
use mathlib.Core.Bool.{Bool, true, false, cond}
use mathlib.Core.List.{List}
use native.Mathlib.Nat.{le_refl}
use native.Mathlib.Omega.{arith}
use borrow.Author.Tests.{ltb-true, ltb-false}
use lib.Dec.{ltb}
use lib.Ieee.{Float, nan, inf, fin, binary64, up, down, round, sum, add, neg, sub, div, lt}
use lib.Ieee.Fits.{down_pos}
use Rattle.lists.specs.Sums.{one64}
use Rattle.distance.specs.Distance.{minus_one64, two64, clamped, distance_of, cell_through, dist_at}
use Rattle.certain_ranges.specs.Ranges.{Bounded, UpTo, OrNan}
use Rattle.certain_ranges.proofs.Rounding.{round_whole}
use Rattle.certain_ranges.proofs.Operations.{sized_upto, upto_sized, sized_over, upto_root, upto_bounded, bounded_number, sub_nan, nan_div, nan_root}
use Rattle.certain_holes.specs.Holes.{Distances, Hole, Whole}
use Rattle.certain_holes.proofs.Choices.{nan_or_not}

-- ---- clamped to -1..1
one_off : (a d : ℕ) → a * 1 ≤ 1 * d → a ≤ 1 * d
one_off a d h = omega arith

clamped_number : (c : Float) → (c ≡ nan → ⊥) → Bounded 1 (clamped c)
unfolding clamped lt
clamped_number nan n = absurd (n refl)
clamped_number (inf true) n = le_refl 1
clamped_number (inf false) n = le_refl 1
clamped_number (fin true m e) n = go (ltb (1 * down e) (m * up e * 1)) refl
  where
    go : (b : Bool) → ltb (1 * down e) (m * up e * 1) ≡ b → Bounded 1 (cond b minus_one64 (fin true m e))
    go true h = le_refl 1
    go false h = one_off (m * up e) (down e) (ltb-false (1 * down e) (m * up e * 1) h)
clamped_number (fin false m e) n = go (ltb (1 * down e) (m * up e * 1)) refl
  where
    go : (b : Bool) → ltb (1 * down e) (m * up e * 1) ≡ b → Bounded 1 (cond b one64 (fin false m e))
    go true h = le_refl 1
    go false h = one_off (m * up e) (down e) (ltb-false (1 * down e) (m * up e * 1) h)

clamped_nan : clamped nan ≡ nan
unfolding clamped lt
clamped_nan = refl

-- ---- 1 - c
from_one : (c : Float) → Bounded 1 c → UpTo 2 (sub binary64 one64 c)
unfolding sub neg add sum
from_one nan h = absurd h
from_one (inf s) h = absurd h
from_one (fin true m e) h =
    let p : 0 < down e = down_pos e in
    sized_upto 2 (round binary64 false (1 * down e + m * up e * 1) (1 * down e))
    (round_whole false (1 * down e + m * up e * 1) (1 * down e) 2 (omega arith) (omega arith) (both (m * up e) (down e) h))
  where
    both : (a d : ℕ) → a ≤ 1 * d → 1 * d + a * 1 ≤ 2 * (1 * d)
    both a d h = omega arith
from_one (fin false m e) h = go (ltb (1 * down e) (m * up e * 1)) refl
  where
    less : (a d : ℕ) → 1 * d - a * 1 ≤ 2 * (1 * d)
    less a d = omega arith

    over : (a d : ℕ) → a ≤ 1 * d → 1 * d < a * 1 → ⊥
    over a d h l = omega arith

    go : (b : Bool) → ltb (1 * down e) (m * up e * 1) ≡ b → UpTo 2 (cond b (round binary64 true (m * up e * 1 - 1 * down e) (1 * down e)) (round binary64 false (1 * down e - m * up e * 1) (1 * down e)))
    go true t = absurd (over (m * up e) (down e) h (ltb-true (1 * down e) (m * up e * 1) t))
    go false t =
        let p : 0 < down e = down_pos e in
        sized_upto 2 (round binary64 false (1 * down e - m * up e * 1) (1 * down e))
        (round_whole false (1 * down e - m * up e * 1) (1 * down e) 2 (omega arith) (omega arith) (less (m * up e) (down e)))

halved : (x : Float) → UpTo 2 x → UpTo 1 (div binary64 x two64)
halved x h = sized_upto 1 (div binary64 x two64) (sized_over false x two64 1 2 (omega arith) (omega arith) (refl, refl) (upto_sized 2 x h))

-- ---- the distance: a NaN of a NaN, and a number of anything else
distance_nan : (c : Float) → c ≡ nan → distance_of c ≡ nan
unfolding distance_of
distance_nan c e = rw (e, clamped_nan, sub_nan one64, nan_div two64) nan_root

distance_number : (c : Float) → (c ≡ nan → ⊥) → UpTo 1 (distance_of c)
unfolding distance_of
distance_number c n =
    upto_root 1 1 (div binary64 (sub binary64 one64 (clamped c)) two64) (omega arith) (omega arith)
    (halved (sub binary64 one64 (clamped c)) (from_one (clamped c) (clamped_number c n)))

distance_range : (c : Float) → OrNan (UpTo 1) (distance_of c)
distance_range c = ⊎_elim (λ e. inl (distance_nan c e)) (λ n. inr (distance_number c n)) (nan_or_not c)

pub book_distances : (book : List Float) (n : ℕ) (rows : List ℕ) → Distances (dist_at book n rows)
unfolding dist_at
book_distances book n rows i c = distance_range (cell_through book n rows i c)

-- an item of a book has a hole where it has a NaN among its cells, and nowhere else
pub book_hole : (book : List Float) (n : ℕ) (rows : List ℕ) (m i : ℕ) → Hole (cell_through book n rows i) m → Hole (dist_at book n rows i) m
unfolding dist_at
book_hole book n rows m i h = (h.0, h.1, distance_nan (cell_through book n rows i h.0) h.2)

pub book_whole : (book : List Float) (n : ℕ) (rows : List ℕ) (m i : ℕ) → Whole (cell_through book n rows i) m → Whole (dist_at book n rows i) m
unfolding dist_at
book_whole book n rows m i h c l e =
    bounded_number 1 (distance_of (cell_through book n rows i c)) (upto_bounded 1 (distance_of (cell_through book n rows i c)) (distance_number (cell_through book n rows i c) (h c l))) e
