-- The silhouette (Rousseeuw 1987) of item i: d j is its distance to item j, label j is the group of item j, and there are n items. Definitions only.
use Rattle.std.specs.Prelude.{ℕ, zero, suc, Bool, false, cond, not, ◌&&◌, ◌||◌, eqb, Float}
use Rattle.std.specs.Float.{inf, binary64}
use Rattle.std.specs.Float.Ieee.{sub, div, lt, eq}
use Rattle.std.specs.Float.Ieee.Scale.{finite}
use Rattle.lists.specs.Sums.{zero64, counted, lesser, sum_if, count_if}

-- item j is in group l, and is not i
abbrev pub member : (ℕ → ℕ) → ℕ → ℕ → ℕ → Bool
member label i l j = eqb (label j) l && not (eqb j i)

-- i's distances to the members of l but itself, summed by rising row; and how many they are
abbrev pub group_sum : (ℕ → Float) → (ℕ → ℕ) → ℕ → ℕ → ℕ → Float
group_sum d label n i l = sum_if (member label i l) d n

abbrev pub group_count : (ℕ → ℕ) → ℕ → ℕ → ℕ → ℕ
group_count label n i l = count_if (member label i l) n

-- b: the least mean distance, over the groups below m that are not `own` and have a member; s and c are the groups' sums and counts
unfoldable pub least : (ℕ → Float) → (ℕ → ℕ) → ℕ → ℕ → Float
least s c own zero = inf false
least s c own (suc l) = cond (eqb l own || eqb (c l) 0) (least s c own l) (lesser (div binary64 (s l) (counted (c l))) (least s c own l))

-- (b - a) over the larger; 0 where b is not finite, or both are 0
unfoldable pub score_of : Float → Float → Float
score_of a b =
    cond (not (finite b) || (eq a zero64 && eq b zero64)) zero64 (div binary64 (sub binary64 b a) (cond (lt a b) b a))

-- a score from the groups' sums and counts: 0 for an item alone in its group
unfoldable pub score_from : (ℕ → Float) → (ℕ → ℕ) → ℕ → ℕ → Float
score_from s c own n = cond (eqb (c own) 0) zero64 (score_of (div binary64 (s own) (counted (c own))) (least s c own n))

abbrev pub silhouette : (ℕ → Float) → (ℕ → ℕ) → ℕ → ℕ → Float
silhouette d label n i = score_from (group_sum d label n i) (group_count label n i) (label i) n
