-- A re-clustering one of whose scores is a NaN is never kept; so the partition that is chosen has scores within -1..1.
use Prim.Native.Nat.{ℕ, zero, suc, ◌<◌, ◌≤◌}
use mathlib.Core.Path.{◌≡◌, refl, sym, ap, ◌∙◌, subst}
use mathlib.Core.Logic.{◌⊎◌, inl, inr, ⊎_elim}
use mathlib.Core.Bool.{Bool, true, false, cond, ◌||◌, true≢false}
use mathlib.Core.List.{List, [], ◌∷◌, map}
use native.Mathlib.Omega.{arith}
use borrow.Author.Tests.{eqb-true}
use lib.Dec.{eqb}
use lib.ListN.{length, get_or, length-map}
use lib.Ieee.{Float, nan, lt}
use Rattle.lists.specs.Lists.{cells, numbers}
use Rattle.partition.specs.Partition.{joined, group_at, has, label_of, times, Partition, State}
use Rattle.partition.proofs.Members.{has_append, times_has}
use Rattle.quality.specs.Quality.{quality_of, qualities_of, average, weak_mean}
use Rattle.improve_merge.specs.Merging.{weak_items, merged_of}
use Rattle.improve_merge.proofs.Merged.{merged_partition}
use Rattle.improve.specs.Improve.{rescored, mean_quality, better_of}
use Rattle.certain_ranges.specs.Ranges.{Bounded}
use Rattle.certain_ranges.proofs.Operations.{lt_nan, number_of}
use Rattle.certain_holes.specs.Holes.{Distances}
use Rattle.certain_holes.proofs.Choices.{somewhere, nan_or_not}
use Rattle.certain_holes.proofs.Rounds.{score_range}
use Rattle.certain_holes.proofs.Stats.{stat_nan, plain_nan}
use Rattle.certain_runs.specs.Certain.{InRange}

-- ---- a member's place in its group, and its group
either : (a b : Bool) → (a || b) ≡ true → (a ≡ true) ⊎ (b ≡ true)
either true b h = inl refl
either false b h = inr h

place : (xs : List ℕ) (i : ℕ) → has xs i ≡ true → (j : ℕ) × (j < length xs) × (numbers xs j ≡ i)
unfolding has
place [] i h = absurd (true≢false (sym h))
place (x ∷ xs) i h = ⊎_elim
    (λ (e : eqb x i ≡ true). (0, omega arith, eqb-true x i e))
    (λ (t : has xs i ≡ true). let r : (j : ℕ) × (j < length xs) × (numbers xs j ≡ i) = place xs i t in (suc r.0, next r.0 (length xs) r.1, r.2))
    (either (eqb x i) (has xs i) h)
  where
    next : (j n : ℕ) → j < n → suc j < suc n
    next j n h = omega arith

pub group_of_lem : (gs : List (List ℕ)) (i : ℕ) → has (joined gs) i ≡ true → (g : ℕ) × (g < length gs) × (has (group_at gs g) i ≡ true)
unfolding joined has
group_of_lem [] i h = absurd (true≢false (sym h))
group_of_lem (x ∷ gs) i h = ⊎_elim
    (λ (t : has x i ≡ true). (0, omega arith, t))
    (λ (t : has (joined gs) i ≡ true). let r : (g : ℕ) × (g < length gs) × (has (group_at gs g) i ≡ true) = group_of_lem gs i t in (suc r.0, next r.0 (length gs) r.1, r.2))
    (either (has x i) (has (joined gs) i) (sym (has_append x (joined gs) i) ∙ h))
  where
    next : (j n : ℕ) → j < n → suc j < suc n
    next j n h = omega arith

map_at : {A B : Type 0} (f : A → B) (xs : List A) (k : ℕ) (a : A) (b : B) → k < length xs → get_or (map f xs) k b ≡ f (get_or xs k a)
map_at f [] k a b h = absurd (omega arith)
map_at f (x ∷ xs) zero a b h = refl
map_at f (x ∷ xs) (suc k) a b h = map_at f xs k a b (omega arith)

-- ---- a NaN among the scores of a group, and among the groups' t-stats
quality_nan : (scores : List Float) (g : List ℕ) (i : ℕ) → has g i ≡ true → cells scores i ≡ nan → quality_of scores g ≡ nan
unfolding quality_of
quality_nan scores g i h e =
    let p = place g i h in
    stat_nan (cells (map (cells scores) g)) (length g) p.0 p.1 (map_at (cells scores) g p.0 0 nan p.1 ∙ ap (cells scores) p.2 ∙ e)

average_nan : (scores : List Float) (gs : List (List ℕ)) (g : ℕ) → g < length gs → quality_of scores (group_at gs g) ≡ nan → average (qualities_of scores gs) ≡ nan
average_nan scores gs g h e =
    plain_nan (cells (qualities_of scores gs)) (length (qualities_of scores gs)) g (subst (λ (z : ℕ). g < z) (sym (length-map gs (quality_of scores))) h)
    (map_at (quality_of scores) gs g [] nan h ∙ e)

-- the average of a partition with a NaN among its scores
mean_nan : (m : ℕ) (s : State) → Partition m s.groups → (i : ℕ) → i < m → cells s.scores i ≡ nan → mean_quality s ≡ nan
mean_nan m s p i h e =
    let one : times i (joined s.groups) ≡ 1 = p.once i h in
    let g = group_of_lem s.groups i (times_has (joined s.groups) i (omega arith)) in
    average_nan s.scores s.groups g.0 g.1 (quality_nan s.scores (group_at s.groups g.0) i g.2 e)

-- ---- a re-clustering one of whose scores is a NaN is not kept
pub nan_not_kept : (x : ℕ → ℕ → Float) (m : ℕ) (s : State) (inner : List (List ℕ)) → Partition m s.groups → Partition (length (weak_items s)) inner
    → (i : ℕ) → i < m → cells (rescored x m (merged_of s inner)).scores i ≡ nan → better_of x m s inner ≡ s
nan_not_kept x m s inner h k i l e =
    let q : mean_quality (rescored x m (merged_of s inner)) ≡ nan = mean_nan m (rescored x m (merged_of s inner)) (merged_partition m s inner h k) i l e in
    ap (λ (t : Bool). cond t (rescored x m (merged_of s inner)) s)
    (ap (λ (y : Float). lt (weak_mean (qualities_of s.scores s.groups)) y) q ∙ lt_nan (weak_mean (qualities_of s.scores s.groups)))

pub better_range : (x : ℕ → ℕ → Float) (m : ℕ) → Distances x → m ≤ 256 → (s : State) (inner : List (List ℕ)) → Partition m s.groups → Partition (length (weak_items s)) inner
    → InRange m s.scores → InRange m (better_of x m s inner).scores
better_range x m D M s inner h k R = ⊎_elim
    (λ (w : (i : ℕ) × (i < m) × (cells (rescored x m (merged_of s inner)).scores i ≡ nan)).
    subst (λ (b : State). InRange m b.scores) (sym (nan_not_kept x m s inner h k w.0 w.1 w.2)) R)
    (λ (n : (i : ℕ) → i < m → cells (rescored x m (merged_of s inner)).scores i ≡ nan → ⊥).
    choose (lt (weak_mean (qualities_of s.scores s.groups)) (mean_quality (rescored x m (merged_of s inner))))
    (λ i l. number_of (Bounded 1) (cells (rescored x m (merged_of s inner)).scores i) (score_range x m D M (label_of (merged_of s inner)) i l) (n i l)))
    (somewhere (λ i. cells (rescored x m (merged_of s inner)).scores i ≡ nan) (λ i. cells (rescored x m (merged_of s inner)).scores i ≡ nan → ⊥)
    (λ i. nan_or_not (cells (rescored x m (merged_of s inner)).scores i)) m)
  where
    choose : (t : Bool) → InRange m (rescored x m (merged_of s inner)).scores → InRange m (cond t (rescored x m (merged_of s inner)) s).scores
    choose true n = n
    choose false n = R
