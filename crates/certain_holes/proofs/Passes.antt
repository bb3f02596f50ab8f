-- Lloyd's passes where an item has a hole: from the second pass on every label is 0, or label 0 is exactly the items with a hole.
use Prim.Native.Nat.{ℕ, zero, suc, ◌*◌, ◌≤◌, ◌<◌}
use mathlib.Core.Path.{◌≡◌, refl, sym, ap, ◌∙◌, subst}
use mathlib.Core.Logic.{◌⊎◌, inl, inr, ⊎_elim}
use mathlib.Core.Bool.{Bool, true, false, cond, true≢false}
use native.Mathlib.Nat.{eq-or-lt_of_le}
use native.Mathlib.Omega.{arith}
use borrow.Author.Tests.{eqb-true, eq-eqb, ne_eqb}
use lib.Dec.{eqb}
use lib.Ieee.{Float, nan, inf, fin, binary64, div, sub, lt}
use Rattle.lists.specs.Lists.{cells, numbers}
use Rattle.lists.specs.Sums.{one64, counted, square_from, sum_if, in_group, group_size}
use Rattle.lists.proofs.Listed.{get_d_listed}
use Rattle.lists.proofs.Sums.{count-le, count_some, all_true}
use Rattle.lists.proofs.First.{first_holds}
use Rattle.distance_columns.specs.Pair.{squared}
use Rattle.lloyd_nearest.specs.declared.Best.{Best}
use Rattle.lloyd_nearest.specs.Nearest.{nearer, nearest_to}
use Rattle.lloyd_mean.specs.Groups.{mean}
use Rattle.lloyd_pass.specs.Passes.{takes_item, moved, nearest_centroid, labels_of, dists_of, centroids_at, labels_at, converges_at, passes, lloyd_labels}
use Rattle.lloyd_pass.proofs.Below.{some_passes}
use Rattle.certain_ranges.specs.Ranges.{Bounded, UpTo, OrNan}
use Rattle.certain_ranges.proofs.Operations.{upto_bounded, bounded_more, bounded_mul, upto_over, bounded_sub, upto_square, nan_mul, nan_lt, number_of, below_inf}
use Rattle.certain_ranges.proofs.Totals.{adds_or_nan, adds_upto, sum_in, sum_if_in, sum_if_nan}
use Rattle.certain_holes.specs.Holes.{Distances, Hole, Whole}
use Rattle.certain_holes.proofs.Pairs.{squared_nan, squared_nan'}
use Rattle.certain_holes.proofs.Choices.{somewhere, hole_or_whole, count-pos}

-- ---- the nearest of centroids
abbrev none : Best
none = record { value = inf false; at = 0 }

nearer_not : (b : Best) (y : Float) (l : ℕ) → lt y b.value ≡ false → nearer b y l ≡ b
nearer_not b y l e = rw e refl

nearest-none : (f : ℕ → Float) (k : ℕ) → ((l : ℕ) → l < k → f l ≡ nan) → nearest_to f k ≡ none
unfolding nearest_to
nearest-none f zero h = refl
nearest-none f (suc k) h =
    let e : f k ≡ nan = h k (omega arith) in
    nearer_not (nearest_to f k) (f k) k (ap (λ (z : Float). lt z (nearest_to f k).value) e ∙ nan_lt (nearest_to f k).value) ∙ nearest-none f k (λ l g. h l (omega arith))

-- where centroid 0 has a NaN distance, the nearest is another one, or none
nearest_later : (f : ℕ → Float) (k : ℕ) → f 0 ≡ nan → (nearest_to f k ≡ none) ⊎ ((nearest_to f k).at ≡ 0 → ⊥)
unfolding nearest_to
nearest_later f zero e = inl refl
nearest_later f (suc zero) e = inl (nearer_not none (f 0) 0 (ap (λ (z : Float). lt z (inf false)) e ∙ nan_lt (inf false)))
nearest_later f (suc (suc k)) e = go (lt (f (suc k)) (nearest_to f (suc k)).value) (nearest_later f (suc k) e)
  where
    go : (t : Bool) → (nearest_to f (suc k) ≡ none) ⊎ ((nearest_to f (suc k)).at ≡ 0 → ⊥)
        → (cond t (record { value = f (suc k); at = suc k }) (nearest_to f (suc k)) ≡ none) ⊎ ((cond t (record { value = f (suc k); at = suc k }) (nearest_to f (suc k))).at ≡ 0 → ⊥)
    go true h = inr (λ z. omega arith)
    go false h = h

-- a distance below infinity, and there is one
inf_lt : (y b : Float) → y ≡ inf false → lt y b ≡ false
unfolding lt
inf_lt y nan e = rw e refl
inf_lt y (inf s) e = rw e refl
inf_lt y (fin s m d) e = rw e refl

nearest_some : (f : ℕ → Float) (k l : ℕ) → l < k → lt (f l) (inf false) ≡ true → nearest_to f k ≡ none → ⊥
unfolding nearest_to
nearest_some f zero l h t e = omega arith
nearest_some f (suc k) l h t e = go (lt (f k) (nearest_to f k).value) refl e (λ q. nearest_some f k l q t)
  where
    go : (b : Bool) → lt (f k) (nearest_to f k).value ≡ b → cond b (record { value = f k; at = k }) (nearest_to f k) ≡ none → (l < k → nearest_to f k ≡ none → ⊥) → ⊥
    go true u e before = true≢false (sym u ∙ inf_lt (f k) (nearest_to f k).value (ap (λ (z : Best). z.value) e))
    go false u e before = ⊎_elim
        (λ (q : suc l ≡ suc k).
        let r : l ≡ k = omega arith in
        true≢false (sym t ∙ ap (λ (z : ℕ). lt (f z) (inf false)) r ∙ ap (λ (z : Best). lt (f k) z.value) (sym e) ∙ u))
        (λ (q : suc l < suc k). before (omega arith) e)
        (eq-or-lt_of_le h)

-- ---- a centroid's columns
one_count : (n : ℕ) → 0 < n → UpTo (1 * n) one64
one_count n h = (refl, omega arith)

module _ (x : ℕ → ℕ → Float) (m : ℕ) (D : Distances x) (M : m ≤ 256) where
  abbrev Held : (ℕ → Float) → Type 0
  Held a = (c : ℕ) → OrNan (Bounded 256) (a c)

  item_held : (i : ℕ) → Held (x i)
  item_held i c = ⊎_elim (λ e. inl e) (λ h. inr (bounded_more 1 256 (x i c) (omega arith) (upto_bounded 1 (x i c) h))) (D i c)

  mean_held : (label : ℕ → ℕ) (l : ℕ) → 0 < group_size label m l → Held (mean x label m l)
  mean_held label l P c =
      let n = group_size label m l in
      let total = sum_if (in_group label l) (λ i. x i c) m in
      let few : n ≤ m = count-le (in_group label l) m in
      ⊎_elim
      (λ (e : total ≡ nan). inl (rw e (nan_mul (div binary64 one64 (counted n)))))
      (λ (h : UpTo (1 * n) total). inr (bounded_mul 256 1 total (div binary64 one64 (counted n)) (omega arith)
      (bounded_more (1 * n) 256 total (omega arith) (upto_bounded (1 * n) total h))
      (upto_bounded 1 (div binary64 one64 (counted n)) (upto_over 1 n one64 P (omega arith) (omega arith) (one_count n P)))))
      (sum_if_in (λ k y. OrNan (UpTo k) y) adds_or_nan (in_group label l) (λ i. x i c) 1 m (omega arith) (λ i g t. D i c))

  moved_held : (label : ℕ → ℕ) (dist : ℕ → Float) (l : ℕ) → Held (moved x label dist m l)
  moved_held label dist l = go (eqb (group_size label m l) 0) refl
    where
      go : (b : Bool) → eqb (group_size label m l) 0 ≡ b → Held (cond b (x (takes_item label dist m l)) (mean x label m l))
      go true e = item_held (takes_item label dist m l)
      go false e = mean_held label l (count-pos (group_size label m l) e)

  -- a member with a hole: so has the centroid
  moved_hole : (label : ℕ → ℕ) (dist : ℕ → Float) (l i : ℕ) → i < m → label i ≡ l → Hole (x i) m → Hole (moved x label dist m l) m
  moved_hole label dist l i h e H =
      let t : in_group label l i ≡ true = eq-eqb (label i) l e in
      let s : 0 < group_size label m l = count_some (in_group label l) m i h t in
      let z : eqb (group_size label m l) 0 ≡ false = ne_eqb (group_size label m l) 0 (λ k. omega arith) in (
        H.0,
        H.1,
        rw (z, sum_if_nan (in_group label l) (λ j. x j H.0) m i h t H.2) (nan_mul (div binary64 one64 (counted (group_size label m l)))),
      )

  -- ---- the labels of one pass
  -- an item with a hole
  hole_label : (k : ℕ) (centroid : ℕ → ℕ → Float) (i : ℕ) → Hole (x i) m → (nearest_centroid x m k centroid i).at ≡ 0
  hole_label k centroid i H = ap (λ (b : Best). b.at) (nearest-none (λ l. squared (x i) (centroid l) m) k (λ l g. squared_nan (x i) (centroid l) m H))

  -- an item without one, and a centroid without one
  square_held : (a b : Float) → UpTo 1 a → Bounded 256 b → UpTo (257 * 257) (square_from b a)
  square_held a b h g = upto_square 257 (sub binary64 a b) (omega arith) (bounded_sub 1 256 a b (omega arith) (upto_bounded 1 a h) g)

  whole_below : (i : ℕ) (a : ℕ → Float) → Whole (x i) m → Held a → Whole a m → lt (squared (x i) a m) (inf false) ≡ true
  whole_below i a W B U =
      below_inf (257 * 257 * m) (squared (x i) a m)
      (upto_bounded (257 * 257 * m) (squared (x i) a m)
      (sum_in UpTo adds_upto (λ c. square_from (a c) (x i c)) (257 * 257) m (omega arith)
      (λ c g. square_held (x i c) (a c) (number_of (UpTo 1) (x i c) (D i c) (W c g)) (number_of (Bounded 256) (a c) (B c) (U c g)))))

  -- every label is 0, or label 0 is exactly the items with a hole
  abbrev pub Split : (ℕ → ℕ) → Type 0
  Split label = ((i : ℕ) → i < m → label i ≡ 0) ⊎ ((i : ℕ) → i < m → (Hole (x i) m × (label i ≡ 0)) ⊎ (Whole (x i) m × (label i ≡ 0 → ⊥)))

  split_same : (f g : ℕ → ℕ) → ((i : ℕ) → i < m → f i ≡ g i) → Split g → Split f
  split_same f g e (inl h) = inl (λ i l. e i l ∙ h i l)
  split_same f g e (inr h) = inr (λ i l. ⊎_elim
      (λ (p : Hole (x i) m × (g i ≡ 0)). inl (p.0, e i l ∙ p.1))
      (λ (p : Whole (x i) m × (g i ≡ 0 → ⊥)). inr (p.0, λ z. p.1 (sym (e i l) ∙ z)))
      (h i l))

  label_at : (k : ℕ) (centroid : ℕ → ℕ → Float) (i : ℕ) → i < m → numbers (labels_of x m k centroid) i ≡ (nearest_centroid x m k centroid i).at
  label_at k centroid i h = get_d_listed (λ j. (nearest_centroid x m k centroid j).at) m i 0 h

  pass_split : (k : ℕ) (centroid : ℕ → ℕ → Float) → Hole (centroid 0) m → ((l : ℕ) → Held (centroid l)) → Split (numbers (labels_of x m k centroid))
  pass_split k centroid H B = split_same (numbers (labels_of x m k centroid)) (λ i. (nearest_centroid x m k centroid i).at) (label_at k centroid)
      (⊎_elim
      (λ (s : (l : ℕ) × (l < k) × Whole (centroid l) m). inr (λ i h. ⊎_elim
      (λ (I : Hole (x i) m). inl (I, hole_label k centroid i I))
      (λ (W : Whole (x i) m). inr (
        W,
        other i (nearest_later (λ l. squared (x i) (centroid l) m) k (squared_nan' (x i) (centroid 0) m H))
            (nearest_some (λ l. squared (x i) (centroid l) m) k s.0 s.1 (whole_below i (centroid s.0) W (B s.0) s.2)),
      ))
      (hole_or_whole (x i) m)))
      (λ (G : (l : ℕ) → l < k → Hole (centroid l) m). inl (λ i h. ap (λ (b : Best). b.at) (nearest-none (λ l. squared (x i) (centroid l) m) k (λ l g. squared_nan' (x i) (centroid l) m (G l g)))))
      (somewhere (λ l. Whole (centroid l) m) (λ l. Hole (centroid l) m) (λ l. ⊎_elim (λ h. inr h) (λ w. inl w) (hole_or_whole (centroid l) m)) k))
    where
      other : (i : ℕ) → (nearest_centroid x m k centroid i ≡ none) ⊎ ((nearest_centroid x m k centroid i).at ≡ 0 → ⊥) → (nearest_centroid x m k centroid i ≡ none → ⊥) → (nearest_centroid x m k centroid i).at ≡ 0 → ⊥
      other i (inl e) n = absurd (n e)
      other i (inr h) n = h

  -- ---- the passes, where item i has a hole
  module _ (k : ℕ) (some : 0 < k) (centre : ℕ → ℕ) (i : ℕ) (within : i < m) (H : Hole (x i) m) where
    first_label : (t : ℕ) → numbers (labels_at x m k centre (suc t)) i ≡ 0
    unfolding labels_at
    first_label t = label_at k (centroids_at x m k centre t) i within ∙ hole_label k (centroids_at x m k centre t) i H

    later_split : (t : ℕ) → Split (numbers (labels_at x m k centre (suc (suc t))))
    unfolding labels_at centroids_at
    later_split t =
        pass_split k (centroids_at x m k centre (suc t))
        (moved_hole (numbers (labels_of x m k (centroids_at x m k centre t))) (cells (dists_of x m k (centroids_at x m k centre t))) 0 i within (first_label t) H)
        (moved_held (numbers (labels_of x m k (centroids_at x m k centre t))) (cells (dists_of x m k (centroids_at x m k centre t))))

    pub lloyd_split : Split (numbers (lloyd_labels x m k centre))
    lloyd_split = go (passes x m k centre) refl
      where
        holds : (t : ℕ) → passes x m k centre ≡ t → t < 300 → converges_at x m k centre t ≡ true
        holds t e h = subst (λ (z : ℕ). converges_at x m k centre z ≡ true) e (first_holds (converges_at x m k centre) 300 (subst (λ (z : ℕ). z < 300) (sym e) h))

        go : (t : ℕ) → passes x m k centre ≡ t → Split (numbers (labels_at x m k centre t))
        go zero e = let p : 0 < m = omega arith in absurd (omega (arith, some_passes x m k centre p some, e))
        go (suc zero) e =
            split_same (numbers (labels_at x m k centre 1)) (numbers (labels_at x m k centre 2))
            (λ j h. eqb-true (numbers (labels_at x m k centre 1) j) (numbers (labels_at x m k centre 2) j)
            (all_true (λ c. eqb (numbers (labels_at x m k centre 1) c) (numbers (labels_at x m k centre 2) c)) m (holds 1 e (omega arith)) j h))
            (later_split 0)
        go (suc (suc t)) e = later_split t
