-- For callers: the labels and the end depend on the columns below m of the items below m alone.
use Prim.Native.Nat.{◌<◌, suc, zero, ℕ}
use mathlib.Core.Path.{◌∙◌, ◌≡◌, ap, refl, sym}
use mathlib.Core.Bool.{Bool, cond, false, true}
use native.Mathlib.Omega.{arith}
use lib.Ieee.{Float, nan}
use Rattle.lloyd_pass.specs.Passes.{centroids_at, dists_of, labels_at, labels_of, lloyd_ended, lloyd_labels, moved, nearest_centroid, passes, converges_at, taken, takes_item}
use lib.Dec.{eqb, ltb}
use Rattle.lloyd_mean.specs.Groups.{mean}
use Rattle.distance_columns.specs.Pair.{squared}
use Rattle.lists.specs.Lists.{cells, numbers}
use Rattle.lists.specs.Sums.{group_size}
use Rattle.lloyd_nearest.proofs.Steps.{farthest_below, nearest-same}
use Rattle.lloyd_mean.proofs.Members.{mean_agree, squared_agree}
use Rattle.lists.proofs.Listed.{listed_same}
use Rattle.lloyd_pass.specs.declared.Ended.TheVariants.{PassLimit, Converged}
use Rattle.lists.proofs.First.{first-same}

cond_same : (b : Bool) (u v y z : Float) → u ≡ y → v ≡ z → cond b u v ≡ cond b y z
cond_same true u v y z e f = e
cond_same false u v y z e f = f

cond_at : (b : Bool) (f g : ℕ → Float) (c : ℕ) → cond b f g c ≡ cond b (f c) (g c)
cond_at true f g c = refl
cond_at false f g c = refl

module _ (x y : ℕ → ℕ → Float) (m k : ℕ) (centre : ℕ → ℕ) (agree : (i c : ℕ) → i < m → c < m → x i c ≡ y i c) (items : (l : ℕ) → l < k → centre l < m) where
  -- centroids that agree give the same nearest
  module _ (f g : ℕ → ℕ → Float) (e : (l c : ℕ) → l < k → c < m → f l c ≡ g l c) where
    near : (i : ℕ) → i < m → nearest_centroid x m k f i ≡ nearest_centroid y m k g i
    near i h =
        nearest-same (λ l. squared (x i) (f l) m) (λ l. squared (y i) (g l) m) k
        (λ l q. squared_agree (x i) (y i) (f l) (g l) m (λ c b. agree i c h b) (λ c b. e l c q b))

    labels_of_lem : labels_of x m k f ≡ labels_of y m k g
    labels_of_lem = listed_same 0 (λ i. (nearest_centroid x m k f i).at) (λ i. (nearest_centroid y m k g i).at) m (λ i h. ap (λ b. b.at) (near i h))

    dists_of_lem : dists_of x m k f ≡ dists_of y m k g
    dists_of_lem = listed_same nan (λ i. (nearest_centroid x m k f i).value) (λ i. (nearest_centroid y m k g i).value) m (λ i h. ap (λ b. b.value) (near i h))

  -- the next centroids
  moved_same : (label : ℕ → ℕ) (dist : ℕ → Float) (l c : ℕ) → c < m → moved x label dist m l c ≡ moved y label dist m l c
  moved_same label dist l c h =
      cond_at (eqb (group_size label m l) 0) (x (takes_item label dist m l)) (mean x label m l) c
      ∙ cond_same (eqb (group_size label m l) 0) (x (takes_item label dist m l) c) (mean x label m l c) (y (takes_item label dist m l) c) (mean y label m l c)
      (agree (takes_item label dist m l) c (farthest_below (taken label dist m l) dist m m (omega arith) (omega arith)) h)
      (mean_agree x y label m l c (λ i q. agree i c q h))
      ∙ sym (cond_at (eqb (group_size label m l) 0) (y (takes_item label dist m l)) (mean y label m l) c)

  centroids_same : (t l c : ℕ) → l < k → c < m → centroids_at x m k centre t l c ≡ centroids_at y m k centre t l c
  unfolding centroids_at
  centroids_same zero l c h q = agree (centre l) c (items l h) q
  centroids_same (suc t) l c h q =
      rw (labels_of_lem (centroids_at x m k centre t) (centroids_at y m k centre t) (centroids_same t), dists_of_lem (centroids_at x m k centre t) (centroids_at y m k centre t) (centroids_same t))
      (moved_same (numbers (labels_of y m k (centroids_at y m k centre t))) (cells (dists_of y m k (centroids_at y m k centre t))) l c q)

  labels_same : (t : ℕ) → labels_at x m k centre t ≡ labels_at y m k centre t
  unfolding labels_at
  labels_same zero = refl
  labels_same (suc t) = labels_of_lem (centroids_at x m k centre t) (centroids_at y m k centre t) (centroids_same t)

  passes_same : passes x m k centre ≡ passes y m k centre
  passes_same = first-same (converges_at x m k centre) (converges_at y m k centre) 300 (λ t l. rw (labels_same t, labels_same (suc t)))

  pub lloyd_same : (lloyd_labels x m k centre ≡ lloyd_labels y m k centre) × (lloyd_ended x m k centre ≡ lloyd_ended y m k centre)
  lloyd_same = (labels_same (passes x m k centre) ∙ ap (labels_at y m k centre) passes_same, ap (λ p. cond (ltb p 300) Converged PassLimit) passes_same)
