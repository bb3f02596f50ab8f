-- From one pass to the next: what the labels and the table hold after t passes.
use Prim.Native.Nat.{◌*◌, ◌+◌, ◌<◌, suc, zero, ℕ}
use mathlib.Core.Path.{◌∙◌, ◌≡◌, ap, subst, sym}
use mathlib.Core.Bool.{Bool, false, true}
use mathlib.Core.List.{List}
use native.Mathlib.Omega.{arith}
use native.Mathlib.Numerals.{add-one}
use lib.ListN.{length, replicate, take}
use lib.Ieee.{Float, nan}
use Rattle.lloyd_pass.specs.Passes.{centroids_at, dists_of, labels_at, labels_of, moved, nearest_centroid, converges_at}
use borrow.Author.Tests.{lt-ltb, ne_eqb}
use Rattle.lloyd_nearest.specs.Nearest.{nearest_to, same_labels}
use Rattle.lloyd_mean.specs.Groups.{distances, mean}
use Rattle.distance_columns.specs.Pair.{squared}
use Rattle.lists.specs.Lists.{cell_at, cells, first_to, listed, numbers}
use Rattle.lists.specs.Sums.{group_size, in_group}
use Rattle.distance_columns.specs.Columns.{points_at}
use Rattle.lloyd_nearest.proofs.Steps.{nearest-same}
use Rattle.lloyd_mean.proofs.Members.{distances_agree, mean_same, size_same}
use Rattle.lists.proofs.First.{first_found, first_more}
use Rattle.lists.proofs.Sums.{fold_none}
use Rattle.lists.proofs.Listed.{get_d_listed, listed_const, listed_same}
use Rattle.lloyd_table.specs.Area.{Kept, Table, table_row}
use Rattle.lloyd.specs.Result.{After, LloydResult}
use Rattle.lloyd_table.proofs.Rows.{points_kept}
use Rattle.lloyd_pass.specs.declared.Ended.{Ended}
use Rattle.lloyd_pass.specs.declared.Ended.TheVariants.{PassLimit, Converged}

-- the nearest by the table are the nearest by the centroids
module _ (x : ℕ → ℕ → Float) (area : List Float) (m k : ℕ) (centroid : ℕ → ℕ → Float) (w : Table area m k x centroid) where
  near : (i : ℕ) → i < m → nearest_to (λ l. cells (table_row area m l) i) k ≡ nearest_centroid x m k centroid i
  near i h =
      nearest-same (λ l. cells (table_row area m l) i) (λ l. squared (x i) (centroid l) m) k
      (λ l q. ap (λ z. cells z i) (w l q) ∙ get_d_listed (λ j. squared (x j) (centroid l) m) m i nan h)

  near_labels : {fresh : List ℕ} → fresh ≡ listed (λ i. (nearest_to (λ l. cells (table_row area m l) i) k).at) m → fresh ≡ labels_of x m k centroid
  near_labels e =
      e ∙ listed_same 0 (λ i. (nearest_to (λ l. cells (table_row area m l) i) k).at) (λ i. (nearest_centroid x m k centroid i).at) m
      (λ i h. ap (λ b. b.at) (near i h))

  near_dists : {dists : List Float} → dists ≡ listed (λ i. (nearest_to (λ l. cells (table_row area m l) i) k).value) m → dists ≡ dists_of x m k centroid
  near_dists e =
      e ∙ listed_same nan (λ i. (nearest_to (λ l. cells (table_row area m l) i) k).value) (λ i. (nearest_centroid x m k centroid i).value) m
      (λ i h. ap (λ b. b.value) (near i h))

module _ (x : ℕ → ℕ → Float) (m : ℕ) (centres : List ℕ) where
  -- a row that is kept is right: before the first pass no group has a member, and after it a group with members has their mean
  pub kept_row : (t l : ℕ) (old labels : List ℕ) (area : List Float) → l < length centres → After x m centres t old area → Kept x area old labels m l
  unfolding labels_at centroids_at
  kept_row zero l old labels area h w z s =
      absurd (z (sym (size_same old labels m l s) ∙ fold_none (in_group (numbers old) l) (λ n k. n + 1) 0 m (λ i q.
      rw (w.given, get_d_listed (λ i. length centres) m i 0 q) (ne_eqb (length centres) l (λ e. omega arith)))))
  kept_row (suc t) l old labels area h w z s =
      w.rows l h
      ∙ rw (← w.given, ne_eqb (group_size (numbers old) m l) 0 (λ e. z (sym (size_same old labels m l s) ∙ e)))
      (distances_agree x m (mean x (numbers old) m l) (mean x (numbers labels) m l) (λ c q. mean_same old labels m l s x c))

  pub after_none : {labels : List ℕ} {area : List Float} → labels ≡ replicate m (length centres) → ((l : ℕ) → l < length centres → table_row area m l ≡ distances x m (x (numbers centres l))) → After x m centres 0 labels area
  unfolding labels_at centroids_at
  after_none e r = record { given = e ∙ sym (listed_const (length centres) m); rows = r }

  abbrev centroids : ℕ → ℕ → ℕ → Float
  centroids = centroids_at x m (length centres) (numbers centres)

  abbrev converges : ℕ → Bool
  converges = converges_at x m (length centres) (numbers centres)

  module _ {t : ℕ} {labels : List ℕ} {area : List Float} (w : After x m centres t labels area) where
    pub after_labels : {fresh : List ℕ} → fresh ≡ listed (λ i. (nearest_to (λ l. cells (table_row area m l) i) (length centres)).at) m → fresh ≡ labels_of x m (length centres) (centroids t)
    after_labels e = near_labels x area m (length centres) (centroids t) w.rows e

    pub after_dists : {dists : List Float} → dists ≡ listed (λ i. (nearest_to (λ l. cells (table_row area m l) i) (length centres)).value) m → dists ≡ dists_of x m (length centres) (centroids t)
    after_dists e = near_dists x area m (length centres) (centroids t) w.rows e

  module _ (t : ℕ) {labels fresh : List ℕ} {area : List Float} (w : After x m centres t labels area) (e : fresh ≡ labels_of x m (length centres) (centroids t)) where
    same : converges t ≡ same_labels labels fresh m
    unfolding labels_at
    same = rw (w.given, e)

    pub has_converged : t < 300 → first_to converges t ≡ t → same_labels labels fresh m ≡ true → LloydResult x m centres Converged labels
    has_converged h f s =
        let p = first_found converges t 300 f (same ∙ s) h in
        record {
          answer = rw (← p, lt-ltb t 300 h);
          labelled = rw (← p) w.given;
        }

    pub go_on : first_to converges t ≡ t → same_labels labels fresh m ≡ false → first_to converges (t + 1) ≡ t + 1
    go_on f s = first_more converges t f (same ∙ s)

    pub after_more : {dists area' : List Float} {labels' : List ℕ} → dists ≡ dists_of x m (length centres) (centroids t) → Table area' m (length centres) x (moved x (numbers fresh) (cells dists) m) → labels' ≡ fresh
        → After x m centres (t + 1) labels' area'
    unfolding labels_at centroids_at
    after_more d r n =
        record {
          given = rw add-one (n ∙ e);
          rows = rw (add-one, ← e, ← d) r;
        }

  pub run_out : (t : ℕ) {labels : List ℕ} {area : List Float} → t ≡ 300 → first_to converges t ≡ t → After x m centres t labels area → LloydResult x m centres PassLimit labels
  run_out t q f w =
      let p : first_to converges 300 ≡ 300 = rw q at f in
      record {
        answer = rw p;
        labelled = rw (p, ← q) w.given;
      }

-- the same, of a list whose first area is as it was at the start
module _ (m : ℕ) (area₀ area : List Float) (e : take (4 * (m * m)) area ≡ take (4 * (m * m)) area₀) where
  pub kept_now : (centres : List ℕ) (t l : ℕ) (old labels : List ℕ) → l < length centres → After (points_at area₀ m) m centres t old area → Kept (points_at area m) area old labels m l
  kept_now centres t l old labels h w =
      subst (λ (p : List Float). Kept (cell_at p m) area old labels m l) (sym (points_kept m area area₀ e)) (kept_row (points_at area₀ m) m centres t l old labels area h w)

  pub table_now : (area' : List Float) (k : ℕ) (label : ℕ → ℕ) (dist : ℕ → Float) → Table area' m k (points_at area m) (moved (points_at area m) label dist m)
      → Table area' m k (points_at area₀ m) (moved (points_at area₀ m) label dist m)
  table_now area' k label dist t = subst (λ (p : List Float). Table area' m k (cell_at p m) (moved (cell_at p m) label dist m)) (points_kept m area area₀ e) t

  pub after_now : (centres labels : List ℕ) → After (points_at area₀ m) m centres 0 labels area → After (points_at area m) m centres 0 labels area
  after_now centres labels w = subst (λ (p : List Float). After (cell_at p m) m centres 0 labels area) (sym (points_kept m area area₀ e)) w

  pub clustered_now : {centres labels : List ℕ} {r : Ended} → LloydResult (points_at area m) m centres r labels → LloydResult (points_at area₀ m) m centres r labels
  clustered_now {centres} {labels} {r} w = subst (λ (p : List Float). LloydResult (cell_at p m) m centres r labels) (points_kept m area area₀ e) w
