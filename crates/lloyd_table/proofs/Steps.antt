-- The step of one group, by what becomes of its row of the table, and the rows of the first centroids.
use Prim.Native.Nat.{◌*◌, ◌+◌, ◌<◌, ℕ}
use mathlib.Core.Path.{◌∙◌, ◌≡◌, ap, refl, sym}
use mathlib.Core.Logic.{by_cases}
use mathlib.Core.Bool.{true}
use mathlib.Core.List.{List}
use native.Mathlib.Omega.{arith}
use native.Mathlib.Decide.{ℕ_discrete}
use lib.ListN.{get_or, length, set, take}
use lib.Ieee.{Float, binary64, fits, inf, nan}
use lib.Dec.{T}
use borrow.Author.Tests.{eq-eqb, ne_eqb}
use Rattle.lloyd_nearest.specs.Nearest.{farthest_of}
use Rattle.lloyd_members.specs.Members.{same_group}
use Rattle.lloyd_mean.specs.Groups.{distances, mean}
use Rattle.distance_columns.specs.Pair.{squared}
use Rattle.lists.specs.Lists.{cell_at, numbers}
use Rattle.lists.specs.Sums.{group_size, in_group}
use Rattle.distance_columns.specs.Columns.{points_at}
use Rattle.lloyd_mean.proofs.Single.{single_mean}
use Rattle.lists.proofs.Listed.{length-listed}
use Rattle.lloyd_table.specs.Area.{Held, Kept, Refreshed, table_row, with_row}
use Rattle.lloyd_table.proofs.Rows.{points_fit, points_kept, row_front, row_other, row_own}

module _ {area : List Float} {m : ℕ} (held : Held area m) (labels : List ℕ) (l : ℕ) (within : l < m) {dists : List Float} where
  pub taken_step : {dists' area' : List Float} → group_size (numbers labels) m l ≡ 0 → dists' ≡ set dists (farthest_of dists) (inf true)
      → area' ≡ with_row area m l (distances (points_at area m) m (points_at area m (farthest_of dists))) → Refreshed (points_at area m) labels m l dists area dists' area'
  taken_step z d t =
      let r = distances (points_at area m) m (points_at area m (farthest_of dists)) in
      let n = length-listed (λ i. squared (points_at area m i) (points_at area m (farthest_of dists)) m) m in
      record {
        own = rw (eq-eqb (group_size (numbers labels) m l) 0 z) (row_own m l area r held.size within t n);
        others = row_other m l area r held.size within t n;
        front = row_front m l area r held.size within t n;
        dists_after = d ∙ rw (eq-eqb (group_size (numbers labels) m l) 0 z);
      }

  pub kept_step : (old : List ℕ) → (group_size (numbers labels) m l ≡ 0 → ⊥) → same_group old labels m l ≡ true → Kept (points_at area m) area old labels m l
      → Refreshed (points_at area m) labels m l dists area dists area
  kept_step old z s k =
      record {
        own = rw (ne_eqb (group_size (numbers labels) m l) 0 z) (k z s);
        others = λ j a. refl;
        front = refl;
        dists_after = rw (ne_eqb (group_size (numbers labels) m l) 0 z);
      }

  pub mean_step : {area' : List Float} → (group_size (numbers labels) m l ≡ 0 → ⊥)
      → area' ≡ with_row area m l (distances (points_at area m) m (mean (points_at area m) (numbers labels) m l)) → Refreshed (points_at area m) labels m l dists area dists area'
  mean_step z t =
      let r = distances (points_at area m) m (mean (points_at area m) (numbers labels) m l) in
      let n = length-listed (λ i. squared (points_at area m i) (mean (points_at area m) (numbers labels) m l) m) m in
      record {
        own = rw (ne_eqb (group_size (numbers labels) m l) 0 z) (row_own m l area r held.size within t n);
        others = row_other m l area r held.size within t n;
        front = row_front m l area r held.size within t n;
        dists_after = rw (ne_eqb (group_size (numbers labels) m l) 0 z);
      }

  pub single_step : {area' : List Float} (j : ℕ) → ((i : ℕ) → T (fits binary64 (get_or area i nan))) → group_size (numbers labels) m l ≡ 1 → j < m → in_group (numbers labels) l j ≡ true
      → area' ≡ with_row area m l (distances (points_at area m) m (points_at area m j)) → Refreshed (points_at area m) labels m l dists area dists area'
  single_step j g n h q t =
      mean_step (λ z. omega arith)
      (t ∙ ap (λ (r : List Float). with_row area m l r) (sym (single_mean (points_at area m) (numbers labels) m l j n h q (points_fit held g))))

-- what holds after the steps of the first centroids below l: the rows of the centres below l
pub record FirstRows (centres : List ℕ) (area₀ : List Float) (m l : ℕ) (area : List Float) : Type 0 where
  pub rows : (j : ℕ) → j < l → table_row area m j ≡ distances (points_at area₀ m) m (points_at area₀ m (numbers centres j))
  pub same : take (4 * (m * m)) area ≡ take (4 * (m * m)) area₀

pub first_rows_none : (centres : List ℕ) (area : List Float) (m : ℕ) → FirstRows centres area m 0 area
first_rows_none centres area m = record { rows = λ j h. absurd (omega arith); same = refl }

pub first_rows_more : {centres : List ℕ} {area₀ area : List Float} {m l : ℕ} → FirstRows centres area₀ m l area → length area ≡ 5 * (m * m) → l < m → {area' : List Float}
    → area' ≡ with_row area m l (distances (points_at area m) m (points_at area m (numbers centres l))) → FirstRows centres area₀ m (l + 1) area'
first_rows_more {centres} {area₀} {area} {m} {l} w s h {area'} e =
    let q : area' ≡ with_row area m l (distances (points_at area₀ m) m (points_at area₀ m (numbers centres l))) =
    e ∙ ap (λ (p : List Float). with_row area m l (distances (cell_at p m) m (cell_at p m (numbers centres l)))) (points_kept m area area₀ w.same) in
    let r = distances (points_at area₀ m) m (points_at area₀ m (numbers centres l)) in
    let n = length-listed (λ i. squared (points_at area₀ m i) (points_at area₀ m (numbers centres l)) m) m in
    record {
      rows = λ j b. by_cases (ℕ_discrete j l)
          (λ z. rw z (row_own m l area r s h q n))
          (λ z. row_other m l area r s h q n j z ∙ w.rows j (omega arith));
      same = row_front m l area r s h q n ∙ w.same;
    }
