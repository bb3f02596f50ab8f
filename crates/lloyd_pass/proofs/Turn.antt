-- The steps that make the table of the next centroids: one group, and then the next.
use Prim.Native.Nat.{◌*◌, ◌+◌, ◌<◌, ◌≤◌, ℕ}
use mathlib.Core.Path.{◌∙◌, ◌≡◌, ap, refl, subst, sym}
use mathlib.Core.Logic.{by_cases}
use mathlib.Core.Bool.{Bool, ◌&&◌, ◌||◌, cond, false, true}
use mathlib.Core.List.{List}
use native.Mathlib.Omega.{arith}
use native.Mathlib.Numerals.{add-one}
use native.Mathlib.Decide.{ℕ_discrete}
use lib.ListN.{length, set, take}
use lib.Ieee.{Float, inf, nan}
use lib.Dec.{eqb}
use borrow.Author.Tests.{eq-eqb, ne_eqb}
use Rattle.lloyd_nearest.specs.Nearest.{farthest_of, farthest_to}
use Rattle.lloyd_mean.specs.Groups.{distances}
use Rattle.lists.specs.Lists.{cell_at, cells, listed, numbers}
use Rattle.lists.specs.Sums.{group_size}
use Rattle.distance_columns.specs.Columns.{points_at}
use Rattle.lloyd_nearest.proofs.Steps.{farthest_below, farthest_left, farthest_same, untaken}
use Rattle.lists.proofs.Listed.{get_d_listed, listed_length, listed_of, listed_same, listed_set}
use Rattle.lists.proofs.Tests.{or-false, or-true}
use Rattle.lloyd_table.specs.Area.{Kept, Refreshed, table_row}
use Rattle.lloyd_table.proofs.Rows.{points_kept}
use Rattle.lloyd_pass.specs.Passes.{moved, taken, takes_item}

-- the items that the empty groups below l have taken are left out
left_one : (t : ℕ → Bool) (d : ℕ → Float) (b : Bool) (far m : ℕ) {ds : List Float} → far < m → ds ≡ listed (untaken t d) m
    → cond b (set ds far (inf true)) ds ≡ listed (untaken (λ i. t i || (b && eqb far i)) d) m
left_one t d false far m h e = e ∙ listed_same nan (untaken t d) (untaken (λ i. t i || (false && eqb far i)) d) m (λ i q. rw (or-false (t i)))
left_one t d true far m h e =
    rw e
    (listed_set nan (untaken t d) (untaken (λ i. t i || (true && eqb far i)) d) m far (inf true) h
    (rw (eq-eqb far far refl, or-true (t far)))
    (λ k q n. rw (ne_eqb far k (λ r. n (sym r)), or-false (t k))))

-- what holds after the steps of the groups below l: area₀ and dists₀ are the lists before
pub record Midway (labels : List ℕ) (dists₀ area₀ : List Float) (m l : ℕ) (dists area : List Float) : Type 0 where
  pub remaining : dists ≡ listed (untaken (taken (numbers labels) (cells dists₀) m l) (cells dists₀)) m
  pub done : (j : ℕ) → j < l → table_row area m j ≡ distances (points_at area₀ m) m (moved (points_at area₀ m) (numbers labels) (cells dists₀) m j)
  pub later : (j : ℕ) → l ≤ j → table_row area m j ≡ table_row area₀ m j
  pub same : take (4 * (m * m)) area ≡ take (4 * (m * m)) area₀

pub midway_none : (labels : List ℕ) (dists area : List Float) (m : ℕ) → length dists ≡ m → Midway labels dists area m 0 dists area
unfolding taken
midway_none labels dists area m e =
    record {
      remaining = listed_of nan (cells dists) m dists e (λ i h. refl);
      done = λ j h. absurd (omega arith);
      later = λ j a. refl;
      same = refl;
    }

module _ {labels : List ℕ} {dists₀ area₀ : List Float} {m l : ℕ} {dists area : List Float} (w : Midway labels dists₀ area₀ m l dists area) where
  -- a row that the steps have not come to may be kept as before
  pub kept_later : (old : List ℕ) → Kept (points_at area₀ m) area₀ old labels m l → Kept (points_at area m) area old labels m l
  kept_later old k =
      subst (λ (p : List Float). Kept (cell_at p m) area old labels m l) (sym (points_kept m area area₀ w.same))
      (λ z s. w.later l (omega arith) ∙ k z s)

  took : farthest_of dists ≡ takes_item (numbers labels) (cells dists₀) m l
  took =
      let u : ℕ → Float = untaken (taken (numbers labels) (cells dists₀) m l) (cells dists₀) in
      ap (λ n. (farthest_to (λ i. false) (cells dists) n).at) (listed_length u m w.remaining)
      ∙ ap (λ b. b.at)
      (farthest_same (λ i. false) (cells dists) u m (λ i h. ap (λ z. cells z i) w.remaining ∙ get_d_listed u m i nan h)
      ∙ farthest_left (taken (numbers labels) (cells dists₀) m l) (cells dists₀) m)

  remains : {dists' : List Float} → 0 < m → dists' ≡ cond (eqb (group_size (numbers labels) m l) 0) (set dists (farthest_of dists) (inf true)) dists
      → dists' ≡ listed (untaken (taken (numbers labels) (cells dists₀) m (l + 1)) (cells dists₀)) m
  unfolding taken
  remains s e =
      e ∙ rw (add-one, took)
      (left_one (taken (numbers labels) (cells dists₀) m l) (cells dists₀) (eqb (group_size (numbers labels) m l) 0) (takes_item (numbers labels) (cells dists₀) m l) m
      (farthest_below (taken (numbers labels) (cells dists₀) m l) (cells dists₀) m m (omega arith) s)
      w.remaining)

  pub midway_more : {dists' area' : List Float} → 0 < m → Refreshed (points_at area m) labels m l dists area dists' area' → Midway labels dists₀ area₀ m (l + 1) dists' area'
  midway_more {dists'} {area'} s r =
      let q : Refreshed (points_at area₀ m) labels m l dists area dists' area' =
      subst (λ (p : List Float). Refreshed (cell_at p m) labels m l dists area dists' area') (points_kept m area area₀ w.same) r in
      record {
        remaining = remains s q.dists_after;
        done = λ j h. by_cases (ℕ_discrete j l)
            (λ e. rw e (rw took at q.own))
            (λ e. q.others j e ∙ w.done j (omega arith));
        later = λ j a. q.others j (λ e. omega arith) ∙ w.later j (omega arith);
        same = q.front ∙ w.same;
      }
