-- `store_base`, `store_rows` and `find_weak`, in plain lists: from what their calls leave to what they ensure.
use Prim.Native.Nat.{ℕ, ◌+◌, ◌*◌, ◌<◌, ◌≤◌}
use mathlib.Core.Path.{◌≡◌, refl, sym, ◌∙◌, ap, subst}
use mathlib.Core.List.{List, ◌++◌, map}
use native.Mathlib.Omega.{arith}
use lib.ListN.{length, take, drop, length-map}
use lib.Seq.{take_at, drop_at}
use lib.Ieee.{Float}
use Rattle.lists.specs.Lists.{numbers, put}
use Rattle.lists.proofs.Parts.{put_length, put_take, put_part, put_drop, put_before, drop_behind}
use Rattle.partition.specs.Partition.{State, joined}
use Rattle.partition.specs.Orders.{Sized, cut}
use Rattle.partition.proofs.Cuts.{cut_order}
use Rattle.quality.specs.Quality.{qualities_of, weak}
use Rattle.quality.proofs.Splits.{picked_below, picked_fewer}
use Rattle.row_numbers.specs.Rows.{rows_of}
use Rattle.improve_merge.specs.Merging.{weak_items}
use Rattle.improve_merge.specs.Steps.{state_of, WeakListed}
use Rattle.round_lists.specs.Steps.{Room, Stored, StoresRows, RowsStored, WeakFound}

-- the base in its places; k and j are the lengths of the parts as the code has them
module _ (n : ℕ) (order sizes : List ℕ) (scores : List Float) (wi : List ℕ) (wf : List Float) (R : Room n (length order) wi wf) (same : length sizes ≡ length order)
    (same_scores : length scores ≡ length order) where
  first : n + length order ≤ length wi
  first = omega (arith, R.items, R.room)

  first-kept : length (put n (length order) wi order) ≡ length wi
  first-kept = put_length n (length order) wi order first refl

  second : 2 * n + length order ≤ length (put n (length order) wi order)
  second = omega (arith, R.items, R.room, first-kept)

  plain : Stored n order sizes scores wi (put (2 * n) (length order) (put n (length order) wi order) sizes) wf (scores ++ drop (length order) wf)
  plain =
      let m = length order in
      let wi₁ = put n m wi order in
      record {
        rows-kept = put_take (2 * n) m wi₁ sizes second same n (omega arith) ∙ put_take n m wi order first refl n (omega arith);
        order_at = put_before (2 * n) m wi₁ sizes second same n m (omega (arith, R.items)) ∙ put_part n m wi order first refl;
        sizes_at = put_part (2 * n) m wi₁ sizes second same;
        scores_at = take_at scores (drop m wf) m same_scores;
        behind = put_drop (2 * n) m wi₁ sizes second same (3 * n) (omega (arith, R.items)) ∙ put_drop n m wi order first refl (3 * n) (omega (arith, R.items));
        beyond = drop_behind m n (scores ++ drop m wf) wf R.items (drop_at scores (drop m wf) m same_scores);
      }

  pub stored_law : (k j : ℕ) {o s : List ℕ} {q : List Float} → k ≡ length order → j ≡ length order → o ≡ order → s ≡ sizes → q ≡ scores
      → Stored n order sizes scores wi (put (2 * n) j (put n k wi o) s) wf (q ++ drop (length order) wf)
  stored_law k j ek ej eo es eq = rw (ek, ej, eo, es, eq) plain

-- the rows of items, behind the base
module _ (n m : ℕ) (items wi : List ℕ) (M : StoresRows n m items wi) where
  room : 3 * n + length items ≤ length wi
  room = omega (arith, M.fewer, M.room)

  long : length (rows_of (take m wi) items) ≡ length items
  long = length-map items (numbers (take m wi))

  placed : RowsStored n m items wi (put (3 * n) (length items) wi (rows_of (take m wi) items))
  placed =
      let rows = rows_of (take m wi) items in
      record {
        rows_at = put_part (3 * n) (length items) wi rows room long;
        front = put_take (3 * n) (length items) wi rows room long (3 * n) (omega arith);
        behind = put_drop (3 * n) (length items) wi rows room long (4 * n) (omega (arith, M.fewer));
      }

  pub placed_law : (k : ℕ) {r rows : List ℕ} → k ≡ length items → r ≡ rows → rows ≡ map (numbers (take m wi)) items → RowsStored n m items wi (put (3 * n) k wi r)
  placed_law k ek er e = rw (ek, er, e) placed

-- the weak items of groups that fill an order are no more than its items, and each is one of them
module _ (m count : ℕ) (order sizes : List ℕ) (scores : List Float) (S : Sized m count order sizes) where
  whole : joined (cut count sizes order) ≡ order
  whole = cut_order count sizes order (S.total ∙ sym S.items)

  pub sized_few : length (weak_items (state_of count sizes order scores)) ≤ m
  unfolding weak_items
  sized_few =
      let gs = cut count sizes order in
      omega (arith, ap length whole, S.items, picked_fewer (weak (qualities_of scores gs)) gs)

  pub sized_below : (j : ℕ) → j < length (weak_items (state_of count sizes order scores)) → numbers (weak_items (state_of count sizes order scores)) j < m
  unfolding weak_items
  sized_below =
      let gs = cut count sizes order in
      picked_below m (weak (qualities_of scores gs)) gs
      (λ i h. let l : i < m = omega (arith, h, ap length whole, S.items) in rw whole (S.below i l))

-- the weak items at the front of the list that they were put in
module _ (s : State) (g w : ℕ) (mean : Float) (list list' : List ℕ) (W : WeakListed s g w mean list list') where
  pub front_items : take w list' ≡ weak_items s
  front_items = ap (take w) W.listed_are ∙ take_at (weak_items s) (drop (length (weak_items s)) list) w (sym W.items_are)

  pub marked_law : (n m : ℕ) (wi wi' : List ℕ) → RowsStored n m (take w list') wi wi' → WeakFound n m s g w wi wi'
  marked_law n m wi wi' P =
      let Q : RowsStored n m (weak_items s) wi wi' = subst (λ (l : List ℕ). RowsStored n m l wi wi') front_items P in
      record { groups_are = W.groups_are; items_are = W.items_are; rows_at = Q.rows_at; front = Q.front; behind = Q.behind }

  pub marking : (n m : ℕ) (wi : List ℕ) → m ≤ n → n ≤ 256 → length (weak_items s) ≤ m → ((j : ℕ) → j < length (weak_items s) → numbers (weak_items s) j < m) → 4 * n ≤ length wi
      → StoresRows n m (take w list') wi
  marking n m wi within few fewer below room =
      rw front_items (record { within = within; few = few; fewer = omega (arith, fewer, within); below = below; room = room })
