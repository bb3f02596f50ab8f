-- The picked groups while a loop over the groups copies them.
use Prim.Native.Nat.{ℕ, ◌+◌, ◌<◌, ◌≤◌}
use mathlib.Core.Path.{◌≡◌, refl, sym, ◌∙◌, ap}
use mathlib.Core.Bool.{Bool, true, false}
use mathlib.Core.List.{List, [], ◌∷◌, ◌++◌, append_assoc}
use native.Mathlib.Omega.{arith}
use lib.ListN.{length, drop, set, replicate, length-append, length-drop}
use lib.Seq.{take_at, drop_at, drop-drop}
use Rattle.lists.specs.Lists.{numbers, put}
use Rattle.lists.specs.Sums.{fold_if}
use Rattle.lists.proofs.Sums.{fold_in, fold_out}
use Rattle.lists.proofs.Listed.{listed_length}
use Rattle.lists.proofs.Parts.{part_length}
use Rattle.partition.specs.Partition.{joined, group_at}
use Rattle.partition.specs.Orders.{total_to, sizes_of, cut, Sized}
use Rattle.partition.proofs.Collected.{collect, collect_few}
use Rattle.partition.proofs.Totals.{total_same}
use Rattle.partition.proofs.Members.{joined_one, joined-none}
use Rattle.partition.proofs.Cuts.{cut_at, sizes-none, sizes_one, sized_end}
use Rattle.quality.specs.Quality.{picked}
use Rattle.quality.proofs.Splits.{collected_fewer}

-- of the first n groups those with p g are copied over the front of `old`
pub record Picking (p : ℕ → Bool) (gs : List (List ℕ)) (n items count : ℕ) (old out sizes : List ℕ) : Type 0 where
  pub ends : items ≡ length (joined (collect p (group_at gs) n))
  pub counts : count ≡ length (collect p (group_at gs) n)
  pub front : out ≡ joined (collect p (group_at gs) n) ++ drop (length (joined (collect p (group_at gs) n))) old
  pub sized : sizes ≡ sizes_of (length old) (collect p (group_at gs) n)
  pub long : length out ≡ length old

pub picking_none : (p : ℕ → Bool) (gs : List (List ℕ)) (old sizes : List ℕ) → sizes ≡ replicate (length old) 0 → Picking p gs 0 0 0 old old sizes
unfolding fold_if
picking_none p gs old sizes e = record {
  ends = rw joined-none;
  counts = refl;
  front = rw joined-none;
  sized = sizes-none (length old) e;
  long = refl;
}

module _ (p : ℕ → Bool) (gs : List (List ℕ)) (n items count : ℕ) (old out sizes : List ℕ) (s : Picking p gs n items count old out sizes) where
  pub picking_room : length sizes ≡ length old
  picking_room = listed_length _ _ s.sized

  pub picking_few : count ≤ n
  picking_few = omega (arith, s.counts, collect_few p (group_at gs) n)

  -- a group that is not picked
  pub picking_same : p n ≡ false → Picking p gs (n + 1) items count old out sizes
  picking_same t =
      let same : collect p (group_at gs) (n + 1) ≡ collect p (group_at gs) n = fold_out p (λ xs k. xs ++ (group_at gs k ∷ [])) [] n t in
      record { ends = rw same s.ends; counts = rw same s.counts; front = rw same s.front; sized = rw same s.sized; long = s.long }

  -- a group that is picked: its members are put behind, and its size is stored
  pub picking_more : (to k v : ℕ) (xs : List ℕ) → p n ≡ true → xs ≡ group_at gs n → v ≡ length xs → k ≡ length xs → to ≡ items + length xs
      → items + length xs ≤ length old → count < length old → Picking p gs (n + 1) to (count + 1) old (put items k out xs) (set sizes count v)
  picking_more to k v xs t own size room end fits place =
      let before = collect p (group_at gs) n in
      let j = joined before in
      let more : collect p (group_at gs) (n + 1) ≡ before ++ (xs ∷ []) =
      fold_in p (λ l g. l ++ (group_at gs g ∷ [])) [] n t ∙ ap (λ x. before ++ (x ∷ [])) (sym own) in
      let items_more : joined (collect p (group_at gs) (n + 1)) ≡ j ++ xs = ap joined more ∙ joined_one before xs in
      let longer : length (j ++ xs) ≡ length j + length xs = length-append j xs in
      let few : length before < length old = omega (arith, s.counts) in
      let copied : put (length j) (length xs) (j ++ drop (length j) old) xs ≡ (j ++ xs) ++ drop (length (j ++ xs)) old =
      rw (take_at j (drop (length j) old) (length j) refl, drop_at j (drop (length j) old) (length j) refl, drop-drop (length xs) (length j) old, longer)
      (sym (append_assoc j xs (drop (length j + length xs) old))) in
      let now-front : put items k out xs ≡ (j ++ xs) ++ drop (length (j ++ xs)) old = rw (s.front, s.ends, room) copied in
      record {
        ends = rw (items_more, longer) (omega (arith, s.ends));
        counts = rw more (omega (arith, s.counts, length-append before (xs ∷ [])));
        front = rw items_more now-front;
        sized = rw (more, s.sized, s.counts) (sizes_one (length old) before xs v few size);
        long = ap length now-front ∙ length-append (j ++ xs) (drop (length (j ++ xs)) old) ∙ omega (arith, length-drop (length (j ++ xs)) old, longer, s.ends);
      }

-- all groups are done
pub picking_all : (p : ℕ → Bool) (gs : List (List ℕ)) (n items count : ℕ) (old out sizes : List ℕ) → Picking p gs n items count old out sizes → n ≡ length gs
    → ((count ≡ length (picked p gs)) × (items ≡ length (joined (picked p gs))))
    × ((out ≡ joined (picked p gs) ++ drop (length (joined (picked p gs))) old) × (sizes ≡ sizes_of (length old) (picked p gs)))
unfolding picked
picking_all p gs n items count old out sizes s e =
    let t : Picking p gs (length gs) items count old out sizes = rw e at s in
    ((t.counts, t.ends), (t.front, t.sized))

-- A sized order: how many members a group has, and that those of picked groups fit.
module _ {m count : ℕ} {order sizes : List ℕ} (s : Sized m count order sizes) where
  pub cut_size : (g : ℕ) → g < count → length (group_at (cut count sizes order) g) ≡ numbers sizes g
  cut_size g l =
      ap length (cut_at count sizes order g l)
      ∙ part_length (total_to (numbers sizes) g) (numbers sizes g) order (omega (arith, sized_end s g l, s.items))

  pub picked_ahead : (p : ℕ → Bool) (n : ℕ) → n ≤ count → length (joined (collect p (group_at (cut count sizes order)) n)) ≤ total_to (numbers sizes) n
  picked_ahead p n h =
      omega (
        arith,
        collected_fewer p (group_at (cut count sizes order)) n,
        total_same (λ g. length (group_at (cut count sizes order) g)) (numbers sizes) n (λ g l. cut_size g (omega arith)),
      )
