-- From what the calls leave to what the functions promise: the weak groups and the merged ones.
use Prim.Native.Nat.{ℕ, zero, suc, ◌+◌, ◌-◌, ◌<◌, ◌≤◌}
use mathlib.Core.Path.{◌≡◌, refl, sym, ◌∙◌, ap, subst}
use mathlib.Core.Bool.{true, false, not}
use mathlib.Core.List.{List, [], ◌∷◌, ◌++◌, map, append-nil}
use native.Mathlib.Omega.{arith}
use lib.ListN.{length, take, drop, length-append, length-drop, length-map}
use mathlib.Core.Logic.{by_cases}
use native.Mathlib.Decide.{dec_lt}
use lib.Seq.{get_or-take, drop-drop, take_at, drop-length, length-take-le}
use lib.Ieee.{Float}
use Rattle.lists.specs.Lists.{numbers, put}
use Rattle.lists.proofs.Listed.{length-listed, get_d_listed, listed_of}
use Rattle.lists.proofs.Parts.{get_d_front, get_d_behind, get_d_part, put_take, put_part, put_drop, put_length}
use Rattle.partition.specs.Partition.{Partition, State, joined, group_at}
use Rattle.partition.specs.Orders.{sizes_of, cut}
use Rattle.quality.specs.Quality.{qualities_of, average, weak, weak_count, weak_mean, picked, on_side, weak_groups, kept_groups}
use Rattle.improve_merge.specs.Merging.{weak_items, translated, merged_of}
use Rattle.improve_merge.specs.Steps.{state_of, WeakListed, Kept, Behind, Appended, PartitionLists, Improvable, Merged}
use Rattle.partition.proofs.Members.{joined_append}
use Rattle.partition.proofs.Cuts.{cut-length, cut_order, cut_joined, sized_of, partition_length, groups_few}
use Rattle.partition.proofs.Moved.{joined_map}
use Rattle.quality_pick.proofs.Picking.{cut_size}
use Rattle.quality.proofs.Splits.{picked_same, side_weak, side_kept}
use Rattle.improve_merge.proofs.Merged.{merged_partition}

-- what is picked by the t-stats and their average
module _ (count : ℕ) (sizes order : List ℕ) (scores : List Float) {qs : List Float} {limit : Float} (e : qs ≡ qualities_of scores (cut count sizes order)) (a : limit ≡ average qs) (l : length qs ≡ count) where
  abbrev gs : List (List ℕ)
  gs = cut count sizes order

  weak_side : picked (on_side qs limit true) (cut (length qs) sizes order) ≡ weak_groups scores gs
  weak_side =
      rw (l, a) (picked_same (on_side qs (average qs) true) (weak qs) gs (λ g h. side_weak qs g)) ∙ ap (λ (x : List Float). picked (weak x) gs) e

  kept_side : picked (on_side qs limit false) (cut (length qs) sizes order) ≡ kept_groups scores gs
  kept_side =
      rw (l, a) (picked_same (on_side qs (average qs) false) (λ g. not (weak qs g)) gs (λ g h. side_kept qs g)) ∙ ap (λ (x : List Float). picked (λ g. not (weak x g)) gs) e

  pub weakened : {groups items : ℕ} {mean : Float} {list list' : List ℕ} → groups ≡ weak_count qs → mean ≡ weak_mean qs
      → items ≡ length (joined (picked (on_side qs limit true) (cut (length qs) sizes order)))
      → list' ≡ joined (picked (on_side qs limit true) (cut (length qs) sizes order)) ++ drop (length (joined (picked (on_side qs limit true) (cut (length qs) sizes order)))) list
      → WeakListed (state_of count sizes order scores) groups items mean list list'
  unfolding weak_items
  weakened {groups} {items} {mean} {list} {list'} g m i f =
      record {
        groups_are = g ∙ ap weak_count e;
        items_are = i ∙ ap (λ (x : List (List ℕ)). length (joined x)) weak_side;
        mean_is = m ∙ ap weak_mean e;
        listed_are = f ∙ ap (λ (x : List (List ℕ)). joined x ++ drop (length (joined x)) list) weak_side;
      }

  pub was_kept : {groups items : ℕ} {out out' counts' : List ℕ} → groups ≡ length (picked (on_side qs limit false) (cut (length qs) sizes order))
      → items ≡ length (joined (picked (on_side qs limit false) (cut (length qs) sizes order)))
      → out' ≡ joined (picked (on_side qs limit false) (cut (length qs) sizes order)) ++ drop (length (joined (picked (on_side qs limit false) (cut (length qs) sizes order)))) out
      → counts' ≡ sizes_of (length out) (picked (on_side qs limit false) (cut (length qs) sizes order))
      → Kept (kept_groups scores gs) groups items out out' counts'
  was_kept {groups} {items} {out} {out'} {counts'} g i f c =
      record {
        groups_are = g ∙ ap length kept_side;
        items_are = i ∙ ap (λ (x : List (List ℕ)). length (joined x)) kept_side;
        front = f ∙ ap (λ (x : List (List ℕ)). joined x ++ drop (length (joined x)) out) kept_side;
        sized = c ∙ ap (sizes_of (length out)) kept_side;
      }

-- group g of a ++ b, at either side
at_front : (a b : List (List ℕ)) (g : ℕ) → g < length a → group_at (a ++ b) g ≡ group_at a g
at_front [] b g h = absurd (omega (arith, h))
at_front (x ∷ a) b zero h = refl
at_front (x ∷ a) b (suc g) h = at_front a b g (omega (arith, h))

at_back : (a b : List (List ℕ)) (g : ℕ) → group_at (a ++ b) (length a + g) ≡ group_at b g
at_back [] b g = let e : 0 + g ≡ g = omega arith in rw e refl
at_back (x ∷ a) b g = let e : suc (length a) + g ≡ suc (length a + g) = omega arith in rw e (at_back a b g)

at_map : (items : List ℕ) (b : List (List ℕ)) (g : ℕ) → length (group_at (translated items b) g) ≡ length (group_at b g)
at_map items [] g = refl
at_map items (x ∷ b) zero = length-map x (numbers items)
at_map items (x ∷ b) (suc g) = at_map items b g

-- past the last group there is none
past : (gs : List (List ℕ)) (g : ℕ) → length gs ≤ g → group_at gs g ≡ []
past [] g h = refl
past (x ∷ gs) zero h = absurd (omega (arith, h))
past (x ∷ gs) (suc g) h = past gs g (omega (arith, h))

-- the kept groups with the inner ones behind them
module _ (m count : ℕ) (order sizes : List ℕ) (scores : List Float) (items : List ℕ) (inner : ℕ) (innerOrder innerSizes : List ℕ)
    (I : Improvable m count order sizes scores items inner innerOrder innerSizes) where
  abbrev s : State
  s = state_of count sizes order scores

  abbrev inside : List (List ℕ)
  inside = cut inner innerSizes innerOrder

  abbrev kept : List (List ℕ)
  kept = kept_groups scores (cut count sizes order)

  abbrev M : List (List ℕ)
  M = merged_of s inside

  unfolded : M ≡ kept ++ translated items inside
  unfolding merged_of
  unfolded = ap (λ (x : List ℕ). kept ++ translated x inside) (sym I.weak)

  pub parts : Partition m M
  parts = merged_partition m s inside I.base.parts (subst (λ (k : ℕ). Partition k inside) (ap length I.weak) I.inside.parts)

  joined_is : joined M ≡ joined kept ++ map (numbers items) innerOrder
  joined_is =
      ap joined unfolded ∙ joined_append kept (translated items inside)
      ∙ ap (λ (x : List ℕ). joined kept ++ x) (joined_map (numbers items) inside ∙ ap (map (numbers items)) (cut_order inner innerSizes innerOrder (I.inside.sized.total ∙ sym I.inside.sized.items)))

  pub total : length (joined kept) + length innerOrder ≡ m
  total =
      let a : length (joined kept ++ map (numbers items) innerOrder) ≡ length (joined kept) + length (map (numbers items) innerOrder) = length-append (joined kept) (map (numbers items) innerOrder) in
      omega (arith, partition_length parts, ap length joined_is, a, length-map innerOrder (numbers items))

  pub groups_are : length M ≡ length kept + inner
  groups_are =
      let a : length (kept ++ translated items inside) ≡ length kept + length (translated items inside) = length-append kept (translated items inside) in
      let b : length (translated items inside) ≡ length inside = length-map inside (λ g. map (numbers items) g) in
      omega (arith, ap length unfolded, a, b, cut-length inner innerSizes innerOrder)

  pub groups_fit : length kept + inner ≤ m
  groups_fit = omega (arith, groups_few parts, groups_are)

  -- after the kept groups were picked
  module _ {groups from : ℕ} {out out₁ counts₁ : List ℕ} (lo : length out ≡ m) (K : Kept kept groups from out out₁ counts₁) where
    out_long : length out₁ ≡ m
    out_long =
        ap length K.front ∙ length-append (joined kept) (drop (length (joined kept)) out)
        ∙ let d : length (drop (length (joined kept)) out) ≡ length out - length (joined kept) = length-drop (length (joined kept)) out in omega (arith, d, lo, total)

    counts_long : length counts₁ ≡ m
    counts_long = ap length K.sized ∙ length-listed (λ g. length (group_at kept g)) (length out) ∙ lo

    pub behind_ready : Behind items innerOrder innerSizes inner groups from out₁ counts₁
    behind_ready =
        record {
          few = omega (arith, out_long, I.base.sized.few);
          below = λ j h. I.inside.sized.below j (omega (arith, h, I.inside.sized.items));
          room = omega (arith, out_long, total, K.items_are);
          some = omega (arith, I.inside.sized.groups, I.inside.sized.room);
          places = omega (arith, groups_fit, counts_long, K.groups_are);
          long = counts_long ∙ sym out_long;
        }

    ordered_is : put from (length innerOrder) out₁ (map (numbers items) innerOrder) ≡ joined M
    ordered_is =
        let f : take from out₁ ≡ joined kept = ap (take from) K.front ∙ take_at (joined kept) (drop (length (joined kept)) out) from (sym K.items_are) in
        let rest : drop (length innerOrder) (drop from out₁) ≡ [] =
        let k : from + length innerOrder ≡ length out₁ = omega (arith, total, out_long, K.items_are) in
        drop-drop (length innerOrder) from out₁ ∙ ap (λ (k : ℕ). drop k out₁) k ∙ drop-length out₁ in
        rw (f, rest, append-nil (map (numbers items) innerOrder)) (sym joined_is)

    -- the size of each group: of a kept one, of an inner one, and 0 behind the last
    abbrev sizes_now : List ℕ
    sizes_now = put groups inner counts₁ (take inner innerSizes)

    fits : groups + inner ≤ length counts₁
    fits = omega (arith, groups_fit, counts_long, K.groups_are)

    given : length (take inner innerSizes) ≡ inner
    given = length-take-le inner innerSizes (omega (arith, I.inside.sized.groups, I.inside.sized.room))

    kept_size : (g : ℕ) → g < m → numbers counts₁ g ≡ length (group_at kept g)
    kept_size g h = ap (λ (x : List ℕ). numbers x g) K.sized ∙ get_d_listed (λ k. length (group_at kept k)) (length out) g 0 (omega (arith, h, lo))

    size_before : (g : ℕ) → g < groups → g < m → numbers sizes_now g ≡ length (group_at M g)
    size_before g h k =
        get_d_front groups g sizes_now counts₁ 0 h (put_take groups inner counts₁ (take inner innerSizes) fits given groups (omega arith))
        ∙ kept_size g k ∙ ap length (sym (ap (λ (x : List (List ℕ)). group_at x g) unfolded ∙ at_front kept (translated items inside) g (omega (arith, h, K.groups_are))))

    size_inside : (j : ℕ) → j < inner → numbers sizes_now (groups + j) ≡ length (group_at M (groups + j))
    size_inside j h =
        sym (get_d_part groups inner sizes_now j 0 h) ∙ ap (λ (x : List ℕ). numbers x j) (put_part groups inner counts₁ (take inner innerSizes) fits given)
        ∙ get_or-take inner innerSizes j 0 h ∙ sym (cut_size I.inside.sized j h) ∙ sym (at_map items inside j)
        ∙ ap length (sym (ap (λ (x : List (List ℕ)). group_at x (groups + j)) unfolded ∙ ap (λ (k : ℕ). group_at (kept ++ translated items inside) (k + j)) K.groups_are ∙ at_back kept (translated items inside) j))

    size_behind : (g : ℕ) → groups + inner ≤ g → g < m → numbers sizes_now g ≡ length (group_at M g)
    size_behind g h k =
        get_d_behind (groups + inner) g sizes_now counts₁ 0 h (put_drop groups inner counts₁ (take inner innerSizes) fits given (groups + inner) (omega arith))
        ∙ kept_size g k ∙ ap length (past kept g (omega (arith, h, K.groups_are)) ∙ sym (past M g (omega (arith, h, groups_are, K.groups_are))))

    sized_is : sizes_now ≡ sizes_of m M
    sized_is =
        listed_of 0 (λ g. length (group_at M g)) m sizes_now (put_length groups inner counts₁ (take inner innerSizes) fits given ∙ counts_long)
        (λ g h. by_cases (dec_lt g groups) (λ a. size_before g a h)
        (λ a. by_cases (dec_lt g (groups + inner))
        (λ b. let e : groups + (g - groups) ≡ g = omega (arith, a) in subst (λ (k : ℕ). numbers sizes_now k ≡ length (group_at M k)) e (size_inside (g - groups) (omega (arith, a, b))))
        (λ b. size_behind g (omega (arith, b)) h)))

    pub merged : {r : ℕ} {out₂ counts₂ : List ℕ} → r ≡ groups + inner → Appended items innerOrder innerSizes inner groups from out₁ out₂ counts₁ counts₂ → Merged M m r out₂ counts₂
    merged e A =
        record {
          groups_are = omega (arith, e, K.groups_are, groups_are);
          ordered = A.ordered ∙ ordered_is;
          sized = A.sized ∙ sized_is;
        }

-- groups that stand in the lists
module _ {gs : List (List ℕ)} {m r : ℕ} {out counts : List ℕ} (G : Merged gs m r out counts) (p : Partition m gs) where
  pub merged_cut : cut r counts out ≡ gs
  merged_cut = rw (G.groups_are, G.ordered, G.sized) (cut_joined gs m (groups_few p))

  pub merged_parted : m ≤ 256 → PartitionLists m r out counts
  merged_parted few =
      record {
        sized = rw (G.groups_are, G.ordered, G.sized) (sized_of p few);
        parts = subst (Partition m) (sym merged_cut) p;
      }
