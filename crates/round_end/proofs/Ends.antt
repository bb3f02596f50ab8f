-- `end_with`, in plain lists: from what its calls leave to what it ensures.
use Prim.Native.Nat.{ℕ, ◌+◌, ◌*◌, ◌≤◌}
use mathlib.Core.Path.{◌≡◌, refl, sym, ◌∙◌, ap}
use mathlib.Core.List.{List}
use native.Mathlib.Nat.{mul-le-mul, mul-le-mul_right}
use native.Mathlib.Omega.{arith}
use lib.ListN.{length, take, drop}
use lib.Seq.{length-take-le, take_at}
use lib.Ieee.{Float}
use Rattle.lists.specs.Lists.{part, put}
use Rattle.lists.proofs.Parts.{part_length, put_length, put_drop}
use Rattle.distance.specs.Distance.{dist_at}
use Rattle.partition.specs.Partition.{State, joined}
use Rattle.partition.specs.Orders.{Sized, sizes_of, cut}
use Rattle.partition.proofs.Cuts.{cut_order, cut-length}
use Rattle.quality.specs.Quality.{qualities_of, weak_mean}
use Rattle.choice.specs.Choice.{chosen}
use Rattle.choice.proofs.Laws.{chosen_ap}
use Rattle.improve_merge.specs.Merging.{weak_items, merged_of}
use Rattle.improve.specs.Improve.{rescored, mean_quality, better_of}
use Rattle.improve_merge.specs.Steps.{state_of, WeakListed, Improvable}
use Rattle.improve.specs.Steps.{Improves}
use Rattle.round_end.specs.Steps.{InnerEnded, RoundEnded}

module _ (book : List Float) (n left count inner w : ℕ) (order sizes : List ℕ) (scores : List Float) (wi : List ℕ) (wf : List Float)
    (U : InnerEnded book n left count inner w order sizes scores wi wf) where
  abbrev m : ℕ
  m = length order

  -- the base and the partition with the inner groups in it
  abbrev old_state : State
  old_state = state_of count (part (2 * n) m wi) (part n m wi) (take m wf)

  abbrev groups : List (List ℕ)
  groups = cut inner (take w sizes) (take w order)

  abbrev x : ℕ → ℕ → Float
  x = dist_at book n (take m wi)

  abbrev new_state : State
  new_state = rescored x m (merged_of old_state groups)

  abbrev limit : ℕ
  limit = left * n + 5 * (n * n)

  pub end_round_rows : length (take m wi) ≡ m
  end_round_rows = length-take-le m wi (omega (arith, U.items, U.room))

  pub end_round_scores : length (take m wf) ≡ m
  end_round_scores = length-take-le m wf (omega (arith, U.items, U.front))

  pub end_round_area : left * n + 5 * (m * m) ≤ length wf
  end_round_area = omega (arith, mul-le-mul U.items U.items, U.space)

  pub end_round_part : (k : ℕ) → k ≡ 5 * (m * m) → length (part (left * n) k wf) ≡ k
  end_round_part k e = part_length (left * n) k wf (omega (arith, e, end_round_area))

  pub end_round_kept : (k : ℕ) (area : List Float) → k ≡ 5 * (m * m) → length area ≡ k → length (put (left * n) k wf area) ≡ length wf
  end_round_kept k area e la = put_length (left * n) k wf area (omega (arith, e, end_round_area)) la

  pub end_round_word : left * n + 5 * (m * m) ≤ 335872
  end_round_word =
      let few : m ≤ 256 = omega (arith, U.items, U.few) in
      let level : left * n ≤ 32 * n = mul-le-mul_right n U.level in
      omega (arith, mul-le-mul few few, level, U.few)

  -- k and j are the lengths of the parts as the code has them, os the base's scores
  module _ (k j : ℕ) (os : List Float) (ek : k ≡ m) (ej : j ≡ m) (eo : os ≡ take m wf) where
    pub weak_asked : Sized (length os) count (part n k wi) (part (2 * n) j wi)
    weak_asked = rw (ek, ej, eo, end_round_scores) U.improvable.base.sized

    module _ (gw iw : ℕ) (mean : Float) (list list' : List ℕ) (W' : WeakListed (state_of count (part (2 * n) j wi) (part n k wi) os) gw iw mean list list') where
      W : WeakListed old_state gw iw mean list list'
      W = rw (ek, ej, eo) at W'

      items_are : take w list' ≡ weak_items old_state
      items_are = ap (take w) W.listed_are ∙ take_at (weak_items old_state) (drop (length (weak_items old_state)) list) w (sym U.weak)

      pub improve_asked : Improvable (length os) count (part n k wi) (part (2 * n) j wi) os (take w list') inner (take w order) (take w sizes)
      improve_asked = rw (ek, ej, eo, end_round_scores, items_are) U.improvable

      module _ (g : ℕ) (new : Float) (no nz : List ℕ) (ns : List Float)
          (I' : Improves (rescored (dist_at book n (take m wi)) (length (take m wi)) (merged_of (state_of count (part (2 * n) j wi) (part n k wi) os) groups)) (length (take m wi)) g new no nz ns)
        where
          I : Improves new_state m g new no nz ns
          I = rw (ek, ej, eo, end_round_rows) at I'

          by : {B : Type 0} (f : State → B) (a b : B) → f old_state ≡ a → f new_state ≡ b → f (better_of x m old_state groups) ≡ chosen new mean a b
          by f a b ea eb =
              chosen_ap f (mean_quality new_state) (weak_mean (qualities_of old_state.scores old_state.groups)) old_state new_state
              ∙ rw (← I.mean_is, ← W.mean_is, ea, eb) refl

          full : joined (cut count (part (2 * n) m wi) (part n m wi)) ≡ part n m wi
          full =
              let S = U.improvable.base.sized in
              cut_order count (part (2 * n) m wi) (part n m wi) (S.total ∙ sym S.items)

          pub end_round_law : (i : ℕ) (area : List Float) → i ≡ 5 * (m * m) → length area ≡ i → (r : ℕ) (order' sizes' : List ℕ) (scores' : List Float) → r ≡ chosen new mean count g
              → order' ≡ chosen new mean (part n k wi) no → sizes' ≡ chosen new mean (part (2 * n) j wi) nz → scores' ≡ chosen new mean os ns
              → RoundEnded (better_of x m old_state groups) n left r m order' sizes' scores' wf (put (left * n) i wf area)
          end_round_law i area ei la r order' sizes' scores' er eo' ez' es' =
              record {
                groups_are = er ∙ sym (by (λ (s : State). length s.groups) count g (cut-length count (part (2 * n) m wi) (part n m wi)) (sym I.merged.groups_are));
                ordered = eo' ∙ ap (λ (y : ℕ). chosen new mean (part n y wi) no) ek ∙ sym (by (λ (s : State). joined s.groups) (part n m wi) no full (sym I.merged.ordered));
                sized =
                    ez' ∙ ap (λ (y : ℕ). chosen new mean (part (2 * n) y wi) nz) ej
                    ∙ sym (by (λ (s : State). sizes_of m s.groups) (part (2 * n) m wi) nz (sym U.plain) (sym I.merged.sized));
                scored = es' ∙ ap (λ (y : List Float). chosen new mean y ns) eo ∙ sym (by (λ (s : State). s.scores) (take m wf) ns refl (sym I.scored));
                beyond = put_drop (left * n) i wf area (omega (arith, ei, end_round_area)) la limit (omega (arith, ei, mul-le-mul U.items U.items));
              }
