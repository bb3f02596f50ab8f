-- `cluster_kmeans_top`, in plain lists: from what its calls leave to what it ensures.
use Rattle.std.specs.Prelude.{Result, Ok, Err}
use Prim.Native.Nat.{ℕ, zero, suc, ◌+◌, ◌-◌, ◌*◌, ◌<◌, ◌≤◌}
use mathlib.Core.Path.{◌≡◌, refl, sym, ◌∙◌, ap, subst}
use mathlib.Core.List.{List, [], ◌∷◌, ◌++◌, map}
use native.Mathlib.Nat.{suc-mul, not-suc-le-zero, le_of_suc-le-suc}
use native.Mathlib.Omega.{arith}
use lib.ListN.{length, take, drop, length-drop, take-append-drop}
use lib.Seq.{length-take-le, length_front, get_or-take, drop-drop, take_at}
use lib.Ieee.{Float}
use Rattle.lists.specs.Lists.{numbers, part, put}
use Rattle.lists.proofs.Parts.{part_length, take_part, drop_behind, tail_length, tail_take, tail_before, tail_behind}
use Rattle.draws.specs.declared.Stop.{Stop}
use Rattle.draws.specs.declared.Stop.TheVariants.{Rounds}
use Rattle.distance.specs.Distance.{Readable, dist_at}
use Rattle.partition.specs.Partition.{State, Partition, joined}
use Rattle.partition.specs.Orders.{sizes_of, cut}
use Rattle.improve_merge.specs.Merging.{weak_items}
use Rattle.improve.specs.Improve.{better_of}
use Rattle.improve_merge.specs.Steps.{state_of, PartitionLists, Improvable}
use Rattle.improve_merge.proofs.Merged.{weak_few, weak_below, weak_many}
use Rattle.round_top.specs.declared.Top.{Top}
use Rattle.round.specs.declared.RoundStart.{RoundStart}
use Rattle.row_numbers.specs.Rows.{rows_of}
use Rattle.round.specs.Round.{Run, done, ended, Opening, started, unstarted, opening_of, round_of, need_of, after_inner}
use Rattle.plusplus_seeded.specs.declared.Source.{Source}
use Rattle.plusplus_seeded.specs.Sources.{given}
use Rattle.round.specs.Made.{own_given, own_moved, round_given}
use Rattle.round.specs.Steps.{round_start, Stood, RoundStarted, Starts, BaseAt, round_start_of}
use Rattle.round_end.specs.Steps.{InnerEnded, RoundEnded}
use Rattle.round_top.specs.Steps.{top_done, Ready, RoundLeaves, top_of, order_after, sizes_after, scores_after}
use Rattle.round.proofs.Runs.{weak_in, OpeningTook, opening_took, Whole, whole, round_none, round_refused, round_kept, round_again}
use Rattle.round.proofs.Sourced.{later_made, source_started, source_unstarted, later_again, stood_behind}
use Rattle.round.proofs.Standing.{stands_state, stands_cut, stands_parted, stands_plain}

-- what two equal answers have in common
start_parts : (g h k l v w : ℕ) (n m : Source) → round_start g k v n ≡ round_start h l w m → (g ≡ h) × (k ≡ l) × (v ≡ w) × (n ≡ m)
start_parts g h k l v w n m e =
    let r : ◌≡◌ {A = RoundStart} (record { groups = g; weak = k; items = v; source = n }) (record { groups = h; weak = l; items = w; source = m }) = cc in
    (ap (λ (x : RoundStart). x.groups) r, ap (λ (x : RoundStart). x.weak) r, ap (λ (x : RoundStart). x.items) r, ap (λ (x : RoundStart). x.source) r)

pub top_parts : (g h r s : ℕ) → top_done g r ≡ top_done h s → (g ≡ h) × (r ≡ s)
top_parts g h r s e =
    let t : ◌≡◌ {A = Top} (record { groups = g; read = r }) (record { groups = h; read = s }) = cc in
    (ap (λ (x : Top). x.groups) t, ap (λ (x : Top). x.read) t)

pub level_pos : (left : ℕ) → (left ≡ 0 → ⊥) → 1 ≤ left
level_pos zero h = absurd (h refl)
level_pos (suc l) h = omega arith

pub level_step : (left n : ℕ) → (left ≡ 0 → ⊥) → left * n ≡ (left - 1) * n + n
level_step zero n h = absurd (h refl)
level_step (suc l) n h =
    let e : suc l - 1 ≡ l = omega arith in
    suc-mul l n ∙ ap (λ (x : ℕ). x * n + n) (sym e)

-- an element of a mapped list
map_at : (f : ℕ → ℕ) (l : List ℕ) (j : ℕ) → j < length l → numbers (map f l) j ≡ f (numbers l j)
map_at f [] j h = absurd (not-suc-le-zero h)
map_at f (x ∷ l) zero h = refl
map_at f (x ∷ l) (suc j) h = map_at f l j (le_of_suc-le-suc h)

module _ (book : List Float) (n repeats : ℕ) (draws : List ℕ) (src : Source) (left : ℕ) (order sizes : List ℕ) (scores : List Float) (wi : List ℕ) (wf : List Float)
    (R : Ready book n repeats draws src left order sizes scores wi wf) where
  abbrev m : ℕ
  m = length order

  abbrev rows : List ℕ
  rows = take m wi

  abbrev O : Opening
  O = opening_of book n repeats rows src.at (own_given src draws book n repeats rows)

  -- the source behind its own draws
  abbrev moved : Source
  moved = own_moved src book n repeats rows

  -- the round with so many left, by the draws of the source for it
  abbrev run_with : ℕ → Run
  run_with x = round_of book n repeats x rows src.at (round_given src draws book n repeats x rows)

  abbrev run : Run
  run = run_with left

  -- the places behind which nothing is touched
  abbrev last_number : ℕ
  last_number = 3 * (left * n) + n

  abbrev last_double : ℕ
  last_double = left * n + 5 * (n * n)

  pub none_law : left ≡ 0 → RoundLeaves run n left (Err Rounds) order order sizes sizes scores scores wi wi wf wf
  none_law e =
      rw (round_none book n repeats left rows src.at (round_given src draws book n repeats left rows) e)
      (record { answer_is = refl; ordered = refl; sized = refl; scored = refl; behind = refl; beyond = refl })

  module _ (some : left ≡ 0 → ⊥) where
    size : left * n ≡ (left - 1) * n + n
    size = level_step left n some

    is_suc : left ≡ suc (left - 1)
    is_suc = let p : 1 ≤ left = level_pos left some in omega arith

    rows_len : length rows ≡ m
    rows_len = length-take-le m wi (omega (arith, R.reads.items, R.room))

    two_rows : 2 ≤ length rows
    two_rows = omega (arith, rows_len, R.reads.two)

    -- the draws of the source for this round
    abbrev given_draws : List ℕ
    given_draws = round_given src draws book n repeats (suc (left - 1)) rows

    few : m ≤ 256
    few = omega (arith, R.reads.items, R.reads.few)

    -- once the round has begun
    module _ (a₁ : Result RoundStart Stop) (wi₁ : List ℕ) (wf₁ : List Float) (B : RoundStarted O n m left moved a₁ wi wi₁ wf wf₁) where
      behind_number : drop last_number wi₁ ≡ drop last_number wi
      behind_number = drop_behind (4 * n) last_number wi₁ wi (omega (arith, size)) B.behind

      of_refused : (o : Opening) (s : Stop) → O ≡ o → Err s ≡ round_start_of moved o
          → RoundLeaves run n left (Err s) order order sizes sizes scores scores wi wi₁ wf wf₁
      of_refused (started base rest) s e a = let z : ◌≡◌ {A = ℕ} 0 1 = cc in absurd (omega arith)
      of_refused (unstarted q ms) s e a =
          let z : q ≡ s = cc in
          let r : run ≡ ended s ms =
          ap run_with is_suc
          ∙ round_refused book n repeats (left - 1) rows src.at given_draws q ms (source_unstarted book n repeats (left - 1) rows two_rows src draws q ms e)
          ∙ ap (λ (x : Stop). ended x ms) z in
          rw r (record { answer_is = refl; ordered = refl; sized = refl; scored = refl; behind = behind_number; beyond = B.beyond })

      pub refused_law : (s : Stop) → a₁ ≡ Err s → RoundLeaves run n left (Err s) order order sizes sizes scores scores wi wi₁ wf wf₁
      refused_law s e = of_refused O s refl (sym e ∙ B.answer_is)

      -- what is known of a round that has started: its base of `groups` groups, `weak` of them weak, with w items; a is the source behind its draws
      pub record Started (groups weak w : ℕ) (a : Source) : Type 0 where
        pub base : State
        pub rest : List ℕ
        pub opened : O ≡ started base rest
        pub parts : Partition m base.groups
        pub count : groups ≡ length base.groups
        pub weak_is : weak ≡ weak_in base
        pub items_are : w ≡ length (weak_items base)
        pub told : a ≡ moved
        pub stood : Stood a draws (left - 1)
        pub rows-kept : take m wi₁ ≡ rows
        pub base_at : BaseAt n m base wi₁ wf₁
        pub rows_at : part (3 * n) w wi₁ ≡ rows_of rows (weak_items base)

      of_started : (o : Opening) (groups weak w : ℕ) (a : Source) → O ≡ o → round_start groups weak w a ≡ round_start_of moved o
          → OpeningTook (need_of repeats m) (own_given src draws book n repeats rows) m o → Starts o n m rows wi₁ wf₁ → Started groups weak w a
      of_started (unstarted q ms) groups weak w a e b t s = let z : ◌≡◌ {A = ℕ} 0 1 = cc in absurd (omega arith)
      of_started (started base rest) groups weak w a e b t s =
          let p = start_parts groups (length base.groups) weak (weak_in base) w (length (weak_items base)) a moved b in
          let eg : groups ≡ length base.groups = p.0 in
          let ek : weak ≡ weak_in base = p.1 in
          let ew : w ≡ length (weak_items base) = p.2 in
          let ea : a ≡ moved = p.3 in
          record {
            base = base;
            rest = rest;
            opened = e;
            parts = t.0;
            count = eg;
            weak_is = ek;
            items_are = ew;
            told = ea;
            stood =
                rw ea (stood_behind book n repeats rows src draws left R.reads.stood (level_pos left some) R.level (omega (arith, two_rows)) (omega (arith, rows_len, few))
                R.reads.times (subst (λ (x : ℕ). need_of repeats x ≤ length (own_given src draws book n repeats rows)) (sym rows_len) t.3));
            rows-kept = s.0;
            base_at = s.1;
            rows_at = ap (λ (x : ℕ). part (3 * n) x wi₁) ew ∙ s.2;
          }

      pub started_law : (groups weak w : ℕ) (a : Source) → a₁ ≡ round_start groups weak w a → Started groups weak w a
      started_law groups weak w a e =
          let ds = own_given src draws book n repeats rows in
          of_started O groups weak w a refl (sym e ∙ B.answer_is)
          (subst (λ (x : ℕ). OpeningTook (need_of repeats x) ds x O) rows_len (opening_took book n repeats rows src.at ds two_rows)) B.starts

      module _ (groups weak w : ℕ) (a : Source) (S : Started groups weak w a) where
        -- the draws behind the start
        abbrev later : List ℕ
        later = given moved draws (later_made book n repeats (left - 1) rows two_rows src draws (started S.base []))

        opens : opening_of book n repeats rows src.at given_draws ≡ started S.base later
        opens = source_started book n repeats (left - 1) rows two_rows src draws S.base S.rest S.opened

        pub kept_law : (order' sizes' : List ℕ) (scores' : List Float) → weak ≤ 2 → order' ≡ part n m wi₁ → sizes' ≡ part (2 * n) m wi₁ → scores' ≡ take m wf₁
            → RoundLeaves run n left (top_done groups a.at) order order' sizes sizes' scores scores' wi wi₁ wf wf₁
        kept_law order' sizes' scores' h eo ez es =
            let b = S.base in
            let less : weak_in S.base ≤ 2 = omega (arith, h, S.weak_is) in
            let r : run ≡ done S.base (m ∷ []) a.at later =
            ap run_with is_suc ∙ round_kept book n repeats (left - 1) rows src.at given_draws S.base later opens less
            ∙ ap (λ (x : ℕ). done S.base (x ∷ []) moved.at later) rows_len
            ∙ ap (λ (x : Source). done S.base (m ∷ []) x.at later) (sym S.told) in
            rw r (record {
              answer_is = ap (λ (x : ℕ). top_done x a.at) S.count;
              ordered = eo ∙ S.base_at.order_at;
              sized = ez ∙ S.base_at.sizes_at;
              scored = es ∙ S.base_at.scores_at;
              behind = behind_number;
              beyond = B.beyond;
            })

        -- the items of the weak groups are a book of their own
        module _ (more : 2 < weak) (long-numbers : length wi₁ ≡ length wi) (long-doubles : length wf₁ ≡ length wf) where
          pub w_few : w ≤ m
          w_few = omega (arith, S.items_are, weak_few m S.base S.parts)

          w_many : 2 < w
          w_many = omega (arith, S.items_are, more, S.weak_is, weak_many m S.base S.parts)

          abbrev wi₂ : List ℕ
          wi₂ = part (3 * n) (length wi₁ - 3 * n) wi₁

          abbrev wf₂ : List Float
          wf₂ = part n (length wf₁ - n) wf₁

          pub in_len : length (take w order) ≡ w
          in_len = length-take-le w order w_few

          pub in_sizes : length (take w sizes) ≡ w
          in_sizes = length-take-le w sizes (omega (arith, w_few, R.same_sizes))

          pub in_scores : length (take w scores) ≡ w
          in_scores = length-take-le w scores (omega (arith, w_few, R.same_scores))

          pub room_numbers : 3 * n ≤ length wi₁
          room_numbers = omega (arith, R.room, size, long-numbers)

          pub room_doubles : n ≤ length wf₁
          room_doubles = omega (arith, R.space, size, long-doubles)

          front_rows : take w wi₂ ≡ rows_of rows (weak_items S.base)
          front_rows = take_part (3 * n) (length wi₁ - 3 * n) w wi₁ (omega (arith, R.room, size, long-numbers, w_few, R.reads.items)) ∙ S.rows_at

          row_below : (j : ℕ) → j < w → numbers wi₂ j < n
          row_below j h =
              let items = weak_items S.base in
              let inside : j < length (weak_items S.base) = omega (arith, h, S.items_are) in
              let below : numbers (weak_items S.base) j < m = weak_below m S.base S.parts j inside in
              let e : numbers wi₂ j ≡ numbers wi (numbers (weak_items S.base) j) =
              sym (get_or-take w wi₂ j 0 h) ∙ ap (λ (x : List ℕ). numbers x j) front_rows ∙ map_at (numbers rows) (weak_items S.base) j inside
              ∙ get_or-take m wi (numbers (weak_items S.base) j) 0 below in
              rw e (R.reads.rows (numbers (weak_items S.base) j) below)

          pub inner_ready : Ready book n repeats draws a (left - 1) (take w order) (take w sizes) (take w scores) wi₂ wf₂
          inner_ready =
              record {
                reads = record {
                  two = omega (arith, in_len, w_many);
                  items = omega (arith, in_len, w_few, R.reads.items);
                  few = R.reads.few;
                  some = R.reads.some;
                  times = R.reads.times;
                  square = R.reads.square;
                  stood = S.stood;
                  rows = λ j h. row_below j (omega (arith, h, in_len));
                };
                level = omega (arith, R.level);
                same_sizes = in_sizes ∙ sym in_len;
                same_scores = in_scores ∙ sym in_len;
                room = omega (arith, part_length (3 * n) (length wi₁ - 3 * n) wi₁ (omega (arith, room_numbers)), R.room, size, long-numbers);
                space = omega (arith, part_length n (length wf₁ - n) wf₁ (omega (arith, room_doubles)), R.space, size, long-doubles);
              }

          abbrev inner_rows : List ℕ
          inner_rows = take (length (take w order)) wi₂

          abbrev inner : Run
          inner = round_of book n repeats (left - 1) inner_rows a.at (round_given a draws book n repeats (left - 1) inner_rows)

          inner_rows_len : length inner_rows ≡ w
          inner_rows_len =
              let l = part_length (3 * n) (length wi₁ - 3 * n) wi₁ (omega (arith, room_numbers)) in
              length-take-le (length (take w order)) wi₂ (omega (arith, l, in_len, R.room, size, long-numbers, w_few, R.reads.items)) ∙ in_len

          -- the round after its re-clustering, by the definition
          abbrev after : Run → Run
          after r = after_inner (dist_at book n rows) m S.base r

          run_is : run ≡ after inner
          run_is =
              let many : 2 < weak_in S.base = omega (arith, more, S.weak_is) in
              let weak-rows = rows_of rows (weak_items S.base) in
              ap run_with is_suc ∙ round_again book n repeats (left - 1) rows src.at given_draws S.base later opens many
              ∙ ap (λ (x : ℕ). after_inner (dist_at book n rows) x S.base (round_of book n repeats (left - 1) weak-rows moved.at later)) rows_len
              ∙ ap (λ (x : List ℕ). after (round_of book n repeats (left - 1) weak-rows moved.at x)) (later_again book n repeats (left - 1) rows two_rows src draws S.base many)
              ∙ ap (λ (x : Source). after (round_of book n repeats (left - 1) weak-rows x.at (round_given x draws book n repeats (left - 1) weak-rows))) (sym S.told)
              ∙ ap (λ (x : List ℕ). after (round_of book n repeats (left - 1) x a.at (round_given a draws book n repeats (left - 1) x))) (sym front_rows)
              ∙ ap (λ (x : ℕ). after (round_of book n repeats (left - 1) (take x wi₂) a.at (round_given a draws book n repeats (left - 1) (take x wi₂)))) (sym in_len)

          -- the inner round has come back
          module _ (b : Result Top Stop) (lo lz : List ℕ) (ls : List Float) (wi₃ : List ℕ) (wf₃ : List Float)
              (I : RoundLeaves inner n (left - 1) b (take w order) lo (take w sizes) lz (take w scores) ls wi₂ wi₃ wf₂ wf₃)
              (len-order : length lo ≡ length (take w order)) (len-sizes : length lz ≡ length (take w sizes)) (len-scores : length ls ≡ length (take w scores))
              (len-numbers : length wi₃ ≡ length wi₂) (len-doubles : length wf₃ ≡ length wf₂) where
            abbrev wi₄ : List ℕ
            wi₄ = put (3 * n) (length wi₁ - 3 * n) wi₁ wi₃

            abbrev wf₄ : List Float
            wf₄ = put n (length wf₁ - n) wf₁ wf₃

            abbrev order₂ : List ℕ
            order₂ = lo ++ drop w order

            abbrev sizes₂ : List ℕ
            sizes₂ = lz ++ drop w sizes

            abbrev scores₂ : List Float
            scores₂ = ls ++ drop w scores

            back_number : drop last_number wi₄ ≡ drop last_number wi
            back_number =
                let e : 3 * n + (3 * ((left - 1) * n) + n) ≡ last_number = omega (arith, size) in
                ap (λ (x : ℕ). drop x wi₄) (sym e) ∙ tail_behind (3 * n) wi₁ room_numbers wi₃ len-numbers (3 * ((left - 1) * n) + n) I.behind
                ∙ ap (λ (x : ℕ). drop x wi₁) e ∙ behind_number

            back_double : drop last_double wf₄ ≡ drop last_double wf
            back_double =
                let e : n + ((left - 1) * n + 5 * (n * n)) ≡ last_double = omega (arith, size) in
                ap (λ (x : ℕ). drop x wf₄) (sym e) ∙ tail_behind n wf₁ room_doubles wf₃ len-doubles ((left - 1) * n + 5 * (n * n)) I.beyond
                ∙ ap (λ (x : ℕ). drop x wf₁) e ∙ B.beyond

            of_stopped : (r : Run) (s : Stop) → inner ≡ r → b ≡ Err s → b ≡ top_of r → lo ≡ order_after r (take w order)
                → lz ≡ sizes_after (length (take w order)) r (take w sizes) → ls ≡ scores_after r (take w scores)
                → RoundLeaves run n left (Err s) order order₂ sizes sizes₂ scores scores₂ wi wi₄ wf wf₄
            of_stopped (done h ms last rest) s e eb ea eo ez es = let z : ◌≡◌ {A = ℕ} 0 1 = cc in absurd (omega arith)
            of_stopped (ended q ms) s e eb ea eo ez es =
                let z : q ≡ s = cc in
                let r : run ≡ ended s (m ∷ ms) = run_is ∙ ap after e ∙ ap (λ (x : Stop). ended x (m ∷ ms)) z in
                rw r (record {
                  answer_is = refl;
                  ordered = ap (λ (x : List ℕ). x ++ drop w order) eo ∙ take-append-drop w order;
                  sized = ap (λ (x : List ℕ). x ++ drop w sizes) ez ∙ take-append-drop w sizes;
                  scored = ap (λ (x : List Float). x ++ drop w scores) es ∙ take-append-drop w scores;
                  behind = back_number;
                  beyond = back_double;
                })

            pub stopped_law : (s : Stop) → b ≡ Err s → RoundLeaves run n left (Err s) order order₂ sizes sizes₂ scores scores₂ wi wi₄ wf wf₄
            stopped_law s eb = of_stopped inner s refl eb I.answer_is I.ordered I.sized I.scored

            -- the base stands where it stood
            rows₄ : take m wi₄ ≡ rows
            rows₄ = tail_take (3 * n) wi₁ room_numbers wi₃ len-numbers m (omega (arith, R.reads.items)) ∙ S.rows-kept

            order₄ : part n m wi₄ ≡ joined S.base.groups
            order₄ = tail_before (3 * n) wi₁ room_numbers wi₃ len-numbers n m (omega (arith, R.reads.items)) ∙ S.base_at.order_at

            sizes₄ : part (2 * n) m wi₄ ≡ sizes_of m S.base.groups
            sizes₄ = tail_before (3 * n) wi₁ room_numbers wi₃ len-numbers (2 * n) m (omega (arith, R.reads.items)) ∙ S.base_at.sizes_at

            scores₄ : take m wf₄ ≡ S.base.scores
            scores₄ = tail_take n wf₁ room_doubles wf₃ len-doubles m R.reads.items ∙ S.base_at.scores_at

            abbrev state₄ : State
            state₄ = state_of groups (part (2 * n) m wi₄) (part n m wi₄) (take m wf₄)

            state_is : state₄ ≡ S.base
            state_is = stands_state m S.base few S.parts S.count order₄ sizes₄ scores₄

            items₄ : w ≡ length (weak_items state₄)
            items₄ = S.items_are ∙ ap (λ (s : State). length (weak_items s)) (sym state_is)

            len₂ : length order₂ ≡ m
            len₂ = length_front order lo w len-order

            -- the inner partition, of g groups, at the front of the outputs
            pub record Inner (g last : ℕ) : Type 0 where
              pub state : State
              pub ms : List ℕ
              pub left_over : List ℕ
              pub ended_as : inner ≡ done state ms last left_over
              pub inside : PartitionLists w g (take w order₂) (take w sizes₂)
              pub groups_are : cut g (take w sizes₂) (take w order₂) ≡ state.groups

            of_done : (r : Run) (g last : ℕ) → inner ≡ r → Whole w r → b ≡ top_done g last → b ≡ top_of r → lo ≡ order_after r (take w order)
                → lz ≡ sizes_after (length (take w order)) r (take w sizes) → Inner g last
            of_done (ended q ms) g last e p eb ea eo ez = let z : ◌≡◌ {A = ℕ} 0 1 = cc in absurd (omega arith)
            of_done (done h ms q rest) g last e p eb ea eo ez =
                let parts = top_parts g (length h.groups) last q (sym eb ∙ ea) in
                let eg : g ≡ length h.groups = parts.0 in
                let el : q ≡ last = sym parts.1 in
                let small : w ≤ 256 = omega (arith, w_few, few) in
                let fo : take w order₂ ≡ joined h.groups = take_at lo (drop w order) w (len-order ∙ in_len) ∙ eo in
                let fz : take w sizes₂ ≡ sizes_of w h.groups =
                take_at lz (drop w sizes) w (len-sizes ∙ in_sizes) ∙ ez ∙ ap (λ (x : ℕ). sizes_of x h.groups) in_len in
                record {
                  state = h;
                  ms = ms;
                  left_over = rest;
                  ended_as = e ∙ ap (λ (x : ℕ). done h ms x rest) el;
                  inside = stands_parted w h small p.0 eg fo fz;
                  groups_are = stands_cut w h small p.0 eg fo fz;
                }

            pub inner_law : (g last : ℕ) → b ≡ top_done g last → Inner g last
            inner_law g last eb =
                let two : 2 ≤ length inner_rows = omega (arith, inner_rows_len, w_many) in
                of_done inner g last refl (subst (λ (x : ℕ). Whole x inner) inner_rows_len (whole book n repeats (left - 1) inner_rows a.at (round_given a draws book n repeats (left - 1) inner_rows) two)) eb I.answer_is I.ordered I.sized

            module _ (g last : ℕ) (N : Inner g last) where
              improvable : Improvable m groups (part n m wi₄) (part (2 * n) m wi₄) (take m wf₄) (weak_items state₄) g (take w order₂) (take w sizes₂)
              improvable =
                  record {
                    base = stands_parted m S.base few S.parts S.count order₄ sizes₄;
                    inside = subst (λ (x : ℕ). PartitionLists x g (take w order₂) (take w sizes₂)) items₄ N.inside;
                    weak = refl;
                    any = omega (arith, R.reads.two);
                  }

              readable : Readable book n (take m wi₄)
              readable =
                  rw rows₄ (record {
                    few = R.reads.few;
                    square = R.reads.square;
                    few_read = omega (arith, rows_len, few);
                    within = λ k h.
                        let l : k < m = omega (arith, h, rows_len) in
                        rw (get_or-take m wi k 0 l) (R.reads.rows k l);
                  })

              pub inner_ended_law : InnerEnded book n left groups g w order₂ sizes₂ scores₂ wi₄ wf₄
              inner_ended_law =
                  record {
                    readable = rw len₂ readable;
                    items = rw len₂ R.reads.items;
                    few = R.reads.few;
                    room = omega (arith, tail_length (3 * n) wi₁ room_numbers wi₃ len-numbers, room_numbers);
                    front = omega (arith, tail_length n wf₁ room_doubles wf₃ len-doubles, room_doubles);
                    one = level_pos left some;
                    level = R.level;
                    space = omega (arith, tail_length n wf₁ room_doubles wf₃ len-doubles, long-doubles, R.space);
                    same_sizes = length_front sizes lz w len-sizes ∙ R.same_sizes ∙ sym len₂;
                    same_scores = length_front scores ls w len-scores ∙ R.same_scores ∙ sym len₂;
                    fewer = omega (arith, len₂, w_few);
                    improvable = rw len₂ improvable;
                    weak = rw len₂ items₄;
                    plain = rw len₂ (stands_plain m S.base few S.parts S.count order₄ sizes₄);
                  }

              abbrev better : State
              better =
                  better_of (dist_at book n (take (length order₂) wi₄)) (length order₂) (state_of groups (part (2 * n) (length order₂) wi₄) (part n (length order₂) wi₄) (take (length order₂) wf₄))
                  (cut g (take w sizes₂) (take w order₂))

              better_is : better ≡ better_of (dist_at book n rows) m S.base N.state.groups
              better_is =
                  let gs = cut g (take w sizes₂) (take w order₂) in
                  ap (λ (x : ℕ). better_of (dist_at book n (take x wi₄)) x (state_of groups (part (2 * n) x wi₄) (part n x wi₄) (take x wf₄)) gs) len₂
                  ∙ ap (λ (x : List ℕ). better_of (dist_at book n x) m state₄ gs) rows₄
                  ∙ ap (λ (x : State). better_of (dist_at book n rows) m x gs) state_is
                  ∙ ap (λ (x : List (List ℕ)). better_of (dist_at book n rows) m S.base x) N.groups_are

              pub done_law : (r : ℕ) (order' sizes' : List ℕ) (scores' wf₅ : List Float) → RoundEnded better n left r (length order₂) order' sizes' scores' wf₄ wf₅
                  → RoundLeaves run n left (top_done r last) order order' sizes sizes' scores scores' wi wi₄ wf wf₅
              done_law r order' sizes' scores' wf₅ T =
                  let e : run ≡ done (better_of (dist_at book n rows) m S.base N.state.groups) (m ∷ N.ms) last N.left_over = run_is ∙ ap after N.ended_as in
                  rw e (record {
                    answer_is = ap (λ (x : ℕ). top_done x last) (T.groups_are ∙ ap (λ (s : State). length s.groups) better_is);
                    ordered = T.ordered ∙ ap (λ (s : State). joined s.groups) better_is;
                    sized = T.sized ∙ ap (λ (x : ℕ). sizes_of x better.groups) len₂ ∙ ap (λ (s : State). sizes_of m s.groups) better_is;
                    scored = T.scored ∙ ap (λ (s : State). s.scores) better_is;
                    behind = back_number;
                    beyond = T.beyond ∙ back_double;
                  })
