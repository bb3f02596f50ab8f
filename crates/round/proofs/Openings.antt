-- `start_round`, in plain lists: from what its calls leave to what it ensures.
use Rattle.std.specs.Prelude.{Ok, Err}
use Prim.Native.Nat.{ℕ, zero, suc, ◌+◌, ◌-◌, ◌*◌, ◌^◌, ◌<◌, ◌≤◌}
use mathlib.Core.Path.{◌≡◌, refl, sym, ◌∙◌, ap, subst}
use mathlib.Core.Bool.{Bool, true, false, cond}
use mathlib.Core.List.{List, []}
use native.Mathlib.Nat.{mul-le-mul, mul-le-mul_right, suc-mul}
use native.Mathlib.Omega.{arith}
use borrow.Author.Tests.{lt-ltb, le-ltb, ltb-true, ltb-false}
use lib.Dec.{ltb}
use lib.ListN.{length, take, drop, length-drop}
use lib.Seq.{length-take-le, get_or-take}
use lib.Ieee.{Float}
use Rattle.lists.specs.Lists.{part, put}
use Rattle.lists.proofs.Parts.{front_less, part_length, put_length, put_drop, part_front, drop_behind}
use Rattle.draws.specs.Counts.{count_of}
use Rattle.draws.specs.Draws.{Drawn, drawn, refused}
use Rattle.draws.specs.declared.Stop.{Stop}
use Rattle.draws.specs.declared.Stop.TheVariants.{Short, DrawOutOfRange, ClusteringFailed}
use Rattle.draws.proofs.Counting.{count_max}
use Rattle.distance.specs.Distance.{Readable, dist_at}
use Rattle.partition.specs.Partition.{State, Partition, joined}
use Rattle.partition.specs.Orders.{Sized, sizes_of}
use Rattle.candidates.specs.Candidates.{Best, nothing, found, best_of}
use Rattle.rng_std.specs.Seeds.{key_of}
use Rattle.rng_std.proofs.Ranges.{word_below}
use Rattle.plusplus_seeded.specs.declared.Source.{Source}
use Rattle.plusplus_seeded.specs.Sources.{words_by, Supplies}
use Rattle.candidates.specs.Steps.{Enough}
use Rattle.candidates.proofs.Sourced.{repeats_long}
use Rattle.base.proofs.Laws.{based_parts}
use Rattle.base.specs.Base.{based, base_of, based_of, BasedBy, Leaves}
use Rattle.improve_merge.specs.Merging.{weak_items}
use Rattle.improve_merge.specs.Steps.{state_of}
use Rattle.row_numbers.specs.Rows.{rows_of}
use Rattle.round.specs.Round.{Opening, started, unstarted, of_best, opening_of, need_of}
use Rattle.round_lists.specs.Steps.{Stored, WeakFound, Room}
use Rattle.round.specs.Made.{own_made, own_given, own_moved}
use Rattle.round.specs.Steps.{round_start, Stood, MayStart, RoundStarted}
use Rattle.round.proofs.Runs.{OpeningTook, opening_took}
use Rattle.round.proofs.Standing.{stands_sized, stands_state}

-- the round's draws fit a word
pub need_fits : (repeats m : ℕ) → repeats ≤ 64 → m ≤ 256 → repeats * count_of m ≤ 13723392
need_fits repeats m h k =
    let a : repeats * count_of m ≤ 64 * count_of m = mul-le-mul_right (count_of m) h in
    omega (arith, count_max m k)

-- the places before the areas fit a word, and there are at least n
pub level_fits : (left n : ℕ) → left ≤ 32 → n ≤ 256 → left * n ≤ 8192
level_fits left n h k = let a : left * n ≤ 32 * n = mul-le-mul_right n h in omega arith

pub level_some : (left n : ℕ) → 1 ≤ left → n ≤ left * n
level_some zero n h = absurd (omega (arith, h))
level_some (suc left) n h = omega (arith, suc-mul left n)

-- what a source stands for: by cases
module _ (src : Source) (draws : List ℕ) (left : ℕ) (h : Stood src draws left) where
  stood_fits : (need : ℕ) → need ≤ 13723392 → length draws < 2 ^ 64 → (src.seeded ≡ false → src.at + need ≤ length draws) → src.at + need < 2 ^ 64
  stood_fits need few long enough = by src.seeded refl
    where
      by : (t : Bool) → src.seeded ≡ t → src.at + need < 2 ^ 64
      by true e = omega (arith, h.passed e)
      by false e = omega (arith, enough e)

  -- it has the draws of a round
  pub stood_supplies : (need : ℕ) → need ≤ 13723392 → length draws < 2 ^ 64 → (src.seeded ≡ false → src.at + need ≤ length draws) → Supplies src draws need
  stood_supplies need few long enough = record { enough = enough; fits = stood_fits need few long enough; early = omega (arith, h.words) }

-- where a list has too few draws, and where a source does not
pub lacks_list : (seeded : Bool) (long at need : ℕ) → cond seeded false (ltb (long - at) need) ≡ true → (seeded ≡ false) × (long - at < need)
lacks_list true long at need h = let z : ◌≡◌ {A = Bool} false true = h in let y : ◌≡◌ {A = ℕ} 0 1 = cc in absurd (omega arith)
lacks_list false long at need h = (refl, ltb-true (long - at) need h)

pub lacks_none : (seeded : Bool) (long at need : ℕ) → cond seeded false (ltb (long - at) need) ≡ false → seeded ≡ false → need ≤ long - at
lacks_none true long at need h e = let y : ◌≡◌ {A = ℕ} 0 1 = cc in absurd (omega arith)
lacks_none false long at need h e = ltb-false (long - at) need h

module _ (book : List Float) (n repeats m : ℕ) (rows : List ℕ) (src : Source) (draws : List ℕ) (len : length rows ≡ m) where
  short_by : (t : Bool) → t ≡ false → length draws - src.at < repeats * count_of m
      → opening_of book n repeats rows src.at (cond t (own_made (words_by src) book n repeats rows src.taken).draws (drop src.at draws)) ≡ unstarted (Short src.at) []
  unfolding opening_of
  short_by true e h = let y : ◌≡◌ {A = ℕ} 0 1 = cc in absurd (omega arith)
  short_by false e h =
      let l : length (drop src.at draws) < need_of repeats m = simp length-drop h in
      rw (len, lt-ltb (length (drop src.at draws)) (need_of repeats m) l)

  pub open_short : src.seeded ≡ false → length draws - src.at < repeats * count_of m
      → opening_of book n repeats rows src.at (own_given src draws book n repeats rows) ≡ unstarted (Short src.at) []
  open_short e h = short_by src.seeded e h

-- the draws of a source for a round are enough
own_by : (src : Source) (draws : List ℕ) (book : List Float) (n repeats : ℕ) (rows : List ℕ) → 0 < length rows → (t : Bool) → (t ≡ false → src.at + need_of repeats (length rows) ≤ length draws)
    → need_of repeats (length rows) ≤ length (cond t (own_made (words_by src) book n repeats rows src.taken).draws (drop src.at draws))
own_by src draws book n repeats rows z true h =
    omega (arith, repeats_long (words_by src) (word_below (key_of src.seed)) (dist_at book n rows) (length rows) z repeats src.taken)
own_by src draws book n repeats rows z false h = simp length-drop (omega (arith, h refl))

pub own_long : (src : Source) (draws : List ℕ) (book : List Float) (n repeats : ℕ) (rows : List ℕ) → 0 < length rows → Supplies src draws (need_of repeats (length rows))
    → need_of repeats (length rows) ≤ length (own_given src draws book n repeats rows)
own_long src draws book n repeats rows z h = own_by src draws book n repeats rows z src.seeded h.enough

module _ (book : List Float) (n m repeats : ℕ) (draws : List ℕ) (src : Source) (left : ℕ) (wi : List ℕ) (wf : List Float) (P : MayStart book n m repeats draws src left wi wf) where
  abbrev rows : List ℕ
  rows = take m wi

  -- its draws, and the source behind them
  abbrev own : List ℕ
  own = own_given src draws book n repeats rows

  abbrev moved : Source
  moved = own_moved src book n repeats rows

  abbrev O : Opening
  O = opening_of book n repeats rows src.at own

  abbrev D : Drawn Best
  D = best_of (dist_at book n rows) (length rows) repeats src.at own

  abbrev limit : ℕ
  limit = left * n + 5 * (n * n)

  rows_len : length rows ≡ m
  rows_len = length-take-le m wi (omega (arith, P.reads.items, P.room))

  pub open_readable : Readable book n rows
  open_readable =
      record {
        few = P.reads.few;
        square = P.reads.square;
        few_read = omega (arith, rows_len, P.reads.items, P.reads.few);
        within = λ k h.
            let l : k < m = omega (arith, h, rows_len) in
            rw (get_or-take m wi k 0 l) (P.reads.rows k l);
      }

  pub open_enough : Enough (length rows) repeats draws src
  open_enough = rw rows_len (record { two = P.reads.two; some = P.reads.some; times = P.reads.times; supplies = P.supplies })

  pub open_area : left * n + 5 * (m * m) ≤ length wf
  open_area = omega (arith, mul-le-mul P.reads.items P.reads.items, P.space)

  -- the areas of the round fit a word
  pub open_word : left * n + 5 * (m * m) ≤ 335872
  open_word =
      let few : m ≤ 256 = omega (arith, P.reads.items, P.reads.few) in
      omega (arith, mul-le-mul few few, level_fits left n P.level P.reads.few)

  opened : O ≡ of_best m D
  unfolding opening_of
  opened =
      let some : 0 < length rows = omega (arith, rows_len, P.reads.two) in
      let e : need_of repeats (length rows) ≤ length own = own_long src draws book n repeats rows some (rw rows_len P.supplies) in
      rw (le-ltb (length own) (need_of repeats (length rows)) e) (ap (λ (k : ℕ). of_best k D) rows_len)

  took : OpeningTook (need_of repeats m) own m O
  took =
      let two : 2 ≤ length rows = omega (arith, rows_len, P.reads.two) in
      subst (λ (k : ℕ). OpeningTook (need_of repeats k) own k O) rows_len (opening_took book n repeats rows src.at own two)

  pub open_part : (k : ℕ) → k ≡ 5 * (m * m) → length (part (left * n) k wf) ≡ k
  open_part k e = part_length (left * n) k wf (omega (arith, e, open_area))

  -- the areas have come back; k is their length as the code has it
  module _ (k : ℕ) (area : List Float) (ek : k ≡ 5 * (m * m)) (len : length area ≡ k) where
    abbrev wf₁ : List Float
    wf₁ = put (left * n) k wf area

    fits : left * n + k ≤ length wf
    fits = omega (arith, ek, open_area)

    pub area_beyond : drop limit wf₁ ≡ drop limit wf
    area_beyond = put_drop (left * n) k wf area fits len limit (omega (arith, ek, mul-le-mul P.reads.items P.reads.items))

    pub area_kept : length wf₁ ≡ length wf
    area_kept = put_length (left * n) k wf area fits len

    of_stopped : (E : Drawn Best) (s : Stop) (next : Source) → O ≡ of_best m E → Err s ≡ based_of (length rows) next E
        → RoundStarted O n m left moved (Err s) wi wi wf wf₁
    of_stopped (drawn nothing rest) s next e a =
        let z : s ≡ ClusteringFailed = cc in
        rw e (record { answer_is = ap Err z; starts = tt; behind = refl; beyond = area_beyond })
    of_stopped (drawn (found c) rest) s next e a = let z : ◌≡◌ {A = ℕ} 0 1 = cc in absurd (omega arith)
    of_stopped (refused p) s next e a =
        let z : s ≡ DrawOutOfRange p = cc in
        rw e (record { answer_is = ap Err z; starts = tt; behind = refl; beyond = area_beyond })

    pub stopped_law : (s : Stop) {next : Source} {o z : List ℕ} {q : List Float} → BasedBy (length rows) D next (Err s) o z q
        → RoundStarted O n m left moved (Err s) wi wi wf wf₁
    stopped_law s {next} h = of_stopped D s next opened h.answer_is

  -- what is known of a base of g groups; `next` is the source behind its draws
  pub record Opened (g : ℕ) (next : Source) (o z : List ℕ) (q : List Float) : Type 0 where
    pub base : State
    pub rest : List ℕ
    pub starts_as : O ≡ started base rest
    pub parts : Partition m base.groups
    pub count : g ≡ length base.groups
    pub next_is : next ≡ moved
    pub ordered : o ≡ joined base.groups
    pub sized : z ≡ sizes_of m base.groups
    pub scored : q ≡ base.scores

  of_done : (E : Drawn Best) (g : ℕ) (next : Source) (o z : List ℕ) (q : List Float) → O ≡ of_best m E → OpeningTook (need_of repeats m) own m (of_best m E)
      → based g next ≡ based_of m moved E → Leaves m E o z q → Opened g next o z q
  of_done (drawn nothing rest) g next o z q e t a l = let y : ◌≡◌ {A = ℕ} 0 1 = cc in absurd (omega arith)
  of_done (drawn (found c) rest) g next o z q e t a l =
      let p = based_parts g (length (base_of m c).groups) next moved a in
      record { base = base_of m c; rest = rest; starts_as = e; parts = t.0; count = p.0; next_is = p.1; ordered = l.ordered; sized = l.sized; scored = l.scored }
  of_done (refused p) g next o z q e t a l = let y : ◌≡◌ {A = ℕ} 0 1 = cc in absurd (omega arith)

  pub opened_law : (g : ℕ) (next : Source) {o z : List ℕ} {q : List Float} → BasedBy (length rows) D moved (based g next) o z q → Opened g next o z q
  opened_law g next {o} {z} {q} h =
      let b : BasedBy m D moved (based g next) o z q =
      subst (λ (k : ℕ). BasedBy k D moved (based g next) o z q) rows_len h in
      of_done D g next o z q opened (subst (OpeningTook (need_of repeats m) own m) opened took) b.answer_is b.leaves

  module _ (g : ℕ) (next : Source) (o z : List ℕ) (q : List Float) (B : Opened g next o z q) (lo : length o ≡ m) (lq : length q ≡ m) where
    pub opened_sized : Sized (length q) g o z
    opened_sized = rw lq (stands_sized m B.base (omega (arith, P.reads.items, P.reads.few)) B.parts B.count B.ordered B.sized)

    state_is : state_of g z o q ≡ B.base
    state_is = stands_state m B.base (omega (arith, P.reads.items, P.reads.few)) B.parts B.count B.ordered B.sized B.scored

    -- the base has been stored, and its weak items marked
    pub started_law : (wf₁ : List Float) (wi₁ : List ℕ) (wf₂ : List Float) (gr it : ℕ) (wi₂ : List ℕ) → drop limit wf₁ ≡ drop limit wf → Stored n o z q wi wi₁ wf₁ wf₂
        → WeakFound n (length q) (state_of g z o q) gr it wi₁ wi₂ → RoundStarted O n m left moved (round_start g gr it next) wi wi₂ wf wf₂
    started_law wf₁ wi₁ wf₂ gr it wi₂ area S M' =
        let M : WeakFound n m B.base gr it wi₁ wi₂ = rw (← state_is, ← lq) M' in
        let rows-first : take m wi₁ ≡ take m wi = front_less n m wi₁ wi P.reads.items S.rows-kept in
        rw B.starts_as (record {
          answer_is = rw (B.count, M.groups_are, M.items_are, B.next_is) refl;
          starts = (
            front_less (3 * n) m wi₂ wi₁ (omega (arith, P.reads.items)) M.front ∙ rows-first,
            record {
              order_at = part_front (3 * n) n m wi₂ wi₁ (omega (arith, P.reads.items)) M.front ∙ ap (λ (k : ℕ). part n k wi₁) (sym lo) ∙ S.order_at ∙ B.ordered;
              sizes_at =
                  part_front (3 * n) (2 * n) m wi₂ wi₁ (omega (arith, P.reads.items)) M.front ∙ ap (λ (k : ℕ). part (2 * n) k wi₁) (sym lo) ∙ S.sizes_at ∙ B.sized;
              scores_at = ap (λ (k : ℕ). take k wf₂) (sym lo) ∙ S.scores_at ∙ B.scored;
            },
            M.rows_at ∙ ap (λ (l : List ℕ). rows_of l (weak_items B.base)) rows-first,
          );
          behind = M.behind ∙ drop_behind (3 * n) (4 * n) wi₁ wi (omega arith) S.behind;
          beyond = drop_behind n limit wf₂ wf₁ (omega (arith, level_some left n P.one)) S.beyond ∙ area;
        })

  pub open_room : (wf₁ : List Float) (o : List ℕ) → length o ≡ m → length wf₁ ≡ length wf → Room n (length o) wi wf₁
  open_room wf₁ o lo lf =
      rw lo (record {
        items = P.reads.items;
        few = P.reads.few;
        room = omega (arith, P.room);
        space = omega (arith, lf, P.space, level_some left n P.one);
      })
