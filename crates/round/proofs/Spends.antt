-- What a run takes of its draws: each round exactly its count, from the front; no more rounds than are left, each of no more items than the one
-- before; and nothing depends on the draws behind.
use Prim.Native.Nat.{ℕ, zero, suc, ◌+◌, ◌-◌, ◌*◌, ◌<◌, ◌≤◌, zero-le}
use mathlib.Core.Path.{◌≡◌, refl, sym, ◌∙◌, ap, subst}
use mathlib.Core.Bool.{Bool, true, false, cond}
use mathlib.Core.List.{List, [], ◌∷◌, ◌++◌}
use native.Mathlib.Nat.{suc-mul, mul-le-mul_left, not-suc-le-zero}
use native.Mathlib.Omega.{arith}
use borrow.Author.Tests.{le-ltb, ltb-true, ltb-false, leb-true, leb-false}
use lib.Dec.{ltb, leb}
use lib.ListN.{length, take, drop, length-drop, length-take, length-map, take-append-drop}
use lib.Seq.{drop-drop, length-take-le}
use lib.Ieee.{Float}
use Rattle.lists.specs.Lists.{numbers}
use Rattle.lists.proofs.Parts.{part_front}
use Rattle.draws.specs.Draws.{Drawn, drawn, refused}
use Rattle.draws.specs.declared.Stop.TheVariants.{Rounds, Short, DrawOutOfRange, ClusteringFailed}
use Rattle.draws.proofs.Counting.{count_mono}
use Rattle.draws.proofs.Taken.{Ends, behind}
use Rattle.distance.specs.Distance.{dist_at}
use Rattle.partition.specs.Partition.{State}
use Rattle.candidates.specs.Candidates.{Candidate, Best, nothing, found, best_of}
use Rattle.base.specs.Base.{base_of}
use Rattle.improve_merge.specs.Merging.{weak_items}
use Rattle.improve.specs.Improve.{better_of}
use Rattle.row_numbers.specs.Rows.{rows_of}
use Rattle.round.specs.Round.{Run, done, ended, Opening, started, unstarted, of_best, opening_of, after_opening, round_of, need_of, after_inner, total_of}
use Rattle.candidates.proofs.Laws.{best_took, best_behind, Found}
use Rattle.improve_merge.proofs.Merged.{weak_few, weak_many}
use Rattle.round.proofs.Runs.{weak_in, OpeningTook, opening_took, round_kept, round_again}

-- no round has more than m items
abbrev pub Few : ℕ → List ℕ → Type 0
Few m ms = (j : ℕ) → j < length ms → numbers ms j ≤ m

-- the search of a round over these items, after rounds that took the draws in front of its own
abbrev pub search_of : List Float → ℕ → ℕ → ℕ → List ℕ → (before items : List ℕ) → Drawn Best
search_of book n repeats read ds before items =
    best_of (dist_at book n items) (length items) repeats (read + total_of repeats before) (drop (total_of repeats before) ds)

-- a round over `items` is reached after rounds of `before` items from one over `rows`, which starts with the draws ds, `read` having been read: each
-- round between is over the items of the weak groups of the base before it, of which there are more than two
pub data ReachedFrom (book : List Float) (n repeats : ℕ) (rows : List ℕ) (read : ℕ) (ds : List ℕ) : List ℕ → List ℕ → Type 0 where
  start : ReachedFrom book n repeats rows read ds [] rows
  further : (before items : List ℕ) (k : Candidate) (rest : List ℕ) → 2 ≤ length items → ReachedFrom book n repeats rows read ds before items
      → search_of book n repeats read ds before items ≡ drawn (found k) rest → 2 < weak_in (base_of (length items) k)
      → ReachedFrom book n repeats rows read ds (before ++ (length items ∷ [])) (rows_of items (weak_items (base_of (length items) k)))

-- a run that ends in a partition
pub record Finished (book : List Float) (n repeats left : ℕ) (rows : List ℕ) (read : ℕ) (ds : List ℕ) (s : State) (ms : List ℕ) (last : ℕ) (rest : List ℕ) : Type 0 where
  -- it read the draws of its rounds
  pub place : last ≡ read + total_of repeats ms
  -- at most the first round's count for each round left
  pub most : total_of repeats ms ≤ left * need_of repeats (length rows)
  -- they were there
  pub enough : total_of repeats ms ≤ length ds
  -- those behind remain
  pub remain : rest ≡ drop (total_of repeats ms) ds
  -- no more rounds than were left
  pub count : length ms ≤ left
  -- each of no more items than the first
  pub few : Few (length rows) ms
  -- the last round was reached, and its base, of a candidate that it found, has two weak groups or fewer
  pub before : List ℕ
  pub items : List ℕ
  pub best : Candidate
  pub rounds : ms ≡ before ++ (length items ∷ [])
  pub reached : ReachedFrom book n repeats rows read ds before items
  pub cause : search_of book n repeats read ds before items ≡ drawn (found best) rest
  pub kept : weak_in (base_of (length items) best) ≤ 2
  -- and draws that begin alike give the same
  pub same : (ds' : List ℕ) → take (total_of repeats ms) ds' ≡ take (total_of repeats ms) ds → round_of book n repeats left rows read ds' ≡ done s ms last (drop (total_of repeats ms) ds')

-- a run that ends with 7, k being its place
pub record TooFew (book : List Float) (n repeats left : ℕ) (rows : List ℕ) (read : ℕ) (ds : List ℕ) (k : ℕ) (ms : List ℕ) : Type 0 where
  -- the place is the draws of the rounds that started
  pub place : k ≡ read + total_of repeats ms
  pub enough : total_of repeats ms ≤ length ds
  -- the first round's count for each round left would have been enough
  pub least : length ds < left * need_of repeats (length rows)
  pub count : length ms < left
  pub few : Few (length rows) ms
  -- the items of the round that was reached and did not start, for which too few draws remain
  pub items : List ℕ
  pub reached : ReachedFrom book n repeats rows read ds ms items
  pub short : length ds < total_of repeats ms + need_of repeats (length items)

-- a run that ends with 8, p being the place of the draw
pub record BadDraw (book : List Float) (n repeats left : ℕ) (rows : List ℕ) (read : ℕ) (ds : List ℕ) (p : ℕ) (ms : List ℕ) : Type 0 where
  -- the rounds before the last, and the items of the last, as rows of the book
  pub before : List ℕ
  pub items : List ℕ
  pub rounds : ms ≡ before ++ (length items ∷ [])
  pub reached : ReachedFrom book n repeats rows read ds before items
  -- the last round's search met the draw
  pub cause : search_of book n repeats read ds before items ≡ refused p
  -- the draw is one of the last round's
  pub from : read + total_of repeats before ≤ p
  pub to : p < read + total_of repeats ms
  pub enough : total_of repeats ms ≤ length ds
  -- that round has two items or more
  pub some : 2 ≤ length items
  pub count : length ms ≤ left
  pub few : Few (length rows) ms

-- a run that ends with 9
pub record NoRound (book : List Float) (n repeats left : ℕ) (rows : List ℕ) (read : ℕ) (ds ms : List ℕ) : Type 0 where
  pub count : length ms ≡ left
  pub enough : total_of repeats ms ≤ length ds
  pub few : Few (length rows) ms
  -- the items of the round that was reached and did not start
  pub items : List ℕ
  pub reached : ReachedFrom book n repeats rows read ds ms items

-- the claim of one round, from the draws read before it; that no round ends with 3 is in certain_runs
abbrev pub Spends : List Float → ℕ → ℕ → ℕ → List ℕ → ℕ → List ℕ → Run → Type 0
Spends book n repeats left rows read ds (done s ms last rest) = Finished book n repeats left rows read ds s ms last rest
Spends book n repeats left rows read ds (ended (Short k) ms) = TooFew book n repeats left rows read ds k ms
Spends book n repeats left rows read ds (ended (DrawOutOfRange p) ms) = BadDraw book n repeats left rows read ds p ms
Spends book n repeats left rows read ds (ended Rounds ms) = NoRound book n repeats left rows read ds ms
Spends book n repeats left rows read ds (ended ClusteringFailed ms) = Unit

-- the draws of no round, of one, and of one more
pub draws_none : (repeats : ℕ) → total_of repeats [] ≡ 0
unfolding total_of
draws_none repeats = refl

pub draws_more : (repeats m : ℕ) (ms : List ℕ) → total_of repeats (m ∷ ms) ≡ need_of repeats m + total_of repeats ms
unfolding total_of
draws_more repeats m ms = refl

pub draws_one : (repeats m : ℕ) → total_of repeats (m ∷ []) ≡ need_of repeats m
draws_one repeats m = omega (arith, draws_more repeats m [], draws_none repeats)

few_none : (m : ℕ) → Few m []
few_none m j h = absurd (not-suc-le-zero h)

few_more : (m w : ℕ) (ms : List ℕ) → w ≤ m → Few w ms → Few m (m ∷ ms)
few_more m w ms h f zero l = omega arith
few_more m w ms h f (suc j) l = let i : j < length ms = omega arith in omega (arith, f j i, h)

few_one : (m : ℕ) → Few m (m ∷ [])
few_one m = few_more m 0 [] zero-le (few_none 0)

-- fewer items need no more draws
pub need_mono : (repeats w m : ℕ) → w ≤ m → need_of repeats w ≤ need_of repeats m
need_mono repeats w m h = mul-le-mul_left repeats (count_mono w m h)

-- a round's own count is part of `left` times it
one_of : (left a : ℕ) → a ≤ suc left * a
one_of left a = omega (arith, suc-mul left a)

-- draws that begin alike have room for as many
same_room : (c : ℕ) (ds ds' : List ℕ) → c ≤ length ds → take c ds' ≡ take c ds → c ≤ length ds'
same_room c ds ds' h e = omega (arith, length-take c ds', ap length e, length-take-le c ds h)

best_same : (q q' : List ℕ) (D : Drawn Best) (c : Candidate) (rest : List ℕ) → behind q D ≡ drawn (found c) rest → (r : List ℕ) × (behind q' D ≡ drawn (found c) r)
best_same q q' (drawn b r) c rest e = (r ++ q', let z : b ≡ found c = cc in rw z refl)
best_same q q' (refused p) c rest e = let z : ◌≡◌ {A = ℕ} 0 1 = cc in let y : ⊥ = omega arith in absurd y

of_started : (m : ℕ) (D : Drawn Best) (base : State) (rest : List ℕ) → of_best m D ≡ started base rest → (c : Candidate) × (D ≡ drawn (found c) rest) × (base_of m c ≡ base)
of_started m (drawn nothing r) base rest e = let z : ◌≡◌ {A = ℕ} 0 1 = cc in let y : ⊥ = omega arith in absurd y
of_started m (drawn (found c) r) base rest e = (c, (let z : r ≡ rest = cc in rw z refl), cc)
of_started m (refused p) base rest e = let z : ◌≡◌ {A = ℕ} 0 1 = cc in let y : ⊥ = omega arith in absurd y

-- a round that starts does so alike on every list of draws that begins alike
module _ (book : List Float) (n repeats : ℕ) (rows : List ℕ) (read : ℕ) (some : 2 ≤ length rows) where
  abbrev own : ℕ
  own = need_of repeats (length rows)

  abbrev best_at : List ℕ → Drawn Best
  best_at ds = best_of (dist_at book n rows) (length rows) repeats read ds

  of_opening : (ds : List ℕ) → own ≤ length ds → opening_of book n repeats rows read ds ≡ of_best (length rows) (best_at ds)
  unfolding opening_of
  of_opening ds h = rw (le-ltb (length ds) own h)

  split : (ds : List ℕ) → own ≤ length ds → best_at ds ≡ behind (drop own ds) (best_at (take own ds))
  split ds h =
      ap best_at (sym (take-append-drop own ds))
      ∙ best_behind (dist_at book n rows) (length rows) repeats some read (take own ds) (drop own ds) (omega (arith, length-take-le own ds h))

  pub opening_same : (ds ds' : List ℕ) (base : State) (rest : List ℕ) → own ≤ length ds → take own ds' ≡ take own ds
      → opening_of book n repeats rows read ds ≡ started base rest → opening_of book n repeats rows read ds' ≡ started base (drop own ds')
  opening_same ds ds' base rest h e o =
      let h' : own ≤ length ds' = same_room own ds ds' h e in
      let b = of_started (length rows) (best_at ds) base rest (sym (of_opening ds h) ∙ o) in
      let x = best_same (drop own ds) (drop own ds') (best_at (take own ds)) b.0 rest (sym (split ds h) ∙ b.1) in
      let d' : best_at ds' ≡ drawn (found b.0) x.0 = split ds' h' ∙ ap (λ (p : List ℕ). behind (drop own ds') (best_at p)) e ∙ x.1 in
      let o' : opening_of book n repeats rows read ds' ≡ started base x.0 =
      of_opening ds' h' ∙ ap (of_best (length rows)) d' ∙ ap (λ (s : State). started s x.0) b.2 in
      let t : OpeningTook own ds' (length rows) (started base x.0) =
      subst (OpeningTook own ds' (length rows)) o' (opening_took book n repeats rows read ds' some) in
      o' ∙ ap (started base) t.2

module _ (book : List Float) (n repeats left : ℕ) (rows : List ℕ) (read : ℕ) (ds : List ℕ) (some : 2 ≤ length rows) where
  abbrev m : ℕ
  m = length rows

  abbrev c : ℕ
  c = need_of repeats (length rows)

  -- the search of the first round
  at_first : search_of book n repeats read ds [] rows ≡ best_of (dist_at book n rows) m repeats read ds
  at_first = let z : read + 0 ≡ read = omega arith in rw (draws_none repeats, z) refl

  module _ (base : State) (rest : List ℕ) (o : opening_of book n repeats rows read ds ≡ started base rest) where
    abbrev inner : List ℕ
    inner = rows_of rows (weak_items base)

    T : OpeningTook c ds m (started base rest)
    T = subst (OpeningTook c ds m) o (opening_took book n repeats rows read ds some)

    -- the candidate whose groups are the base
    source : (k : Candidate) × (best_of (dist_at book n rows) m repeats read ds ≡ drawn (found k) rest) × (base_of m k ≡ base)
    source = of_started m (best_of (dist_at book n rows) m repeats read ds) base rest (sym (of_opening book n repeats rows read some ds T.3) ∙ o)

    remains : c + length rest ≡ length ds
    remains = let l : length rest ≡ length ds - c = ap length T.2 ∙ length-drop c ds in omega (arith, l, T.3)

    fewer : length inner ≤ m
    fewer = omega (arith, length-map (weak_items base) (numbers rows), weak_few m base T.0)

    less : need_of repeats (length inner) ≤ c
    less = need_mono repeats (length inner) m fewer

    pub inner_some : 2 < weak_in base → 2 ≤ length inner
    inner_some h = omega (arith, length-map (weak_items base) (numbers rows), weak_many m base T.0)

    kept_spends : weak_in base ≤ 2 → Finished book n repeats (suc left) rows read ds base (m ∷ []) (read + c) rest
    kept_spends h =
        let z : total_of repeats (m ∷ []) ≡ c = draws_one repeats m in
        record {
          place = omega (arith, z);
          most = omega (arith, z, one_of left c);
          enough = omega (arith, z, T.3);
          remain = T.2 ∙ ap (λ (k : ℕ). drop k ds) (sym z);
          count = omega arith;
          few = few_one m;
          before = [];
          items = rows;
          best = source.0;
          rounds = refl;
          reached = start;
          cause = at_first ∙ source.1;
          kept = subst (λ (b : State). weak_in b ≤ 2) (sym source.2) h;
          same = λ ds' e.
              let e' : take c ds' ≡ take c ds = ap (λ (k : ℕ). take k ds') (sym z) ∙ e ∙ ap (λ (k : ℕ). take k ds) z in
              round_kept book n repeats left rows read ds' base (drop c ds') (opening_same book n repeats rows read some ds ds' base rest T.3 e' o) h
              ∙ ap (λ (k : ℕ). done base (m ∷ []) (read + c) (drop k ds')) (sym z);
        }

    -- the last round's search, from the draws of this round on
    inner_cause : (before items : List ℕ) (D : Drawn Best) → search_of book n repeats (read + c) rest before items ≡ D → search_of book n repeats read ds (m ∷ before) items ≡ D
    inner_cause before items D h =
        let k = total_of repeats before in
        let z : total_of repeats (m ∷ before) ≡ c + k = draws_more repeats m before in
        let at : read + total_of repeats (m ∷ before) ≡ read + c + k = omega (arith, z) in
        let behind-it : drop (total_of repeats (m ∷ before)) ds ≡ drop k rest =
        ap (λ (i : ℕ). drop i ds) z ∙ sym (drop-drop k c ds) ∙ ap (drop k) (sym T.2) in
        ap (λ (i : ℕ). best_of (dist_at book n items) (length items) repeats i (drop (total_of repeats (m ∷ before)) ds)) at
        ∙ ap (best_of (dist_at book n items) (length items) repeats (read + c + k)) behind-it
        ∙ h

    -- what is reached from the round within is reached from this one
    inner_reached : 2 < weak_in base → {before items : List ℕ} → ReachedFrom book n repeats inner (read + c) rest before items
        → ReachedFrom book n repeats rows read ds (m ∷ before) items
    inner_reached h start =
        subst (λ (b : State). ReachedFrom book n repeats rows read ds (m ∷ []) (rows_of rows (weak_items b))) source.2
        (further [] rows source.0 rest some start (at_first ∙ source.1) (subst (λ (b : State). 2 < weak_in b) (sym source.2) h))
    inner_reached h (further before items k r two l q w) =
        further (m ∷ before) items k r two (inner_reached h l) (inner_cause before items (drawn (found k) r) q) w

    -- the claim of the round within, carried out
    inner_spends : 2 < weak_in base → (r : Run) → Spends book n repeats left inner (read + c) rest r
        → Spends book n repeats (suc left) rows read ds (after_inner (dist_at book n rows) m base r)
    inner_spends h (ended Rounds ms) s =
        record {
          count = omega (arith, s.count);
          enough = omega (arith, draws_more repeats m ms, s.enough, remains);
          few = few_more m (length inner) ms fewer s.few;
          items = s.items;
          reached = inner_reached h s.reached;
        }
    inner_spends h (ended ClusteringFailed ms) s = tt
    inner_spends h (ended (Short k) ms) s =
        let z = draws_more repeats m ms in
        let most : left * need_of repeats (length inner) ≤ left * c = mul-le-mul_left left less in
        record {
          place = omega (arith, z, s.place);
          enough = omega (arith, z, s.enough, remains);
          least = omega (arith, s.least, most, remains, suc-mul left c);
          count = omega (arith, s.count);
          few = few_more m (length inner) ms fewer s.few;
          items = s.items;
          reached = inner_reached h s.reached;
          short = omega (arith, z, s.short, remains);
        }
    inner_spends h (ended (DrawOutOfRange p) ms) s =
        let z = draws_more repeats m ms in
        let y = draws_more repeats m s.before in
        record {
          before = m ∷ s.before;
          items = s.items;
          rounds = ap (λ (l : List ℕ). m ∷ l) s.rounds;
          reached = inner_reached h s.reached;
          cause = inner_cause s.before s.items (refused p) s.cause;
          from = omega (arith, y, s.from);
          to = omega (arith, z, s.to);
          enough = omega (arith, z, s.enough, remains);
          some = s.some;
          count = omega (arith, s.count);
          few = few_more m (length inner) ms fewer s.few;
        }
    inner_spends h (done b ms last rest') s =
        let k = total_of repeats ms in
        let z : total_of repeats (m ∷ ms) ≡ c + k = draws_more repeats m ms in
        let most : left * need_of repeats (length inner) ≤ left * c = mul-le-mul_left left less in
        record {
          place = omega (arith, z, s.place);
          most = omega (arith, z, s.most, most, suc-mul left c);
          enough = omega (arith, z, s.enough, remains);
          remain = s.remain ∙ ap (drop k) T.2 ∙ drop-drop k c ds ∙ ap (λ (i : ℕ). drop i ds) (sym z);
          count = omega (arith, s.count);
          few = few_more m (length inner) ms fewer s.few;
          before = m ∷ s.before;
          items = s.items;
          best = s.best;
          rounds = ap (λ (l : List ℕ). m ∷ l) s.rounds;
          reached = inner_reached h s.reached;
          cause = inner_cause s.before s.items (drawn (found s.best) rest') s.cause;
          kept = s.kept;
          same = λ ds' e.
              let e' : take (c + k) ds' ≡ take (c + k) ds = ap (λ (i : ℕ). take i ds') (sym z) ∙ e ∙ ap (λ (i : ℕ). take i ds) z in
              let front : take c ds' ≡ take c ds = part_front (c + k) 0 c ds' ds (omega arith) e' in
              let later : take k (drop c ds') ≡ take k rest = part_front (c + k) c k ds' ds (omega arith) e' ∙ ap (take k) (sym T.2) in
              round_again book n repeats left rows read ds' base (drop c ds') (opening_same book n repeats rows read some ds ds' base rest T.3 front o) h
              ∙ ap (after_inner (dist_at book n rows) m base) (s.same (drop c ds') later)
              ∙ ap (λ (l : List ℕ). done (better_of (dist_at book n rows) m base b.groups) (m ∷ ms) last l) (drop-drop k c ds' ∙ ap (λ (i : ℕ). drop i ds') (sym z));
        }

  -- the round's own stop
  Stops : Opening → Type 0
  Stops (started base rest) = Unit
  Stops (unstarted s ms) = Spends book n repeats (suc left) rows read ds (ended s ms)

  stops : Stops (opening_of book n repeats rows read ds)
  unfolding opening_of Stops
  stops = by_test (ltb (length ds) c) refl
    where
      one : total_of repeats (m ∷ []) ≡ c
      one = draws_one repeats m

      of_best_lem : (D : Drawn Best) → best_of (dist_at book n rows) m repeats read ds ≡ D → c ≤ length ds → Ends (λ b l. Found (dist_at book n rows) m b × (l ≡ drop c ds) × (c ≤ length ds)) (λ p. (read ≤ p) × (p < read + c)) D
          → Stops (of_best m D)
      of_best_lem (drawn nothing l) q e h = tt
      of_best_lem (drawn (found k) l) q e h = tt
      of_best_lem (refused p) q e h =
          record {
            before = [];
            items = rows;
            rounds = refl;
            reached = start;
            cause = at_first ∙ q;
            from = omega (arith, draws_none repeats, h.0);
            to = omega (arith, one, h.1);
            enough = omega (arith, one);
            some = some;
            count = omega arith;
            few = few_one m;
          }

      short : length ds < c → TooFew book n repeats (suc left) rows read ds read []
      short h =
          record {
            place = omega (arith, draws_none repeats);
            enough = omega (arith, draws_none repeats);
            least = omega (arith, one_of left c);
            count = omega arith;
            few = few_none m;
            items = rows;
            reached = start;
            short = omega (arith, draws_none repeats);
          }

      by_test : (t : Bool) → ltb (length ds) c ≡ t → Stops (cond t (unstarted (Short read) []) (of_best m (best_of (dist_at book n rows) m repeats read ds)))
      by_test true e = short (ltb-true (length ds) c e)
      by_test false e =
          let h : c ≤ length ds = ltb-false (length ds) c e in
          of_best_lem (best_of (dist_at book n rows) m repeats read ds) refl h (best_took (dist_at book n rows) m repeats some read ds)

  abbrev Before : Type 0
  Before = (rows : List ℕ) (read : ℕ) (ds : List ℕ) → 2 ≤ length rows → Spends book n repeats left rows read ds (round_of book n repeats left rows read ds)

  started_spends : Before → (base : State) (rest : List ℕ) → opening_of book n repeats rows read ds ≡ started base rest → (t : Bool) → leb (weak_in base) 2 ≡ t
      → Spends book n repeats (suc left) rows read ds
      (cond t (done base (m ∷ []) (read + c) rest) (after_inner (dist_at book n rows) m base (round_of book n repeats left (rows_of rows (weak_items base)) (read + c) rest)))
  started_spends ih base rest o true e = kept_spends base rest o (leb-true (weak_in base) 2 e)
  started_spends ih base rest o false e =
      let h : 2 < weak_in base = leb-false (weak_in base) 2 e in
      inner_spends base rest o h (round_of book n repeats left (rows_of rows (weak_items base)) (read + c) rest)
      (ih (rows_of rows (weak_items base)) (read + c) rest (inner_some base rest o h))

  step : Before → (o : Opening) → opening_of book n repeats rows read ds ≡ o → Stops o
      → Spends book n repeats (suc left) rows read ds (after_opening (round_of book n repeats left) book n rows (read + c) o)
  unfolding after_opening Stops
  step ih (unstarted s ms) e h = h
  step ih (started base rest) e h = started_spends ih base rest e (leb (weak_in base) 2) refl

pub spends : (book : List Float) (n repeats left : ℕ) (rows : List ℕ) (read : ℕ) (ds : List ℕ) → 2 ≤ length rows
    → Spends book n repeats left rows read ds (round_of book n repeats left rows read ds)
unfolding round_of
spends book n repeats zero rows read ds some = record { count = refl; enough = omega (arith, draws_none repeats); few = few_none (length rows); items = rows; reached = start }
spends book n repeats (suc left) rows read ds some =
    step book n repeats left rows read ds some (spends book n repeats left) (opening_of book n repeats rows read ds) refl
    (stops book n repeats left rows read ds some)
