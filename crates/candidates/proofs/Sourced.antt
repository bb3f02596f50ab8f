-- The candidates of a round, with the draws of a source: what a source has and where it stands behind some draws, how many draws and words there are, that a
-- generator's draws are never refused, and the turns of the two loops.
use Prim.Native.Nat.{ℕ, zero, suc, ◌+◌, ◌*◌, ◌^◌, ◌<◌, ◌≤◌}
use mathlib.Core.Path.{◌≡◌, refl, sym, ◌∙◌, ap}
use mathlib.Core.Bool.{Bool, true, false, cond}
use mathlib.Core.List.{List, ◌++◌, append_assoc}
use native.Mathlib.Nat.{suc-mul, zero-mul}
use native.Mathlib.Omega.{arith}
use lib.ListN.{length, drop, length-append}
use lib.Ieee.{Float}
use Rattle.distance_columns.specs.Pair.{squared_at}
use Rattle.distance_columns.proofs.Steps.{squared_same}
use Rattle.draws.specs.Counts.{seeding_of, seedings_of, count_of, tries}
use Rattle.draws.specs.Draws.{Drawn, drawn, refused, and_then}
use Rattle.draws.proofs.Taken.{Ends, Among, behind, ends_map}
use Rattle.rng_std.specs.Seeds.{key_of}
use Rattle.rng_std.proofs.Ranges.{word_below}
use Rattle.plusplus_seeded.specs.Seeded.{Made, seed_made}
use Rattle.plusplus_seeded.specs.declared.Source.{Source}
use Rattle.plusplus_seeded.specs.Sources.{words_by, moved_on, Supplies, seed_draws, seed_next}
use Rattle.plusplus_seeded.proofs.Made.{seed_made_lem, seed_long, seed_few}
use Rattle.plusplus_seeded.proofs.Same.{seed_same}
use Rattle.plusplus_seeded.proofs.Supplies.{step_drawn, step_refused}
use Rattle.kmeans.specs.Steps.{seed_given, seed_moved}
use Rattle.lists.specs.Lists.{numbers}
use Rattle.lloyd_pass.specs.Passes.{lloyd_labels, lloyd_ended}
use Rattle.kmeans.specs.Clustering.{Grouped, kmeans_of}
use Rattle.candidates.specs.Candidates.{Best, nothing, keep, candidate_of, tries_from, repeats_from, best_of}
use Rattle.candidates.specs.Made.{Stretch, before, tries_made, repeats_made, tries_given, tries_moved, repeat_moved, repeats_given, repeats_moved}
use Rattle.candidates.proofs.Laws.{count_is, tries_more, tries_took, tries_behind, repeat_took}

-- a source that has a + c draws: it has a, and behind them c
pub supplies_front : {src : Source} {draws : List ℕ} (a c : ℕ) → Supplies src draws (a + c) → Supplies src draws a
supplies_front a c h = record { enough = λ e. omega (arith, h.enough e); fits = omega (arith, h.fits); early = omega (arith, h.early) }

taken_few : (t : Bool) (i y a c : ℕ) → y ≤ i + 2 * a → i + 2 * (a + c) < 2 ^ 59 → cond t y i + 2 * c < 2 ^ 59
taken_few true i y a c h l = omega (arith, h, l)
taken_few false i y a c h l = omega (arith, l)

pub supplies_behind : {src : Source} {draws : List ℕ} (a c : ℕ) (next : ℕ → ℕ) → ((i : ℕ) → next i ≤ i + 2 * a) → Supplies src draws (a + c) → Supplies (moved_on src a next) draws c
supplies_behind {src} {draws} a c next few h =
    record {
      enough = λ e. omega (arith, h.enough e);
      fits = omega (arith, h.fits);
      early = taken_few src.seeded src.taken (next src.taken) a c (few src.taken) h.early;
    }

-- the source behind a draws and then c more, and behind none
moved_taken : (t : Bool) (i : ℕ) (f g : ℕ → ℕ) → cond t (g (f i)) i ≡ cond t (g (cond t (f i) i)) (cond t (f i) i)
moved_taken true i f g = refl
moved_taken false i f g = refl

pub moved_both : (src : Source) (a c : ℕ) (f g : ℕ → ℕ) → moved_on src (a + c) (λ i. g (f i)) ≡ moved_on (moved_on src a f) c g
moved_both src a c f g =
    let n : src.at + (a + c) ≡ src.at + a + c = omega arith in
    ap (λ (y : ℕ). record { at = y; seeded = src.seeded; seed = src.seed; taken = cond src.seeded (g (f src.taken)) src.taken }) n
    ∙ ap (λ (y : ℕ). record { at = src.at + a + c; seeded = src.seeded; seed = src.seed; taken = y }) (moved_taken src.seeded src.taken f g)

same_taken : (t : Bool) (i : ℕ) → cond t i i ≡ i
same_taken true i = refl
same_taken false i = refl

pub moved_none : (src : Source) → moved_on src 0 (λ i. i) ≡ src
moved_none src =
    let n : src.at + 0 ≡ src.at = omega arith in
    ap (λ (y : ℕ). record { at = y; seeded = src.seeded; seed = src.seed; taken = cond src.seeded src.taken src.taken }) n
    ∙ ap (λ (y : ℕ). record { at = src.at; seeded = src.seeded; seed = src.seed; taken = y }) (same_taken src.seeded src.taken)

-- how many draws there are, and how many words at most
module _ (w : ℕ → ℕ) (small : (i : ℕ) → w i < 2 ^ 32) (x : ℕ → ℕ → Float) (m : ℕ) (z : 0 < m) where
  pub tries_long : (j k i : ℕ) → 0 < k → length (tries_made w x m k j i).draws ≡ seedings_of k j
  unfolding tries_made seedings_of
  tries_long zero k i some = refl
  tries_long (suc j) k i some =
      let s = seed_made w (squared_at x m) m k i in
      length-append s.draws (tries_made w x m (suc k) j s.next).draws
      ∙ omega (arith, seed_long w small (squared_at x m) m k z some i, tries_long j (suc k) s.next (omega arith))

  pub tries_words : (j k i : ℕ) → (tries_made w x m k j i).next ≤ i + 2 * seedings_of k j
  unfolding tries_made seedings_of
  tries_words zero k i = omega arith
  tries_words (suc j) k i =
      let s = seed_made w (squared_at x m) m k i in
      omega (arith, seed_few w small (squared_at x m) m k z i, tries_words j (suc k) s.next)

  pub repeat_long : (i : ℕ) → length (tries_made w x m 2 (tries m) i).draws ≡ count_of m
  repeat_long i = tries_long (tries m) 2 i (omega arith) ∙ sym (count_is m)

  pub repeats_long : (r i : ℕ) → length (repeats_made w x m r i).draws ≡ r * count_of m
  unfolding repeats_made
  repeats_long zero i = sym (zero-mul (count_of m))
  repeats_long (suc r) i =
      let t = tries_made w x m 2 (tries m) i in
      length-append t.draws (repeats_made w x m r t.next).draws
      ∙ omega (arith, repeat_long i, repeats_long r t.next, suc-mul r (count_of m))

  pub repeat_words : (i : ℕ) → (tries_made w x m 2 (tries m) i).next ≤ i + 2 * count_of m
  repeat_words i = omega (arith, tries_words (tries m) 2 i, count_is m)

  pub repeats_words : (r i : ℕ) → (repeats_made w x m r i).next ≤ i + 2 * (r * count_of m)
  unfolding repeats_made
  repeats_words zero i = omega arith
  repeats_words (suc r) i =
      let t = tries_made w x m 2 (tries m) i in
      omega (arith, repeat_words i, repeats_words r t.next, suc-mul r (count_of m))

-- items whose columns agree below m take the same draws
module _ (x y : ℕ → ℕ → Float) (m : ℕ) (z : 0 < m) (agree : (i c : ℕ) → i < m → c < m → x i c ≡ y i c) where
  module _ (w : ℕ → ℕ) (small : (i : ℕ) → w i < 2 ^ 32) where
    tries_alike : (j k i : ℕ) → tries_made w x m k j i ≡ tries_made w y m k j i
    unfolding tries_made
    tries_alike zero k i = refl
    tries_alike (suc j) k i =
        let s = seed_made w (squared_at y m) m k i in
        ap (λ (t : Made). before t.draws (tries_made w x m (suc k) j t.next)) (seed_same w small m z (squared_at x m) (squared_at y m) (λ p c h l. squared_same x y m p c agree h l) k i)
        ∙ ap (before s.draws) (tries_alike j (suc k) s.next)

    pub repeats_alike : (r i : ℕ) → repeats_made w x m r i ≡ repeats_made w y m r i
    unfolding repeats_made
    repeats_alike zero i = refl
    repeats_alike (suc r) i =
        let t = tries_made w y m 2 (tries m) i in
        ap (λ (s : Stretch). before s.draws (repeats_made w x m r s.next)) (tries_alike (tries m) 2 i)
        ∙ ap (before t.draws) (repeats_alike r t.next)

  module _ (r : ℕ) (src : Source) where
    made_alike : repeats_made (words_by src) x m r src.taken ≡ repeats_made (words_by src) y m r src.taken
    made_alike = repeats_alike (words_by src) (word_below (key_of src.seed)) r src.taken

    pub given_alike : (draws : List ℕ) → repeats_given x m r src draws ≡ repeats_given y m r src draws
    given_alike draws = ap (λ (s : Stretch). cond src.seeded s.draws (drop src.at draws)) made_alike

    pub moved_alike : repeats_moved x m r src ≡ repeats_moved y m r src
    moved_alike = ap (λ (s : Stretch). record { at = src.at + r * count_of m; seeded = src.seeded; seed = src.seed; taken = cond src.seeded s.next src.taken }) made_alike

-- k-means on the draws of its seeding, at whatever place and whatever stands behind them
abbrev grouped_by : (w : ℕ → ℕ) (x : ℕ → ℕ → Float) (m k i : ℕ) → Grouped
grouped_by w x m k i =
    let cs = (seed_made w (squared_at x m) m k i).centres in
    record { labels = lloyd_labels x m k (numbers cs); ended = lloyd_ended x m k (numbers cs) }

module _ (w : ℕ → ℕ) (small : (i : ℕ) → w i < 2 ^ 32) (x : ℕ → ℕ → Float) (m : ℕ) (z : 0 < m) where
  pub kmeans_made : (k i at : ℕ) (rest : List ℕ) → kmeans_of x m k at ((seed_made w (squared_at x m) m k i).draws ++ rest) ≡ drawn (grouped_by w x m k i) rest
  unfolding kmeans_of
  kmeans_made k i at rest = rw (seed_made_lem w small (squared_at x m) m k z i at rest)

  -- the best after j candidates more
  tries_made_lem : (j k i : ℕ) (b : Best) → (u : Best) × ((at : ℕ) (rest : List ℕ) → tries_from x m k j b at ((tries_made w x m k j i).draws ++ rest) ≡ drawn u rest)
  unfolding tries_from tries_made
  tries_made_lem zero k i b = (b, λ at rest. refl)
  tries_made_lem (suc j) k i b =
      let s = seed_made w (squared_at x m) m k i in
      let d = (tries_made w x m (suc k) j s.next).draws in
      let c = keep (candidate_of x m (grouped_by w x m k i).labels) b in
      let v = tries_made_lem j (suc k) s.next c in (
        v.0,
        λ at rest.
            ap (λ (l : List ℕ). and_then (kmeans_of x m k at l) (λ g left. tries_from x m (suc k) j (keep (candidate_of x m g.labels) b) (at + seeding_of k) left)) (append_assoc s.draws d rest)
            ∙ ap (λ (D : Drawn Grouped). and_then D (λ g left. tries_from x m (suc k) j (keep (candidate_of x m g.labels) b) (at + seeding_of k) left)) (kmeans_made k i at (d ++ rest))
            ∙ v.1 (at + seeding_of k) rest,
      )

  repeats_made_lem : (r i : ℕ) (b : Best) → (u : Best) × ((at : ℕ) (rest : List ℕ) → repeats_from x m r b at ((repeats_made w x m r i).draws ++ rest) ≡ drawn u rest)
  unfolding repeats_from repeats_made
  repeats_made_lem zero i b = (b, λ at rest. refl)
  repeats_made_lem (suc r) i b =
      let t = tries_made w x m 2 (tries m) i in
      let d = (repeats_made w x m r t.next).draws in
      let u = tries_made_lem (tries m) 2 i b in
      let v = repeats_made_lem r t.next u.0 in (
        v.0,
        λ at rest.
            ap (λ (l : List ℕ). and_then (tries_from x m 2 (tries m) b at l) (λ y left. repeats_from x m r y (at + count_of m) left)) (append_assoc t.draws d rest)
            ∙ ap (λ (D : Drawn Best). and_then D (λ y left. repeats_from x m r y (at + count_of m) left)) (u.1 at (d ++ rest))
            ∙ v.1 (at + count_of m) rest,
      )

  -- the best of a round by the draws that a generator gave: never refused, all draws taken, the same at whatever place
  pub best_made : (r i : ℕ) → (u : Best) × ((at : ℕ) (rest : List ℕ) → best_of x m r at ((repeats_made w x m r i).draws ++ rest) ≡ drawn u rest)
  unfolding best_of
  best_made r i = repeats_made_lem r i nothing

one_seeding : (k : ℕ) → seedings_of k 1 ≡ seeding_of k
unfolding seedings_of
one_seeding k = omega arith

-- a turn of the loop over the numbers of groups, with k groups and j candidates behind it
module _ (x : ℕ → ℕ → Float) (m : ℕ) (z : 0 < m) (k j : ℕ) (some : 0 < k) (few : k ≤ m) (b : Best) (src : Source) (draws : List ℕ) where
  took : (ds : List ℕ) → Ends (λ u rest. (rest ≡ drop (seeding_of k) ds) × (seeding_of k ≤ length ds)) (Among src.at (seeding_of k)) (tries_from x m k 1 b src.at ds)
  took ds =
      rw (← one_seeding k)
      (ends_map _ _ _ _ (tries_from x m k 1 b src.at ds)
      (tries_took x m z (λ u. Unit) (λ l u n below h. tt) 1 k some (omega arith) b src.at ds tt) (λ u rest h. (h.1, h.2)) (λ p h. h))

  same : (p q : List ℕ) → seeding_of k ≤ length p → tries_from x m k 1 b src.at (p ++ q) ≡ behind q (tries_from x m k 1 b src.at p)
  same p q h = tries_behind x m z 1 k some b src.at p q (rw (one_seeding k) h)

  long : (i : ℕ) → length (seed_draws src (squared_at x m) m k i) ≡ seeding_of k
  long i = seed_long (words_by src) (word_below (key_of src.seed)) (squared_at x m) m k z some i

  pub source_turn : {u : Best} {rest : List ℕ} → tries_from x m k 1 b src.at (seed_given x m k src draws) ≡ drawn u rest
      → tries_from x m k (suc j) b src.at (tries_given x m k (suc j) src draws)
      ≡ tries_from x m (suc k) j u (seed_moved x m k src).at (tries_given x m (suc k) j (seed_moved x m k src) draws)
  unfolding tries_made
  source_turn e =
      tries_more x m k b src.at j (tries_given x m k (suc j) src draws)
      ∙ ap (λ (D : Drawn Best). and_then D (λ v left. tries_from x m (suc k) j v (src.at + seeding_of k) left))
      (step_drawn (λ (ds : List ℕ). tries_from x m k 1 b src.at ds) (seeding_of k) (Among src.at (seeding_of k)) took same src draws (seed_draws src (squared_at x m) m k) (seed_next src (squared_at x m) m k)
      (λ (i : ℕ). (tries_made (words_by src) x m (suc k) j i).draws) long e)

  pub source_stopped : {p : ℕ} → tries_from x m k 1 b src.at (seed_given x m k src draws) ≡ refused p
      → tries_from x m k (suc j) b src.at (tries_given x m k (suc j) src draws) ≡ refused p
  unfolding tries_made
  source_stopped e =
      tries_more x m k b src.at j (tries_given x m k (suc j) src draws)
      ∙ ap (λ (D : Drawn Best). and_then D (λ v left. tries_from x m (suc k) j v (src.at + seeding_of k) left))
      (step_refused (λ (ds : List ℕ). tries_from x m k 1 b src.at ds) (seeding_of k) (Among src.at (seeding_of k)) took same src draws (seed_draws src (squared_at x m) m k) (seed_next src (squared_at x m) m k)
      (λ (i : ℕ). (tries_made (words_by src) x m (suc k) j i).draws) long e)

-- the source behind the candidates that are left, and what it has
module _ (x : ℕ → ℕ → Float) (m : ℕ) (z : 0 < m) (src : Source) (draws : List ℕ) where
  pub tries_moved_lem : (k j : ℕ) → tries_moved x m k (suc j) src ≡ tries_moved x m (suc k) j (seed_moved x m k src)
  unfolding tries_made seedings_of
  tries_moved_lem k j = moved_both src (seeding_of k) (seedings_of (suc k) j) (seed_next src (squared_at x m) m k) (λ (i : ℕ). (tries_made (words_by src) x m (suc k) j i).next)

  pub tries_still : (k : ℕ) → tries_moved x m k 0 src ≡ src
  unfolding tries_made seedings_of
  tries_still k = moved_none src

  pub seed_supplies : (k c : ℕ) → Supplies src draws (seeding_of k + c) → Supplies (seed_moved x m k src) draws c
  seed_supplies k c h =
      supplies_behind (seeding_of k) c (seed_next src (squared_at x m) m k) (λ i. seed_few (words_by src) (word_below (key_of src.seed)) (squared_at x m) m k z i) h

  pub repeats_moved_lem : (r : ℕ) → repeats_moved x m (suc r) src ≡ repeats_moved x m r (repeat_moved x m src)
  unfolding repeats_made
  repeats_moved_lem r =
      let e : suc r * count_of m ≡ count_of m + r * count_of m = omega (arith, suc-mul r (count_of m)) in
      ap (λ (n : ℕ). moved_on src n (λ i. (repeats_made (words_by src) x m (suc r) i).next)) e
      ∙ moved_both src (count_of m) (r * count_of m) (λ (i : ℕ). (tries_made (words_by src) x m 2 (tries m) i).next) (λ (i : ℕ). (repeats_made (words_by src) x m r i).next)

  pub repeats_still : repeats_moved x m 0 src ≡ src
  unfolding repeats_made
  repeats_still = ap (λ (n : ℕ). moved_on src n (λ i. i)) (zero-mul (count_of m)) ∙ moved_none src

  pub repeat_supplies : (c : ℕ) → Supplies src draws (count_of m + c) → Supplies (repeat_moved x m src) draws c
  repeat_supplies c h =
      supplies_behind (count_of m) c (λ (i : ℕ). (tries_made (words_by src) x m 2 (tries m) i).next) (λ i. repeat_words (words_by src) (word_below (key_of src.seed)) x m z i) h

-- a turn of the loop over the repeats, with r repeats behind it
module _ (x : ℕ → ℕ → Float) (m : ℕ) (two : 2 ≤ m) (r : ℕ) (b : Best) (src : Source) (draws : List ℕ) where
  some_items : 0 < m
  some_items = omega arith

  took_repeat : (ds : List ℕ) → Ends (λ u rest. (rest ≡ drop (count_of m) ds) × (count_of m ≤ length ds)) (Among src.at (count_of m)) (tries_from x m 2 (tries m) b src.at ds)
  took_repeat ds =
      ends_map _ _ _ _ (tries_from x m 2 (tries m) b src.at ds)
      (repeat_took x m some_items (λ u. Unit) (λ l u n below h. tt) two b src.at ds tt) (λ u rest h. (h.1, h.2)) (λ p h. h)

  same_repeat : (p q : List ℕ) → count_of m ≤ length p → tries_from x m 2 (tries m) b src.at (p ++ q) ≡ behind q (tries_from x m 2 (tries m) b src.at p)
  same_repeat p q h = tries_behind x m some_items (tries m) 2 (omega arith) b src.at p q (rw (← count_is m) h)

  long_repeat : (i : ℕ) → length (tries_made (words_by src) x m 2 (tries m) i).draws ≡ count_of m
  long_repeat i = repeat_long (words_by src) (word_below (key_of src.seed)) x m some_items i

  pub source_repeat : {u : Best} {rest : List ℕ} → tries_from x m 2 (tries m) b src.at (tries_given x m 2 (tries m) src draws) ≡ drawn u rest
      → repeats_from x m (suc r) b src.at (repeats_given x m (suc r) src draws) ≡ repeats_from x m r u (repeat_moved x m src).at (repeats_given x m r (repeat_moved x m src) draws)
  unfolding repeats_from repeats_made
  source_repeat e =
      ap (λ (D : Drawn Best). and_then D (λ v left. repeats_from x m r v (src.at + count_of m) left))
      (step_drawn (λ (ds : List ℕ). tries_from x m 2 (tries m) b src.at ds) (count_of m) (Among src.at (count_of m)) took_repeat same_repeat src draws
      (λ (i : ℕ). (tries_made (words_by src) x m 2 (tries m) i).draws) (λ (i : ℕ). (tries_made (words_by src) x m 2 (tries m) i).next) (λ (i : ℕ). (repeats_made (words_by src) x m r i).draws) long_repeat e)

  pub source_repeat_stopped : {p : ℕ} → tries_from x m 2 (tries m) b src.at (tries_given x m 2 (tries m) src draws) ≡ refused p
      → repeats_from x m (suc r) b src.at (repeats_given x m (suc r) src draws) ≡ refused p
  unfolding repeats_from repeats_made
  source_repeat_stopped e =
      ap (λ (D : Drawn Best). and_then D (λ v left. repeats_from x m r v (src.at + count_of m) left))
      (step_refused (λ (ds : List ℕ). tries_from x m 2 (tries m) b src.at ds) (count_of m) (Among src.at (count_of m)) took_repeat same_repeat src draws
      (λ (i : ℕ). (tries_made (words_by src) x m 2 (tries m) i).draws) (λ (i : ℕ). (tries_made (words_by src) x m 2 (tries m) i).next) (λ (i : ℕ). (repeats_made (words_by src) x m r i).draws) long_repeat e)
