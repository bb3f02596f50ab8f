-- Laws of the definition of a round: its equations by case, and what a round that starts takes and has.
use Prim.Native.Nat.{ℕ, zero, suc, ◌+◌, ◌<◌, ◌≤◌}
use mathlib.Core.Path.{◌≡◌, refl, ◌∙◌, ap, subst}
use mathlib.Core.Bool.{Bool, true, false, cond}
use mathlib.Core.List.{List, [], ◌∷◌}
use native.Mathlib.Omega.{arith}
use borrow.Author.Tests.{le-leb, lt-leb, leb-false}
use lib.Dec.{ltb, leb}
use lib.ListN.{length, drop, length-map}
use lib.Ieee.{Float, lt}
use Rattle.lists.specs.Lists.{numbers}
use Rattle.draws.specs.Draws.{Drawn, drawn, refused}
use Rattle.draws.specs.declared.Stop.{Stop}
use Rattle.draws.specs.declared.Stop.TheVariants.{Rounds, Short}
use Rattle.draws.proofs.Taken.{Ends}
use Rattle.distance.specs.Distance.{dist_at}
use Rattle.partition.specs.Partition.{Partition, State}
use Rattle.quality.specs.Quality.{qualities_of, weak_count, weak_mean}
use Rattle.candidates.specs.Candidates.{Candidate, Best, nothing, found, best_of}
use Rattle.base.specs.Base.{base_of}
use Rattle.improve_merge.specs.Merging.{weak_items, merged_of}
use Rattle.improve.specs.Improve.{rescored, mean_quality, better_of}
use Rattle.row_numbers.specs.Rows.{rows_of}
use Rattle.round.specs.Round.{Run, done, ended, Opening, started, unstarted, of_best, opening_of, after_opening, round_of, need_of, after_inner}
use Rattle.silhouette_areas.proofs.Laws.{scores_length}
use Rattle.partition.proofs.Groups.{groups_partition}
use Rattle.candidates.proofs.Laws.{best_took, Found}
use Rattle.base.proofs.Scored.{Scored, base_scored}
use Rattle.improve_merge.proofs.Merged.{weak_many}
use Rattle.improve.proofs.Better.{better_partition, better_scores}

-- how many groups of a base are weak
abbrev pub weak_in : State → ℕ
weak_in s = weak_count (qualities_of s.scores s.groups)

-- the definition, by case
module _ (book : List Float) (n repeats left : ℕ) (rows : List ℕ) (read : ℕ) (ds : List ℕ) where
  pub round_none : left ≡ 0 → round_of book n repeats left rows read ds ≡ ended Rounds []
  unfolding round_of
  round_none e = rw e

  pub round_refused : (s : Stop) (ms : List ℕ) → opening_of book n repeats rows read ds ≡ unstarted s ms → round_of book n repeats (suc left) rows read ds ≡ ended s ms
  unfolding round_of after_opening
  round_refused s ms e = rw e

  module _ (base : State) (rest : List ℕ) (e : opening_of book n repeats rows read ds ≡ started base rest) where
    pub round_kept : weak_in base ≤ 2 → round_of book n repeats (suc left) rows read ds ≡ done base (length rows ∷ []) (read + need_of repeats (length rows)) rest
    unfolding round_of after_opening
    round_kept h = rw (e, le-leb (weak_in base) 2 h)

    pub round_again : 2 < weak_in base
        → round_of book n repeats (suc left) rows read ds
        ≡ after_inner (dist_at book n rows) (length rows) base (round_of book n repeats left (rows_of rows (weak_items base)) (read + need_of repeats (length rows)) rest)
    unfolding round_of after_opening
    round_again h = rw (e, lt-leb (weak_in base) 2 h)

-- a round that starts took exactly its count of the draws, and P holds of its base
abbrev OpeningHas : (State → Type 0) → ℕ → List ℕ → Opening → Type 0
OpeningHas P c ds (started base rest) = P base × (rest ≡ drop c ds) × (c ≤ length ds)
OpeningHas P c ds (unstarted s ms) = Unit

-- what holds of the base of each candidate holds of the base of a round that starts
opening_has : (book : List Float) (n repeats : ℕ) (rows : List ℕ) (read : ℕ) (ds : List ℕ) → 2 ≤ length rows
    → (P : State → Type 0) → ((k : Candidate) → Found (dist_at book n rows) (length rows) (found k) → P (base_of (length rows) k))
    → OpeningHas P (need_of repeats (length rows)) ds (opening_of book n repeats rows read ds)
unfolding opening_of
opening_has book n repeats rows read ds some P each = by_test (ltb (length ds) c)
  where
    x : ℕ → ℕ → Float
    x = dist_at book n rows

    m : ℕ
    m = length rows

    c : ℕ
    c = need_of repeats (length rows)

    of_best_lem : (D : Drawn Best) → Ends (λ b rest. Found x m b × (rest ≡ drop c ds) × (c ≤ length ds)) (λ p. (read ≤ p) × (p < read + c)) D → OpeningHas P c ds (of_best m D)
    of_best_lem (drawn nothing rest) h = tt
    of_best_lem (drawn (found k) rest) h = (each k h.0, h.1, h.2)
    of_best_lem (refused p) h = tt

    by_test : (t : Bool) → OpeningHas P c ds (cond t (unstarted (Short read) []) (of_best m (best_of x m repeats read ds)))
    by_test true = tt
    by_test false = of_best_lem (best_of x m repeats read ds) (best_took x m repeats some read ds)

-- a round that starts took exactly its count of the draws; its base is a partition of its items, with a score for each
abbrev pub OpeningTook : ℕ → List ℕ → ℕ → Opening → Type 0
OpeningTook c ds m (started base rest) = Partition m base.groups × (length base.scores ≡ m) × (rest ≡ drop c ds) × (c ≤ length ds)
OpeningTook c ds m (unstarted s ms) = Unit

-- the base of a candidate
base_whole : (x : ℕ → ℕ → Float) (m : ℕ) (c : Candidate) → Found x m (found c) → Partition m (base_of m c).groups × (length (base_of m c).scores ≡ m)
base_whole x m c h =
    (groups_partition (numbers c.labels) m h.1, ap (λ (k : Candidate). length k.scores) h.2 ∙ scores_length x m (numbers c.labels))

pub opening_took : (book : List Float) (n repeats : ℕ) (rows : List ℕ) (read : ℕ) (ds : List ℕ) → 2 ≤ length rows
    → OpeningTook (need_of repeats (length rows)) ds (length rows) (opening_of book n repeats rows read ds)
opening_took book n repeats rows read ds some =
    of_opening (opening_of book n repeats rows read ds) (opening_has book n repeats rows read ds some Base (base_whole (dist_at book n rows) (length rows)))
  where
    Base : State → Type 0
    Base s = Partition (length rows) s.groups × (length s.scores ≡ length rows)

    of_opening : (o : Opening) → OpeningHas Base (need_of repeats (length rows)) ds o → OpeningTook (need_of repeats (length rows)) ds (length rows) o
    of_opening (started base rest) h = (h.0.0, h.0.1, h.1, h.2)
    of_opening (unstarted s ms) h = tt

-- a run that ends in groups ends in a partition of the first round's m items, with a score for each
abbrev pub Whole : ℕ → Run → Type 0
Whole m (done s ms read rest) = Partition m s.groups × (length s.scores ≡ m)
Whole m (ended s ms) = Unit

module _ (book : List Float) (n repeats left : ℕ) (rows : List ℕ) (read : ℕ) where
  abbrev Before : Type 0
  Before = (rows : List ℕ) (read : ℕ) (ds : List ℕ) → 2 ≤ length rows → Whole (length rows) (round_of book n repeats left rows read ds)

  inner_whole : (base : State) → Partition (length rows) base.groups → length base.scores ≡ length rows → (r : Run) → Whole (length (weak_items base)) r
      → Whole (length rows) (after_inner (dist_at book n rows) (length rows) base r)
  inner_whole base h l (ended s ms) w = tt
  inner_whole base h l (done s ms last rest) w = (
    better_partition (dist_at book n rows) (length rows) base s.groups h w.0,
    better_scores (dist_at book n rows) (length rows) base s.groups l,
  )

  started_whole : Before → (base : State) (rest : List ℕ) → Partition (length rows) base.groups → length base.scores ≡ length rows → (t : Bool) → leb (weak_in base) 2 ≡ t
      → Whole (length rows) (cond t (done base (length rows ∷ []) read rest) (after_inner (dist_at book n rows) (length rows) base (round_of book n repeats left (rows_of rows (weak_items base)) read rest)))
  started_whole ih base rest h l true e = (h, l)
  started_whole ih base rest h l false e =
      let long : length (rows_of rows (weak_items base)) ≡ length (weak_items base) = length-map (weak_items base) (numbers rows) in
      let some : 2 ≤ length (rows_of rows (weak_items base)) = omega (arith, long, leb-false (weak_in base) 2 e, weak_many (length rows) base h) in
      let r = round_of book n repeats left (rows_of rows (weak_items base)) read rest in
      inner_whole base h l r (subst (λ (k : ℕ). Whole k r) long (ih (rows_of rows (weak_items base)) read rest some))

  after_whole : Before → (c : ℕ) (ds : List ℕ) (o : Opening) → OpeningTook c ds (length rows) o
      → Whole (length rows) (after_opening (round_of book n repeats left) book n rows read o)
  unfolding after_opening
  after_whole ih c ds (unstarted s ms) h = tt
  after_whole ih c ds (started base rest) h = started_whole ih base rest h.0 h.1 (leb (weak_in base) 2) refl

pub whole : (book : List Float) (n repeats left : ℕ) (rows : List ℕ) (read : ℕ) (ds : List ℕ) → 2 ≤ length rows → Whole (length rows) (round_of book n repeats left rows read ds)
unfolding round_of
whole book n repeats zero rows read ds some = tt
whole book n repeats (suc left) rows read ds some =
    after_whole book n repeats left rows (read + need_of repeats (length rows)) (whole book n repeats left) (need_of repeats (length rows)) ds (opening_of book n repeats rows read ds)
    (opening_took book n repeats rows read ds some)

-- a run that ends in groups has the silhouettes of the first round's items, under the labels of these groups, as scores
abbrev pub ScoredRun : (ℕ → ℕ → Float) → ℕ → Run → Type 0
ScoredRun x m (done s ms read rest) = Scored x m s
ScoredRun x m (ended s ms) = Unit

-- the partition that is chosen
better_scored : (x : ℕ → ℕ → Float) (m : ℕ) (s : State) (inner : List (List ℕ)) → Scored x m s → Scored x m (better_of x m s inner)
better_scored x m s inner h = by_test (lt (weak_mean (qualities_of s.scores s.groups)) (mean_quality (rescored x m (merged_of s inner))))
  where
    by_test : (t : Bool) → Scored x m (cond t (rescored x m (merged_of s inner)) s)
    by_test true = refl
    by_test false = h

after_scored : (again : List ℕ → ℕ → List ℕ → Run) (book : List Float) (n : ℕ) (rows : List ℕ) (read c : ℕ) (ds : List ℕ) (o : Opening) → OpeningHas (Scored (dist_at book n rows) (length rows)) c ds o
    → ScoredRun (dist_at book n rows) (length rows) (after_opening again book n rows read o)
unfolding after_opening
after_scored again book n rows read c ds (unstarted s ms) h = tt
after_scored again book n rows read c ds (started base rest) h = by_test (leb (weak_in base) 2)
  where
    by_inner : (r : Run) → ScoredRun (dist_at book n rows) (length rows) (after_inner (dist_at book n rows) (length rows) base r)
    by_inner (done s ms last rest) = better_scored (dist_at book n rows) (length rows) base s.groups h.0
    by_inner (ended s ms) = tt

    by_test : (t : Bool)
        → ScoredRun (dist_at book n rows) (length rows)
        (cond t (done base (length rows ∷ []) read rest) (after_inner (dist_at book n rows) (length rows) base (again (rows_of rows (weak_items base)) read rest)))
    by_test true = h.0
    by_test false = by_inner (again (rows_of rows (weak_items base)) read rest)

pub scored : (book : List Float) (n repeats left : ℕ) (rows : List ℕ) (read : ℕ) (ds : List ℕ) → 2 ≤ length rows
    → ScoredRun (dist_at book n rows) (length rows) (round_of book n repeats left rows read ds)
unfolding round_of
scored book n repeats zero rows read ds some = tt
scored book n repeats (suc left) rows read ds some =
    after_scored (round_of book n repeats left) book n rows (read + need_of repeats (length rows)) (need_of repeats (length rows)) ds (opening_of book n repeats rows read ds)
    (opening_has book n repeats rows read ds some (Scored (dist_at book n rows) (length rows)) (base_scored (dist_at book n rows) (length rows)))
