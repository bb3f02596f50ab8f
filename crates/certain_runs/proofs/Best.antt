-- Every candidate has a t-stat above -infinity, so a round keeps one; and the scores of the one that it keeps are within -1..1.
use Prim.Native.Nat.{ℕ, zero, suc, ◌+◌, ◌-◌, ◌*◌, ◌<◌, ◌≤◌}
use mathlib.Core.Path.{◌≡◌, refl, sym, ap, ◌∙◌, subst}
use mathlib.Core.Bool.{Bool, true, false, cond, ◌&&◌, ◌||◌, true≢false}
use mathlib.Core.List.{List}
use native.Mathlib.Omega.{arith}
use lib.ListN.{length}
use lib.Ieee.{Float, nan, inf, lt, eq}
use Rattle.lists.specs.Lists.{cells, numbers}
use Rattle.draws.specs.Counts.{seeding_of, seedings_of, count_of, tries}
use Rattle.draws.specs.Draws.{Drawn, drawn, refused, and_then}
use Rattle.draws.proofs.Taken.{Ends, Among, then_ends, ends_map}
use Rattle.distance_columns.specs.Pair.{squared_at}
use Rattle.plusplus.specs.Seeding.{seeding}
use Rattle.choice.specs.Replaces.{replaces}
use Rattle.kmeans.specs.Clustering.{Grouped, kmeans_of}
use Rattle.silhouette_areas.specs.Scoring.{scores_of}
use Rattle.silhouette_areas.proofs.Laws.{scores_length}
use Rattle.lloyd_pass.specs.Passes.{lloyd_labels, lloyd_ended}
use Rattle.candidates.specs.Candidates.{Candidate, candidate_of, candidate_from, Best, nothing, found, keep, tries_from, repeats_from, best_of}
use Rattle.candidates.proofs.Laws.{tries_one, tries_more, tries_few, tries_took, repeats_took, Passed}
use Rattle.certain_ranges.specs.Ranges.{Bounded}
use Rattle.certain_ranges.proofs.Operations.{lt_nan, number_of}
use Rattle.certain_holes.specs.Holes.{Distances}
use Rattle.certain_holes.proofs.Rounds.{score_range}
use Rattle.certain_holes.proofs.Stats.{stat_nan}
use Rattle.certain_holes.proofs.Labelled.{kmeans_stat}
use Rattle.certain_runs.specs.Certain.{InRange}

-- ---- a t-stat that passes a comparison is a number
above_number : (a y : Float) → lt a y ≡ true → y ≡ nan → ⊥
above_number a y t e = true≢false (sym t ∙ ap (lt a) e ∙ lt_nan a)

equal_number : (a y : Float) → eq y a ≡ true → y ≡ nan → ⊥
equal_number a y t e = true≢false (sym t ∙ ap (λ (z : Float). eq z a) e ∙ nothing)
  where
    nothing : eq nan a ≡ false
    nothing = unfold eq in refl

replaces_number : (s m a b : Float) → replaces s m a b ≡ true → s ≡ nan → ⊥
unfolding replaces
replaces_number s m a b t = go (lt a s) (eq s a) (above_number a s) (equal_number a s) t
  where
    go : (p q : Bool) → (p ≡ true → s ≡ nan → ⊥) → (q ≡ true → s ≡ nan → ⊥) → (p || (q && lt b m)) ≡ true → s ≡ nan → ⊥
    go true q f g t = f refl
    go false true f g t = g refl
    go false false f g t = absurd (true≢false (sym t))

-- ---- the best candidate: there is one, its t-stat is a number, and it is the candidate of its labels
abbrev Numbered : (ℕ → ℕ → Float) → ℕ → Best → Type 0
Numbered x m nothing = ⊥
Numbered x m (found c) = (c.stat ≡ nan → ⊥) × (c ≡ candidate_of x m c.labels)

-- the first candidate, and each one after it
numbered_first : (x : ℕ → ℕ → Float) (m : ℕ) (l : List ℕ) → lt (inf true) (candidate_of x m l).stat ≡ true → Numbered x m (keep (candidate_of x m l) nothing)
numbered_first x m l t =
    subst (λ (b : Bool). Numbered x m (cond b (found (candidate_of x m l)) nothing)) (sym t) (above_number (inf true) (candidate_of x m l).stat t, refl)

numbered_later : (x : ℕ → ℕ → Float) (m : ℕ) (l : List ℕ) (b : Best) → length l ≡ m → ((i : ℕ) → i < m → numbers l i < m) → Numbered x m b → Numbered x m (keep (candidate_of x m l) b)
numbered_later x m l nothing n below h = absurd h
numbered_later x m l (found b) n below h =
    go (replaces (candidate_of x m l).stat (candidate_of x m l).mean b.stat b.mean) (replaces_number (candidate_of x m l).stat (candidate_of x m l).mean b.stat b.mean)
  where
    go : (t : Bool) → (t ≡ true → (candidate_of x m l).stat ≡ nan → ⊥) → Numbered x m (cond t (found (candidate_of x m l)) (found b))
    go true f = (f refl, refl)
    go false f = h

module _ (x : ℕ → ℕ → Float) (m : ℕ) (D : Distances x) (M : m ≤ 256) where
  abbrev Found : Best → List ℕ → Type 0
  Found b rest = Numbered x m b

  abbrev Anywhere : ℕ → Type 0
  Anywhere p = Unit

  -- ---- every candidate has a t-stat above -infinity, so the first is kept
  first-kept : 0 < m → (k : ℕ) → 0 < k → (at : ℕ) (ds : List ℕ) → Ends (λ c rest. Numbered x m (keep c nothing)) Anywhere (candidate_from x m k at ds)
  unfolding candidate_from kmeans_of
  first-kept P k some at ds = go (seeding (squared_at x m) m k at ds)
    where
      go : (S : Drawn (List ℕ))
          → Ends (λ c rest. Numbered x m (keep c nothing)) Anywhere
          (and_then (and_then S (λ centres rest. drawn (record { labels = lloyd_labels x m k (numbers centres); ended = lloyd_ended x m k (numbers centres) }) rest)) (λ (g : Grouped) rest. drawn (candidate_of x m g.labels) rest))
      go (drawn centres rest) = numbered_first x m (lloyd_labels x m k (numbers centres)) (kmeans_stat x m D M k some (numbers centres) P)
      go (refused p) = tt

  -- ---- and from then on there is one, by each number of groups, and by each repeat
  tries_found : (j : ℕ) → 3 + j ≤ m + 1 → (at : ℕ) (ds : List ℕ) → Ends Found Anywhere (tries_from x m 2 (suc j) nothing at ds)
  tries_found j few at ds =
      rw (tries_more x m 2 nothing at j ds, tries_one x m 2 nothing at ds)
      (then_ends Found Anywhere Found Anywhere (and_then (candidate_from x m 2 at ds) (λ c rest. drawn (keep c nothing) rest)) (λ u rest. tries_from x m 3 j u (at + seeding_of 2) rest)
      (then_ends (λ c rest. Numbered x m (keep c nothing)) Anywhere Found Anywhere (candidate_from x m 2 at ds) (λ c rest. drawn (keep c nothing) rest)
      (first-kept (omega arith) 2 (omega arith) at ds) (λ c rest h. h) (λ p h. tt))
      (λ u rest h.
      ends_map (Passed (Numbered x m) (seedings_of 3 j) rest) (Among (at + seeding_of 2) (seedings_of 3 j)) Found Anywhere (tries_from x m 3 j u (at + seeding_of 2) rest)
      (tries_took x m (omega arith) (Numbered x m) (numbered_later x m) j 3 (omega arith) few u (at + seeding_of 2) rest h)
      (λ b r g. g.0) (λ p g. tt))
      (λ p h. tt))

  repeats_found : 2 ≤ m → (r at : ℕ) (ds : List ℕ) → Ends Found Anywhere (repeats_from x m (suc r) nothing at ds)
  unfolding repeats_from
  repeats_found two r at ds =
      let e : tries m ≡ suc (tries m - 1) = omega arith in
      then_ends Found Anywhere Found Anywhere (tries_from x m 2 (tries m) nothing at ds) (λ b rest. repeats_from x m r b (at + count_of m) rest)
      (subst (λ (z : ℕ). Ends Found Anywhere (tries_from x m 2 z nothing at ds)) (sym e) (tries_found (tries m - 1) (omega (arith, tries_few m two)) at ds))
      (λ b rest h.
      ends_map (Passed (Numbered x m) (r * count_of m) rest) (Among (at + count_of m) (r * count_of m)) Found Anywhere (repeats_from x m r b (at + count_of m) rest)
      (repeats_took x m (omega arith) (Numbered x m) (numbered_later x m) two r b (at + count_of m) rest h)
      (λ u s g. g.0) (λ p g. tt))
      (λ p h. tt)

  -- ---- its t-stat is a number, so each of its scores is one
  candidate_range : (l : List ℕ) → ((candidate_of x m l).stat ≡ nan → ⊥) → InRange m (candidate_of x m l).scores
  candidate_range l n i h =
      number_of (Bounded 1) (cells (scores_of x m (numbers l)) i) (score_range x m D M (numbers l) i h)
      (λ e. n (stat_nan (cells (scores_of x m (numbers l))) (length (scores_of x m (numbers l))) i (subst (λ (z : ℕ). i < z) (sym (scores_length x m (numbers l))) h) e))

  -- a round finds a candidate, and its scores are within -1..1
  abbrev pub Ranged : Best → Type 0
  Ranged nothing = ⊥
  Ranged (found c) = InRange m c.scores

  pub best_range : (repeats : ℕ) → 2 ≤ m → 1 ≤ repeats → (at : ℕ) (ds : List ℕ) → Ends (λ b rest. Ranged b) Anywhere (best_of x m repeats at ds)
  unfolding best_of
  best_range zero two some at ds = absurd (omega arith)
  best_range (suc r) two some at ds =
      ends_map Found Anywhere (λ b rest. Ranged b) Anywhere (repeats_from x m (suc r) nothing at ds) (repeats_found two r at ds) (λ b rest h. ranged b h) (λ p h. tt)
    where
      ranged : (b : Best) → Numbered x m b → Ranged b
      ranged nothing h = absurd h
      ranged (found c) h =
          subst (λ (k : Candidate). InRange m k.scores) (sym h.1)
          (candidate_range c.labels (λ e. h.0 (ap (λ (k : Candidate). k.stat) h.1 ∙ e)))
