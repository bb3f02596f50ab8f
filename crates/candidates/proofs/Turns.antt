-- The steps of the functions: one candidate, whether it is kept, and the turns of the two loops.
use Rattle.std.specs.Prelude.{Option, Some, None, Err}
use Prim.Native.Nat.{ℕ, suc, ◌+◌, ◌-◌, ◌*◌, ◌<◌, ◌≤◌}
use mathlib.Core.Path.{◌≡◌, refl, sym, ◌∙◌, ap}
use mathlib.Core.Bool.{true, false}
use mathlib.Core.List.{List}
use native.Mathlib.Nat.{suc-mul}
use native.Mathlib.Numerals.{add-one}
use native.Mathlib.Omega.{arith}
use lib.ListN.{length, drop}
use lib.Ieee.{Float}
use Rattle.lists.specs.Lists.{numbers, cells}
use Rattle.tstat.specs.Tstat.{tstat_of, plain_mean}
use Rattle.draws.specs.Counts.{seeding_of, seedings_of, count_of, tries}
use Rattle.draws.specs.Draws.{Drawn, drawn, refused, and_then}
use Rattle.draws.specs.declared.Stop.{Stop}
use Rattle.draws.specs.declared.Stop.TheVariants.{DrawOutOfRange}
use Rattle.lloyd_pass.specs.declared.Ended.{Ended}
use Rattle.kmeans.specs.Clustering.{Grouped, kmeans_of}
use Rattle.plusplus_seeded.specs.declared.Source.{Source}
use Rattle.plusplus_seeded.specs.Sources.{Supplies}
use Rattle.kmeans.specs.Steps.{labelled, LabelledBy, seed_given, seed_moved}
use Rattle.kmeans.proofs.Parts.{labelled_parts}
use Rattle.kmeans.proofs.Laws.{kmeans_done, kmeans_stopped}
use Rattle.kmeans.proofs.Sourced.{clustered_done, clustered_stopped}
use Rattle.silhouette_areas.specs.Scoring.{scores_of}
use Rattle.choice.specs.declared.Kept.{Kept}
use Rattle.choice.specs.Replaces.{replaces_kept}
use Rattle.candidates.specs.Candidates.{candidate_of, candidate_from, Best, keep, tries_from, repeats_from}
use Rattle.candidates.specs.Candidates as candidates
use Rattle.candidates.specs.Made.{tries_given, tries_moved, repeat_moved, repeats_given, repeats_moved}
use Rattle.candidates.specs.Steps.{searched, made, kept_by, best_from, SearchedBy, TriedBy, Lists}
use Rattle.candidates.proofs.Answers.{searched_done, searched_stopped, done_by, stopped_by, tried_made, tried_refused, refused_by}
use Rattle.candidates.proofs.Laws.{tries_one}
use Rattle.candidates.proofs.Sourced.{supplies_front, source_turn, source_stopped, tries_moved_lem, tries_still, seed_supplies, source_repeat, source_repeat_stopped, repeats_moved_lem, repeats_still, repeat_supplies}

-- what the answer of k-means says
labelled_next : (D : Drawn Grouped) {next n : Source} {old new : List ℕ} {e : Ended} → LabelledBy D next old (labelled n e) new → n ≡ next
labelled_next (drawn g rest) {next} {n} {old} {new} {e} s =
    (labelled_parts n next e g.ended s.answer_is).0
labelled_next (refused p) {next} {n} {old} {new} {e} s =
    let a : labelled n e ≡ Err (DrawOutOfRange p) = s.answer_is in
    let z : ◌≡◌ {A = ℕ} 0 1 = cc in
    absurd (omega arith)

pub labels_done : (x : ℕ → ℕ → Float) (m k : ℕ) → 0 < m → 0 < k → (at : ℕ) (ds : List ℕ) (next : Source) (old new : List ℕ) {n : Source} {e : Ended}
    → LabelledBy (kmeans_of x m k at ds) next old (labelled n e) new
    → (n ≡ next) × (length new ≡ m) × ((i : ℕ) → i < m → numbers new i < k) × (kmeans_of x m k at ds ≡ drawn (record { labels = new; ended = e }) (drop (seeding_of k) ds))
labels_done x m k z one_of_lem at ds next old new c =
    let v = kmeans_done x m k z one_of_lem at ds next.at old new (clustered_done (kmeans_of x m k at ds) c) in
    (labelled_next (kmeans_of x m k at ds) c, v.1, v.2, v.3)

-- one candidate, by the answer of k-means
module _ (x : ℕ → ℕ → Float) (m k : ℕ) (z : 0 < m) (one_of_lem : 0 < k) (at : ℕ) (ds : List ℕ) (next : Source) (old new : List ℕ) where
  pub candidate_refused : {w : Stop} (s : List Float) → LabelledBy (kmeans_of x m k at ds) next old (Err w) new → TriedBy (candidate_from x m k at ds) next (Err w) new s
  unfolding candidate_from
  candidate_refused {w} s c =
      let v = kmeans_stopped x m k z one_of_lem at ds 0 old new (clustered_stopped (kmeans_of x m k at ds) c) in
      refused_by (candidate_from x m k at ds) next w new s v.0 (ap (λ (D : Drawn Grouped). and_then D (λ g rest. drawn (candidate_of x m g.labels) rest)) v.2) v.1

  pub candidate_made : {n : Source} {e : Ended} {s : List Float} {a b : Float} → LabelledBy (kmeans_of x m k at ds) next old (labelled n e) new
      → s ≡ scores_of x m (numbers new) → a ≡ tstat_of (cells s) (length s) → b ≡ plain_mean (cells s) (length s) → TriedBy (candidate_from x m k at ds) next (made n a b) new s
  unfolding candidate_from
  candidate_made c scored stat mean =
      let v = labels_done x m k z one_of_lem at ds next old new c in
      record { answer_is = rw (v.3, v.0, stat, mean, scored) refl; written = rw v.3 (refl, scored) }

-- where k-means is refused, nothing is kept or replaced
pub try_refused : (x : ℕ → ℕ → Float) (m k at : ℕ) (ds : List ℕ) (next : Source) (b : Best) (l l' : List ℕ) (s s' : List Float) {w : Stop}
    → TriedBy (candidate_from x m k at ds) next (Err w) l' s' → SearchedBy (tries_from x m k 1 b at ds) next (Err w) l s
try_refused x m k at ds next b l l' s s' {w} t =
    let v = tried_refused (candidate_from x m k at ds) t in
    stopped_by (tries_from x m k 1 b at ds) next w l s v.0
    (tries_one x m k b at ds ∙ ap (λ (D : Drawn candidates.Candidate). and_then D (λ c rest. drawn (keep c b) rest)) v.1) v.2

-- a candidate against what is kept
module _ (kept : Option Kept) (l l' : List ℕ) (s s' : List Float) (a b : Float) where
  keep_old : replaces_kept a b kept ≡ false → keep (record { labels = l'; scores = s'; stat = a; mean = b }) (best_from kept l s) ≡ best_from kept l s
  keep_old = by kept
    where
      by : (q : Option Kept) → replaces_kept a b q ≡ false → keep (record { labels = l'; scores = s'; stat = a; mean = b }) (best_from q l s) ≡ best_from q l s
      by None h = rw h refl
      by (Some k) h = rw h refl

  keep_new : replaces_kept a b kept ≡ true → keep (record { labels = l'; scores = s'; stat = a; mean = b }) (best_from kept l s) ≡ best_from (kept_by a b) l' s'
  keep_new = by kept
    where
      by : (q : Option Kept) → replaces_kept a b q ≡ true → keep (record { labels = l'; scores = s'; stat = a; mean = b }) (best_from q l s) ≡ best_from (kept_by a b) l' s'
      by None h = rw h refl
      by (Some k) h = rw h refl

  -- the best, once the candidate is made
  abbrev decided : Drawn candidates.Candidate → Drawn Best
  decided D = and_then D (λ c rest. drawn (keep c (best_from kept l s)) rest)

  module _ (x : ℕ → ℕ → Float) (m k at : ℕ) (ds : List ℕ) (next : Source) where
    pub try_old : {n : Source} → TriedBy (candidate_from x m k at ds) next (made n a b) l' s' → replaces_kept a b kept ≡ false
        → SearchedBy (tries_from x m k 1 (best_from kept l s) at ds) next (searched n kept) l s
    try_old {n} t h =
        let v = tried_made (candidate_from x m k at ds) t in
        done_by (tries_from x m k 1 (best_from kept l s) at ds) next n kept l s v.0
        (tries_one x m k (best_from kept l s) at ds ∙ ap decided v.2 ∙ ap (λ (u : Best). drawn u v.0) (keep_old h)) v.1

    pub try_new : {n : Source} → TriedBy (candidate_from x m k at ds) next (made n a b) l' s' → replaces_kept a b kept ≡ true
        → SearchedBy (tries_from x m k 1 (best_from kept l s) at ds) next (searched n (kept_by a b)) l' s'
    try_new {n} t h =
        let v = tried_made (candidate_from x m k at ds) t in
        done_by (tries_from x m k 1 (best_from kept l s) at ds) next n (kept_by a b) l' s' v.0
        (tries_one x m k (best_from kept l s) at ds ∙ ap decided v.2 ∙ ap (λ (u : Best). drawn u v.0) (keep_new h)) v.1

-- the draws of the candidates that are left
pub left_more : (k end : ℕ) → k < end → seedings_of k (end - k) ≡ seeding_of k + seedings_of (k + 1) (end - (k + 1))
unfolding seedings_of
left_more k end h = let e : end - k ≡ suc (end - (k + 1)) = omega arith in rw (e, add-one k)

-- the draws of the repeats that are left
pub repeats_left : (t repeat c : ℕ) → t < repeat → (repeat - t) * c ≡ c + (repeat - (t + 1)) * c
repeats_left t repeat c h =
    let e : repeat - t ≡ suc (repeat - (t + 1)) = omega arith in
    rw e (omega (arith, suc-mul (repeat - (t + 1)) c))

-- a turn of the loop over the numbers of groups, by the answer of its candidate
module _ (x : ℕ → ℕ → Float) (m : ℕ) (z : 0 < m) (k end : ℕ) (b : Best) (src : Source) (draws : List ℕ) where
  pub tries_none : (at : ℕ) (ds : List ℕ) → end ≤ k → tries_from x m k (end - k) b at ds ≡ drawn b ds
  unfolding tries_from
  tries_none at ds h = let e : end - k ≡ 0 = omega arith in rw e

  pub moved_end : end ≤ k → tries_moved x m k (end - k) src ≡ src
  moved_end h = let e : end - k ≡ 0 = omega arith in ap (λ (j : ℕ). tries_moved x m k j src) e ∙ tries_still x m z src draws k

  -- the candidates from this one on, by their draws
  abbrev candidates_by : ℕ → ℕ → Best → Source → Drawn Best
  candidates_by k j u s = tries_from x m k j u s.at (tries_given x m k j s draws)

  pub turn_done : {n : Source} {kept : Option Kept} {l : List ℕ} {s : List Float} → 0 < k → k ≤ m → k < end
      → SearchedBy (tries_from x m k 1 b src.at (seed_given x m k src draws)) (seed_moved x m k src) (searched n kept) l s
      → (tries_from x m k (end - k) b src.at (tries_given x m k (end - k) src draws) ≡ tries_from x m (k + 1) (end - (k + 1)) (best_from kept l s) n.at (tries_given x m (k + 1) (end - (k + 1)) n draws))
      × (tries_moved x m k (end - k) src ≡ tries_moved x m (k + 1) (end - (k + 1)) n)
      × (Supplies src draws (seedings_of k (end - k)) → Supplies n draws (seedings_of (k + 1) (end - (k + 1))))
  turn_done {n} {kept} {l} {s} some few h q =
      let v = searched_done (tries_from x m k 1 b src.at (seed_given x m k src draws)) q in
      let u = best_from kept l s in
      let j = end - (k + 1) in
      let e : end - k ≡ suc j = omega arith in
      let f : suc k ≡ k + 1 = sym (add-one k) in (
        ap (λ (i : ℕ). candidates_by k i b src) e ∙ source_turn x m z k j some few b src draws v.2
            ∙ ap (λ (y : ℕ). candidates_by y j u (seed_moved x m k src)) f ∙ ap (candidates_by (k + 1) j u) (sym v.1),
        ap (λ (i : ℕ). tries_moved x m k i src) e ∙ tries_moved_lem x m z src draws k j
            ∙ ap (λ (y : ℕ). tries_moved x m y j (seed_moved x m k src)) f ∙ ap (tries_moved x m (k + 1) j) (sym v.1),
        λ a. rw v.1 (seed_supplies x m z src draws k (seedings_of (k + 1) j) (rw (left_more k end h) at a)),
      )

  pub turn_stopped : {next : Source} {w : Stop} {l : List ℕ} {s : List Float} → 0 < k → k ≤ m → k < end → SearchedBy (tries_from x m k 1 b src.at (seed_given x m k src draws)) next (Err w) l s
      → (p : ℕ) × (tries_from x m k (end - k) b src.at (tries_given x m k (end - k) src draws) ≡ refused p) × (w ≡ DrawOutOfRange p)
  turn_stopped some few h q =
      let v = searched_stopped (tries_from x m k 1 b src.at (seed_given x m k src draws)) q in
      let e : end - k ≡ suc (end - (k + 1)) = omega arith in
      (v.0, ap (λ (i : ℕ). candidates_by k i b src) e ∙ source_stopped x m z k (end - (k + 1)) some few b src draws v.1, v.2)

  pub turn_supply : k < end → Supplies src draws (seedings_of k (end - k)) → Supplies src draws (seeding_of k)
  turn_supply h a = supplies_front (seeding_of k) (seedings_of (k + 1) (end - (k + 1))) (rw (left_more k end h) at a)

-- a turn of the loop over the repeats
module _ (x : ℕ → ℕ → Float) (m : ℕ) (two : 2 ≤ m) (t repeat : ℕ) (b : Best) (src : Source) (draws : List ℕ) where
  pub repeats_none : (at : ℕ) (ds : List ℕ) → repeat ≤ t → repeats_from x m (repeat - t) b at ds ≡ drawn b ds
  unfolding repeats_from
  repeats_none at ds h = let e : repeat - t ≡ 0 = omega arith in rw e

  pub repeats_done : repeat ≤ t → repeats_moved x m (repeat - t) src ≡ src
  repeats_done h = let e : repeat - t ≡ 0 = omega arith in ap (λ (j : ℕ). repeats_moved x m j src) e ∙ repeats_still x m (omega arith) src draws

  -- the repeats from this one on, by their draws
  abbrev repeats_by : ℕ → Best → Source → Drawn Best
  repeats_by r u s = repeats_from x m r u s.at (repeats_given x m r s draws)

  pub repeat_done : {n : Source} {kept : Option Kept} {l : List ℕ} {s : List Float} → t < repeat
      → SearchedBy (tries_from x m 2 (tries m) b src.at (tries_given x m 2 (tries m) src draws)) (repeat_moved x m src) (searched n kept) l s
      → (repeats_from x m (repeat - t) b src.at (repeats_given x m (repeat - t) src draws) ≡ repeats_from x m (repeat - (t + 1)) (best_from kept l s) n.at (repeats_given x m (repeat - (t + 1)) n draws))
      × (repeats_moved x m (repeat - t) src ≡ repeats_moved x m (repeat - (t + 1)) n)
      × (Supplies src draws ((repeat - t) * count_of m) → Supplies n draws ((repeat - (t + 1)) * count_of m))
  repeat_done {n} {kept} {l} {s} h q =
      let v = searched_done (tries_from x m 2 (tries m) b src.at (tries_given x m 2 (tries m) src draws)) q in
      let u = best_from kept l s in
      let r = repeat - (t + 1) in
      let z : 0 < m = omega arith in
      let e : repeat - t ≡ suc r = omega arith in (
        ap (λ (i : ℕ). repeats_by i b src) e ∙ source_repeat x m two r b src draws v.2 ∙ ap (repeats_by r u) (sym v.1),
        ap (λ (i : ℕ). repeats_moved x m i src) e ∙ repeats_moved_lem x m z src draws r ∙ ap (repeats_moved x m r) (sym v.1),
        λ a. rw v.1 (repeat_supplies x m z src draws (r * count_of m) (rw (repeats_left t repeat (count_of m) h) at a)),
      )

  pub repeat_stopped : {next : Source} {w : Stop} {l : List ℕ} {s : List Float} → t < repeat → SearchedBy (tries_from x m 2 (tries m) b src.at (tries_given x m 2 (tries m) src draws)) next (Err w) l s
      → (p : ℕ) × (repeats_from x m (repeat - t) b src.at (repeats_given x m (repeat - t) src draws) ≡ refused p) × (w ≡ DrawOutOfRange p)
  repeat_stopped h q =
      let v = searched_stopped (tries_from x m 2 (tries m) b src.at (tries_given x m 2 (tries m) src draws)) q in
      let e : repeat - t ≡ suc (repeat - (t + 1)) = omega arith in
      (v.0, ap (λ (i : ℕ). repeats_by i b src) e ∙ source_repeat_stopped x m two (repeat - (t + 1)) b src draws v.1, v.2)

  pub repeat_supply : t < repeat → Supplies src draws ((repeat - t) * count_of m) → Supplies src draws (count_of m)
  repeat_supply h a = supplies_front (count_of m) ((repeat - (t + 1)) * count_of m) (rw (repeats_left t repeat (count_of m) h) at a)

-- lists of the same lengths as before
pub lists_stay : {m : ℕ} {l l₂ l' l₂' : List ℕ} {s s₂ s' s₂' : List Float} → Lists m l s l₂ s₂ → length l' ≡ length l → length s' ≡ length s → length l₂' ≡ length l₂ → length s₂' ≡ length s₂ → Lists m l' s' l₂' s₂'
lists_stay h a b c d =
    record {
      labels_long = a ∙ h.labels_long;
      scores_long = b ∙ h.scores_long;
      new_labels_long = c ∙ h.new_labels_long;
      new_scores_long = d ∙ h.new_scores_long;
    }
