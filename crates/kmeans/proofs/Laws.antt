-- Laws of k-means: what its answer says of the definition, that it takes exactly its count of draws, that draws behind them change nothing,
-- and that the areas of a round are what it reads.
use Rattle.std.specs.Prelude.{Ok, Err}
use Prim.Native.Nat.{ℕ, ◌+◌, ◌*◌, ◌<◌, ◌≤◌}
use mathlib.Core.Path.{◌≡◌, refl, sym, ◌∙◌, ap, subst}
use mathlib.Core.List.{List, ◌++◌, append_assoc}
use native.Mathlib.Omega.{arith}
use lib.ListN.{length, take, drop, length-append}
use lib.Seq.{take_at, drop_at, drop-drop}
use lib.Ieee.{Float, nan}
use Rattle.lists.specs.Lists.{numbers, part, flat, matrix_of}
use Rattle.lists.proofs.Listed.{length-listed}
use Rattle.lists.proofs.Matrix.{in_matrix, matrix_same}
use Rattle.distance_columns.specs.Pair.{squared_at, pair_at}
use Rattle.distance_columns.specs.Columns.{points_at}
use Rattle.distance_columns.proofs.Steps.{squared_same}
use Rattle.areas.specs.Pairs.{pairs_area}
use Rattle.draws.specs.Counts.{seeding_of}
use Rattle.draws.specs.Draws.{Drawn, drawn, refused}
use Rattle.draws.specs.declared.Stop.{Stop}
use Rattle.draws.specs.declared.Stop.TheVariants.{DrawOutOfRange}
use Rattle.draws.proofs.Taken.{Ends, Among, behind, then_ends, then_behind, then_same}
use Rattle.plusplus.specs.Seeding.{seeding, SeededBy, EachBelow}
use Rattle.plusplus.proofs.Seeds.{seeding_took, seeding_behind, seed_done, seed_stopped}
use Rattle.plusplus.proofs.Same.{seeding_same}
use Rattle.lloyd_pass.specs.declared.Ended.{Ended}
use Rattle.lloyd_pass.specs.Passes.{lloyd_labels, lloyd_ended}
use Rattle.lloyd_table.specs.Area.{Held, Centres}
use Rattle.lloyd.specs.Result.{LloydResult}
use Rattle.lloyd_pass.proofs.Same.{lloyd_same}
use Rattle.lloyd_pass.proofs.Below.{labels_below, labels_length}
use Rattle.kmeans.specs.Clustering.{Grouped, kmeans_of}
use Rattle.kmeans.proofs.Parts.{clustered_parts}
use Rattle.kmeans.specs.Steps.{clustered, ClusteredBy}

-- the groups that the passes make from centres
abbrev grouped : (ℕ → ℕ → Float) → ℕ → ℕ → List ℕ → Grouped
grouped x m k cs = record { labels = lloyd_labels x m k (numbers cs); ended = lloyd_ended x m k (numbers cs) }

-- what `cluster` answers and leaves, by what the seeding answered
module _ (x : ℕ → ℕ → Float) (m k : ℕ) (z : 0 < m) (one_of_lem : 0 < k) (at : ℕ) (ds : List ℕ) (next : ℕ) (cs : List ℕ) where
  pub cluster_stopped : {w : Stop} (labels : List ℕ) → SeededBy (seeding (squared_at x m) m k at ds) next (Err w) cs → ClusteredBy (kmeans_of x m k at ds) next labels (Err w) labels
  unfolding kmeans_of
  cluster_stopped labels s =
      let v = seed_stopped (squared_at x m) m k z one_of_lem at ds next cs s in
      rw (v.1, v.2) (record { answer_is = refl; labels_are = refl })

  module _ {n : ℕ} (s : SeededBy (seeding (squared_at x m) m k at ds) next (Ok n) cs) where
    pub centres_made : k ≤ m → Centres cs m
    centres_made h =
        let v = seed_done (squared_at x m) m k z one_of_lem at ds next cs s in
        record { groups = rw v.1 h; items = v.2 }

    pub cluster_done : (labels : List ℕ) {r : Ended} {labels' : List ℕ} → LloydResult x m cs r labels' → ClusteredBy (kmeans_of x m k at ds) next labels (clustered n r) labels'
    unfolding kmeans_of
    cluster_done labels {r} {labels'} c =
        let v = seed_done (squared_at x m) m k z one_of_lem at ds next cs s in
        let a : r ≡ lloyd_ended x m k (numbers cs) = c.answer ∙ ap (λ (j : ℕ). lloyd_ended x m j (numbers cs)) v.1 in
        let b : labels' ≡ lloyd_labels x m k (numbers cs) = c.labelled ∙ ap (λ (j : ℕ). lloyd_labels x m j (numbers cs)) v.1 in
        rw (v.3, v.0) (record { answer_is = ap (clustered next) a; labels_are = b })

-- what holds of the groups and of the draws that remain
abbrev pub Took : ℕ → ℕ → List ℕ → Grouped → List ℕ → Type 0
Took m k ds g rest = (length g.labels ≡ m) × ((i : ℕ) → i < m → numbers g.labels i < k) × (rest ≡ drop (seeding_of k) ds) × (seeding_of k ≤ length ds)

module _ (x : ℕ → ℕ → Float) (m k : ℕ) (z : 0 < m) (one_of_lem : 0 < k) where
  -- k-means that is not refused gives a label below k to each item, and takes exactly the draws of its seeding; a draw out of range stands among those
  pub kmeans_took : (at : ℕ) (ds : List ℕ) → Ends (Took m k ds) (Among at (seeding_of k)) (kmeans_of x m k at ds)
  unfolding kmeans_of
  kmeans_took at ds =
      then_ends (λ cs rest. (length cs ≡ k) × EachBelow m cs × (rest ≡ drop (seeding_of k) ds) × (seeding_of k ≤ length ds)) (Among at (seeding_of k))
      (Took m k ds) (Among at (seeding_of k))
      (seeding (squared_at x m) m k at ds) (λ cs rest. drawn (grouped x m k cs) rest)
      (seeding_took (squared_at x m) m k z one_of_lem at ds)
      (λ cs rest h. (labels_length x m k (numbers cs), labels_below x m k (numbers cs) z one_of_lem, h.2, h.3))
      (λ p h. h)

  -- draws that stand behind those that are taken change nothing
  pub kmeans_behind : (at : ℕ) (p b : List ℕ) → seeding_of k ≤ length p → kmeans_of x m k at (p ++ b) ≡ behind b (kmeans_of x m k at p)
  unfolding kmeans_of
  kmeans_behind at p b l =
      rw (seeding_behind (squared_at x m) m k z one_of_lem at p b l)
      (then_behind (λ cs rest. (length cs ≡ k) × EachBelow m cs × (rest ≡ drop (seeding_of k) p) × (seeding_of k ≤ length p)) (Among at (seeding_of k))
      (seeding (squared_at x m) m k at p) (λ cs rest. drawn (grouped x m k cs) rest) b
      (seeding_took (squared_at x m) m k z one_of_lem at p) (λ cs rest h. refl))

-- what the answer of a call says of k-means, for callers
done_is : (D : Drawn Grouped) {next n : ℕ} {old new : List ℕ} {e : Ended} → ClusteredBy D next old (clustered n e) new
    → (rest : List ℕ) × (n ≡ next) × (D ≡ drawn (record { labels = new; ended = e }) rest)
done_is (drawn g rest) {next} {n} {old} {new} {e} s =
    let p = clustered_parts n next e g.ended s.answer_is in
    (rest, p.0, rw (p.1, s.labels_are))
done_is (refused p) {next} {n} {old} {new} {e} s =
    let a : clustered n e ≡ Err (DrawOutOfRange p) = s.answer_is in
    let z : ◌≡◌ {A = ℕ} 0 1 = cc in
    absurd (omega arith)

stopped_is : (D : Drawn Grouped) {next : ℕ} {old new : List ℕ} {w : Stop} → ClusteredBy D next old (Err w) new
    → (p : ℕ) × (D ≡ refused p) × (w ≡ DrawOutOfRange p) × (new ≡ old)
stopped_is (drawn g rest) {next} {old} {new} {w} s =
    let a : Err w ≡ clustered next g.ended = s.answer_is in
    let z : ◌≡◌ {A = ℕ} 0 1 = cc in
    absurd (omega arith)
stopped_is (refused p) {next} {old} {new} {w} s =
    let a : Err w ≡ Err (DrawOutOfRange p) = s.answer_is in
    let e : w ≡ DrawOutOfRange p = cc in
    (p, refl, e, s.labels_are)

module _ (x : ℕ → ℕ → Float) (m k : ℕ) (z : 0 < m) (one_of_lem : 0 < k) (at : ℕ) (ds : List ℕ) (next : ℕ) (old new : List ℕ) where
  pub kmeans_done : {n : ℕ} {e : Ended} → ClusteredBy (kmeans_of x m k at ds) next old (clustered n e) new
      → (n ≡ next) × (length new ≡ m) × ((i : ℕ) → i < m → numbers new i < k)
      × (kmeans_of x m k at ds ≡ drawn (record { labels = new; ended = e }) (drop (seeding_of k) ds)) × (seeding_of k ≤ length ds)
  kmeans_done {n} {e} s =
      let v = done_is (kmeans_of x m k at ds) s in
      let t = subst (Ends (Took m k ds) (Among at (seeding_of k))) v.2 (kmeans_took x m k z one_of_lem at ds) in
      (v.1, t.0, t.1, v.2 ∙ ap (drawn (record { labels = new; ended = e })) t.2, t.3)

  pub kmeans_stopped : {w : Stop} → ClusteredBy (kmeans_of x m k at ds) next old (Err w) new
      → (p : ℕ) × (w ≡ DrawOutOfRange p) × (kmeans_of x m k at ds ≡ refused p) × (at ≤ p) × (p < at + seeding_of k) × (new ≡ old)
  kmeans_stopped s =
      let v = stopped_is (kmeans_of x m k at ds) s in
      let t = subst (Ends (Took m k ds) (Among at (seeding_of k))) v.1 (kmeans_took x m k z one_of_lem at ds) in
      (v.0, v.2, v.1, t.0, t.1, v.3)

-- items whose columns agree below m are grouped alike
pub kmeans_same : (x y : ℕ → ℕ → Float) (m k : ℕ) → 0 < m → 0 < k → ((i c : ℕ) → i < m → c < m → x i c ≡ y i c) → (at : ℕ) (ds : List ℕ)
    → kmeans_of x m k at ds ≡ kmeans_of y m k at ds
unfolding kmeans_of
kmeans_same x y m k z one_of_lem agree at ds =
    rw (seeding_same (squared_at x m) (squared_at y m) m z (λ p i h l. squared_same x y m p i agree h l) k at ds)
    (then_same (λ cs rest. (length cs ≡ k) × EachBelow m cs × (rest ≡ drop (seeding_of k) ds) × (seeding_of k ≤ length ds)) (Among at (seeding_of k))
    (seeding (squared_at y m) m k at ds) (λ cs rest. drawn (grouped x m k cs) rest) (λ cs rest. drawn (grouped y m k cs) rest)
    (seeding_took (squared_at y m) m k z one_of_lem at ds)
    (λ cs rest h. let e = lloyd_same x y m k (numbers cs) agree (rw h.0 at h.1) in rw (e.0, e.1)))

-- the four areas of a round and a fifth, whatever it holds
module _ (x : ℕ → ℕ → Float) (m : ℕ) (back : List Float) where
  in_order : pairs_area x m ++ back ≡ matrix_of x m ++ (matrix_of (λ i j. x j i) m ++ (matrix_of (squared_at x m) m ++ (matrix_of (pair_at x m) m ++ back)))
  unfolding pairs_area
  in_order = simp append_assoc

  long : (g : ℕ → ℕ → Float) → length (matrix_of g m) ≡ m * m
  long g = length-listed (flat g m) (m * m)

  first-is : take (m * m) (pairs_area x m ++ back) ≡ matrix_of x m
  first-is = rw in_order (take_at (matrix_of x m) _ (m * m) (long x))

  from_second : drop (m * m) (pairs_area x m ++ back) ≡ matrix_of (λ i j. x j i) m ++ (matrix_of (squared_at x m) m ++ (matrix_of (pair_at x m) m ++ back))
  from_second = rw in_order (drop_at (matrix_of x m) _ (m * m) (long x))

  second_is : part (m * m) (m * m) (pairs_area x m ++ back) ≡ matrix_of (λ i j. x j i) m
  second_is = rw from_second (take_at (matrix_of (λ i j. x j i) m) _ (m * m) (long (λ i j. x j i)))

  from_third : drop (2 * (m * m)) (pairs_area x m ++ back) ≡ matrix_of (squared_at x m) m ++ (matrix_of (pair_at x m) m ++ back)
  from_third =
      let e : m * m + m * m ≡ 2 * (m * m) = omega arith in
      rw (← e) (sym (drop-drop (m * m) (m * m) (pairs_area x m ++ back)) ∙ ap (drop (m * m)) from_second ∙ drop_at (matrix_of (λ i j. x j i) m) _ (m * m) (long (λ i j. x j i)))

  third_is : part (2 * (m * m)) (m * m) (pairs_area x m ++ back) ≡ matrix_of (squared_at x m) m
  third_is = rw from_third (take_at (matrix_of (squared_at x m) m) _ (m * m) (long (squared_at x m)))

  from_fourth : drop (3 * (m * m)) (pairs_area x m ++ back) ≡ matrix_of (pair_at x m) m ++ back
  from_fourth =
      let e : 2 * (m * m) + m * m ≡ 3 * (m * m) = omega arith in
      rw (← e) (sym (drop-drop (m * m) (2 * (m * m)) (pairs_area x m ++ back)) ∙ ap (drop (m * m)) from_third ∙ drop_at (matrix_of (squared_at x m) m) _ (m * m) (long (squared_at x m)))

  -- the pair distances
  pub fourth_is : part (3 * (m * m)) (m * m) (pairs_area x m ++ back) ≡ matrix_of (pair_at x m) m
  fourth_is = rw from_fourth (take_at (matrix_of (pair_at x m) m) back (m * m) (long (pair_at x m)))

  -- the points that k-means reads there are x
  pub pairs_points : (i c : ℕ) → i < m → c < m → points_at (pairs_area x m ++ back) m i c ≡ x i c
  pairs_points i c h l = in_matrix x m i c nan first-is h l

  pub pairs_held : 0 < m → m ≤ 256 → length back ≡ m * m → Held (pairs_area x m ++ back) m
  pairs_held some few l =
      record {
        some = some;
        few = few;
        size = pairs_size l;
        across = second_is ∙ matrix_same nan (λ i j. x j i) (λ i j. points_at (pairs_area x m ++ back) m j i) m (λ i j h c. sym (pairs_points j i c h));
        squares =
            third_is
            ∙ matrix_same nan (squared_at x m) (squared_at (points_at (pairs_area x m ++ back) m) m) m
            (λ i j h c. squared_same x (points_at (pairs_area x m ++ back) m) m i j (λ a b u v. sym (pairs_points a b u v)) h c);
      }
    where
      pairs_size : length back ≡ m * m → length (pairs_area x m ++ back) ≡ 5 * (m * m)
      pairs_size l =
          rw in_order (simp length-append (omega (arith, l, long x, long (λ i j. x j i), long (squared_at x m), long (pair_at x m))))
