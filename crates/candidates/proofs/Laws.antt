-- Laws of the candidates of a round: one candidate more, what the best is, how many draws are taken, that draws behind those change nothing,
-- and that items whose columns agree have the same best.
use Prim.Native.Nat.{ℕ, zero, suc, ◌+◌, ◌*◌, ◌<◌, ◌≤◌, zero-le}
use mathlib.Core.Path.{◌≡◌, refl, ◌∙◌, ap}
use mathlib.Core.Bool.{Bool, true, false, cond}
use mathlib.Core.List.{List, ◌++◌}
use native.Mathlib.Nat.{suc-mul, zero-mul}
use native.Mathlib.Omega.{arith}
use lib.ListN.{length, drop, length-drop}
use lib.Seq.{drop-drop}
use lib.Ieee.{Float, inf, lt}
use Rattle.lists.specs.Lists.{numbers}
use Rattle.draws.specs.Counts.{seeding_of, seedings_of, count_of, tries}
use Rattle.draws.specs.Draws.{Drawn, drawn, refused, and_then}
use Rattle.draws.proofs.Taken.{Ends, Among, behind, then_ends, then_behind, then_same, ends_map}
use Rattle.kmeans.specs.Clustering.{Grouped, kmeans_of}
use Rattle.kmeans.proofs.Laws.{Took, kmeans_took, kmeans_behind, kmeans_same}
use Rattle.silhouette_areas.proofs.Laws.{scores_same}
use Rattle.choice.specs.Replaces.{replaces}
use Rattle.candidates.specs.Candidates.{Candidate, candidate, candidate_of, candidate_from, Best, nothing, found, keep, tries_from, repeats_from, best_of}

-- what is made of the candidate, as it is kept or not
module _ (x : ℕ → ℕ → Float) (m k : ℕ) (b : Best) (at : ℕ) where
  by_candidate : (D : Drawn Grouped)
      → and_then D (λ g rest. tries_from x m (suc k) 0 (keep (candidate_of x m g.labels) b) (at + seeding_of k) rest)
      ≡ and_then (and_then D (λ g rest. drawn (candidate_of x m g.labels) rest)) (λ c rest. drawn (keep c b) rest)
  unfolding tries_from
  by_candidate (drawn g rest) = refl
  by_candidate (refused p) = refl

  pub tries_one : (ds : List ℕ) → tries_from x m k 1 b at ds ≡ and_then (candidate_from x m k at ds) (λ c rest. drawn (keep c b) rest)
  unfolding tries_from candidate_from
  tries_one ds = by_candidate (kmeans_of x m k at ds)

  by_turn : (j : ℕ) (D : Drawn Grouped)
      → and_then D (λ g rest. tries_from x m (suc k) j (keep (candidate_of x m g.labels) b) (at + seeding_of k) rest)
      ≡ and_then (and_then D (λ g rest. tries_from x m (suc k) 0 (keep (candidate_of x m g.labels) b) (at + seeding_of k) rest)) (λ u rest. tries_from x m (suc k) j u (at + seeding_of k) rest)
  unfolding tries_from
  by_turn j (drawn g rest) = refl
  by_turn j (refused p) = refl

  -- one candidate, then the others
  pub tries_more : (j : ℕ) (ds : List ℕ) → tries_from x m k (suc j) b at ds ≡ and_then (tries_from x m k 1 b at ds) (λ u rest. tries_from x m (suc k) j u (at + seeding_of k) rest)
  unfolding tries_from
  tries_more j ds = by_turn j (kmeans_of x m k at ds)

-- what holds once c draws have been taken
abbrev pub Passed : {S : Type 0} → (S → Type 0) → ℕ → List ℕ → S → List ℕ → Type 0
Passed P c ds u rest = P u × (rest ≡ drop c ds) × (c ≤ length ds)

-- a draws, then c more
passed_both : {S : Type 0} (P : S → Type 0) (a c : ℕ) (ds ds' rest : List ℕ) (u : S) → ds' ≡ drop a ds → a ≤ length ds → Passed P c ds' u rest → Passed P (a + c) ds u rest
passed_both P a c ds ds' rest u e l h =
    (h.0, h.1 ∙ ap (drop c) e ∙ drop-drop c a ds, omega (arith, h.2, ap length e ∙ length-drop a ds, l))

-- the count of draws of a repeat is that of its candidates
pub count_is : (m : ℕ) → count_of m ≡ seedings_of 2 (tries m)
unfolding count_of
count_is m = refl

-- the candidates of a repeat have at most m groups
pub tries_few : (m : ℕ) → 2 ≤ m → 2 + tries m ≤ m + 1
tries_few m h = omega arith

-- What holds of the best before, and is kept by each candidate, holds of the best after; and exactly the count of draws is taken.
module _ (x : ℕ → ℕ → Float) (m : ℕ) (z : 0 < m) (P : Best → Type 0)
    (keeps : (l : List ℕ) (b : Best) → length l ≡ m → ((i : ℕ) → i < m → numbers l i < m) → P b → P (keep (candidate_of x m l) b)) where
  pub tries_took : (j k : ℕ) → 0 < k → k + j ≤ m + 1 → (b : Best) (at : ℕ) (ds : List ℕ) → P b
      → Ends (Passed P (seedings_of k j) ds) (Among at (seedings_of k j)) (tries_from x m k j b at ds)
  unfolding tries_from seedings_of
  tries_took zero k some few b at ds h = (h, refl, zero-le)
  tries_took (suc j) k some few b at ds h =
      then_ends (Took m k ds) (Among at (seeding_of k)) (Passed P (seeding_of k + seedings_of (suc k) j) ds) (Among at (seeding_of k + seedings_of (suc k) j))
      (kmeans_of x m k at ds) (λ g rest. tries_from x m (suc k) j (keep (candidate_of x m g.labels) b) (at + seeding_of k) rest)
      (kmeans_took x m k z some at ds)
      (λ g rest t.
      ends_map (Passed P (seedings_of (suc k) j) rest) (Among (at + seeding_of k) (seedings_of (suc k) j)) (Passed P (seeding_of k + seedings_of (suc k) j) ds) (Among at (seeding_of k + seedings_of (suc k) j))
      (tries_from x m (suc k) j (keep (candidate_of x m g.labels) b) (at + seeding_of k) rest)
      (tries_took j (suc k) (omega arith) (omega arith) (keep (candidate_of x m g.labels) b) (at + seeding_of k) rest (keeps g.labels b t.0 (λ i l. omega (arith, t.1 i l)) h))
      (λ u r q. passed_both P (seeding_of k) (seedings_of (suc k) j) ds rest r u t.2 t.3 q)
      (λ p q. (omega (arith, q.0), omega (arith, q.1))))
      (λ p q. (q.0, omega (arith, q.1)))

  pub repeat_took : 2 ≤ m → (b : Best) (at : ℕ) (ds : List ℕ) → P b → Ends (Passed P (count_of m) ds) (Among at (count_of m)) (tries_from x m 2 (tries m) b at ds)
  repeat_took two b at ds h = rw (count_is m) (tries_took (tries m) 2 (omega arith) (tries_few m two) b at ds h)

  pub repeats_took : 2 ≤ m → (r : ℕ) (b : Best) (at : ℕ) (ds : List ℕ) → P b → Ends (Passed P (r * count_of m) ds) (Among at (r * count_of m)) (repeats_from x m r b at ds)
  unfolding repeats_from
  repeats_took two zero b at ds h = (h, rw (zero-mul (count_of m)) refl, rw (zero-mul (count_of m)) zero-le)
  repeats_took two (suc r) b at ds h =
      then_ends (Passed P (count_of m) ds) (Among at (count_of m)) (Passed P (suc r * count_of m) ds) (Among at (suc r * count_of m))
      (tries_from x m 2 (tries m) b at ds) (λ u rest. repeats_from x m r u (at + count_of m) rest)
      (repeat_took two b at ds h)
      (λ u rest t.
      ends_map (Passed P (r * count_of m) rest) (Among (at + count_of m) (r * count_of m)) (Passed P (suc r * count_of m) ds) (Among at (suc r * count_of m))
      (repeats_from x m r u (at + count_of m) rest)
      (repeats_took two r u (at + count_of m) rest t.0)
      (λ v s q.
      let e : count_of m + r * count_of m ≡ suc r * count_of m = omega (arith, suc-mul r (count_of m)) in
      rw e at (passed_both P (count_of m) (r * count_of m) ds rest s v t.1 t.2 q))
      (λ p q. (omega (arith, q.0), omega (arith, q.1, suc-mul r (count_of m)))))
      (λ p q. (q.0, omega (arith, q.1, suc-mul r (count_of m))))

-- a best candidate is the candidate of its labels, each of which is below m
abbrev pub Found : (ℕ → ℕ → Float) → ℕ → Best → Type 0
Found x m nothing = Unit
Found x m (found c) = (length c.labels ≡ m) × ((i : ℕ) → i < m → numbers c.labels i < m) × (c ≡ candidate_of x m c.labels)

found_chosen : (x : ℕ → ℕ → Float) (m : ℕ) (t : Bool) (a b : Best) → Found x m a → Found x m b → Found x m (cond t a b)
found_chosen x m true a b h g = h
found_chosen x m false a b h g = g

found_kept : (x : ℕ → ℕ → Float) (m : ℕ) (l : List ℕ) (b : Best) → length l ≡ m → ((i : ℕ) → i < m → numbers l i < m) → Found x m b → Found x m (keep (candidate_of x m l) b)
found_kept x m l nothing n below h = found_chosen x m (lt (inf true) (candidate_of x m l).stat) (found (candidate_of x m l)) nothing (n, below, refl) tt
found_kept x m l (found b) n below h =
    found_chosen x m (replaces (candidate_of x m l).stat (candidate_of x m l).mean b.stat b.mean) (found (candidate_of x m l)) (found b) (n, below, refl) h

-- the best of all candidates, and the draws that they take; a draw out of range stands among those
pub best_took : (x : ℕ → ℕ → Float) (m repeats : ℕ) → 2 ≤ m → (at : ℕ) (ds : List ℕ)
    → Ends (λ b rest. Found x m b × (rest ≡ drop (repeats * count_of m) ds) × (repeats * count_of m ≤ length ds)) (λ p. (at ≤ p) × (p < at + repeats * count_of m)) (best_of x m repeats at ds)
unfolding best_of
best_took x m repeats two at ds = repeats_took x m (omega arith) (Found x m) (found_kept x m) two repeats nothing at ds tt

-- draws that stand behind those that are taken change nothing
module _ (x : ℕ → ℕ → Float) (m : ℕ) (z : 0 < m) where
  pub tries_behind : (j k : ℕ) → 0 < k → (u : Best) (at : ℕ) (p b : List ℕ) → seedings_of k j ≤ length p → tries_from x m k j u at (p ++ b) ≡ behind b (tries_from x m k j u at p)
  unfolding tries_from seedings_of
  tries_behind zero k some u at p b l = refl
  tries_behind (suc j) k some u at p b l =
      rw (kmeans_behind x m k z some at p b (omega arith))
      (then_behind (Took m k p) (Among at (seeding_of k)) (kmeans_of x m k at p) (λ g rest. tries_from x m (suc k) j (keep (candidate_of x m g.labels) u) (at + seeding_of k) rest) b
      (kmeans_took x m k z some at p)
      (λ g rest t. tries_behind j (suc k) (omega arith) (keep (candidate_of x m g.labels) u) (at + seeding_of k) rest b (omega (arith, ap length t.2 ∙ length-drop (seeding_of k) p))))

  repeats_behind : 2 ≤ m → (r : ℕ) (u : Best) (at : ℕ) (p b : List ℕ) → r * count_of m ≤ length p → repeats_from x m r u at (p ++ b) ≡ behind b (repeats_from x m r u at p)
  unfolding repeats_from
  repeats_behind two zero u at p b l = refl
  repeats_behind two (suc r) u at p b l =
      rw (tries_behind (tries m) 2 (omega arith) u at p b (rw (← count_is m) (omega (arith, suc-mul r (count_of m)))))
      (then_behind (Passed (λ v. Unit) (count_of m) p) (Among at (count_of m)) (tries_from x m 2 (tries m) u at p) (λ v rest. repeats_from x m r v (at + count_of m) rest) b
      (repeat_took x m z (λ v. Unit) (λ l v n below h. tt) two u at p tt)
      (λ v rest t. repeats_behind two r v (at + count_of m) rest b (omega (arith, ap length t.1 ∙ length-drop (count_of m) p, suc-mul r (count_of m)))))

pub best_behind : (x : ℕ → ℕ → Float) (m repeats : ℕ) → 2 ≤ m → (at : ℕ) (p b : List ℕ) → repeats * count_of m ≤ length p → best_of x m repeats at (p ++ b) ≡ behind b (best_of x m repeats at p)
unfolding best_of
best_behind x m repeats two at p b l = repeats_behind x m (omega arith) two repeats nothing at p b l

-- items whose columns agree below m have the same candidates, and the same best
module _ (x y : ℕ → ℕ → Float) (m : ℕ) (z : 0 < m) (agree : (i c : ℕ) → i < m → c < m → x i c ≡ y i c) where
  pub candidate_same : (l : List ℕ) → candidate_of x m l ≡ candidate_of y m l
  candidate_same l = ap (candidate l) (scores_same x y m (numbers l) (numbers l) agree (λ i h. refl))

  tries_same : (j k : ℕ) → 0 < k → (b : Best) (at : ℕ) (ds : List ℕ) → tries_from x m k j b at ds ≡ tries_from y m k j b at ds
  unfolding tries_from
  tries_same zero k some b at ds = refl
  tries_same (suc j) k some b at ds =
      rw (kmeans_same x y m k z some agree at ds)
      (then_same (Took m k ds) (Among at (seeding_of k)) (kmeans_of y m k at ds)
      (λ g rest. tries_from x m (suc k) j (keep (candidate_of x m g.labels) b) (at + seeding_of k) rest)
      (λ g rest. tries_from y m (suc k) j (keep (candidate_of y m g.labels) b) (at + seeding_of k) rest)
      (kmeans_took y m k z some at ds)
      (λ g rest t.
      tries_same j (suc k) (omega arith) (keep (candidate_of x m g.labels) b) (at + seeding_of k) rest
      ∙ ap (λ (c : Candidate). tries_from y m (suc k) j (keep c b) (at + seeding_of k) rest) (candidate_same g.labels)))

  repeats_same : 2 ≤ m → (r : ℕ) (b : Best) (at : ℕ) (ds : List ℕ) → repeats_from x m r b at ds ≡ repeats_from y m r b at ds
  unfolding repeats_from
  repeats_same two zero b at ds = refl
  repeats_same two (suc r) b at ds =
      rw (tries_same (tries m) 2 (omega arith) b at ds)
      (then_same (Passed (λ v. Unit) (count_of m) ds) (Among at (count_of m)) (tries_from y m 2 (tries m) b at ds)
      (λ v rest. repeats_from x m r v (at + count_of m) rest) (λ v rest. repeats_from y m r v (at + count_of m) rest)
      (repeat_took y m z (λ v. Unit) (λ l v n below h. tt) two b at ds tt)
      (λ v rest t. repeats_same two r v (at + count_of m) rest))

pub best_same : (x y : ℕ → ℕ → Float) (m repeats : ℕ) → 2 ≤ m → ((i c : ℕ) → i < m → c < m → x i c ≡ y i c) → (at : ℕ) (ds : List ℕ)
    → best_of x m repeats at ds ≡ best_of y m repeats at ds
unfolding best_of
best_same x y m repeats two agree at ds = repeats_same x y m (omega arith) agree two repeats nothing at ds
