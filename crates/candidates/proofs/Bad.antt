-- A draw that ends the search is out of range, where there are draws enough (specs/Ranges.antt); and a draw out of range ends it, there or in front of it.
use Prim.Native.Nat.{ℕ, zero, suc, ◌+◌, ◌-◌, ◌*◌, ◌<◌, ◌≤◌, max}
use mathlib.Core.Path.{◌≡◌, refl, sym, ◌∙◌, ap, subst}
use mathlib.Core.List.{List}
use mathlib.Core.Logic.{by_cases}
use native.Mathlib.Nat.{suc-mul, zero-mul, mul-le-mul_right}
use native.Mathlib.Decide.{dec_lt}
use native.Mathlib.Omega.{arith}
use lib.ListN.{length, drop}
use lib.Seq.{drop-drop}
use lib.Ieee.{Float}
use Rattle.distance_columns.specs.Pair.{squared_at}
use Rattle.draws.specs.Counts.{seeding_of, seedings_of, count_of, tries}
use Rattle.draws.specs.Draws.{Drawn}
use Rattle.draws.proofs.Counting.{seedings_more, seedings_mono}
use Rattle.draws.proofs.Taken.{Among, then_ends}
use Rattle.draws.proofs.Bad.{Reads, reads_map, then_reads, Stops, then_stops}
use Rattle.plusplus.specs.Ranges.{OutOfRange}
use Rattle.plusplus.proofs.Bad.{out_from}
use Rattle.kmeans.specs.Clustering.{Grouped, kmeans_of}
use Rattle.kmeans.proofs.Laws.{Took, kmeans_took}
use Rattle.kmeans.proofs.Bad.{kmeans_bad, kmeans_out}
use Rattle.candidates.specs.Candidates.{candidate_of, Best, nothing, keep, tries_from, repeats_from, best_of}
use Rattle.candidates.specs.Ranges.{RoundOutOfRange}
use Rattle.candidates.proofs.Laws.{count_is, Passed, repeat_took}

module _ (x : ℕ → ℕ → Float) (m : ℕ) (draws : List ℕ) where
  -- out of range for a seeding of the repeat that starts at place `from`
  abbrev InRepeat : ℕ → ℕ → Type 0
  InRepeat from p = (k : ℕ) × (2 ≤ k) × (k ≤ max 2 (m - 1)) × OutOfRange (squared_at x m) m k (from + seedings_of 2 (k - 2)) draws p

  seedings_none : seedings_of 2 (2 - 2) ≡ 0
  unfolding seedings_of
  seedings_none = refl

  seedings_to : (k : ℕ) → 2 ≤ k → seedings_of 2 (suc k - 2) ≡ seedings_of 2 (k - 2) + seeding_of k
  seedings_to k two =
      let s : suc k - 2 ≡ suc (k - 2) = omega arith in
      let e : 2 + (k - 2) ≡ k = omega arith in
      ap (seedings_of 2) s ∙ seedings_more (k - 2) 2 ∙ ap (λ (i : ℕ). seedings_of 2 (k - 2) + seeding_of i) e

  tries_bad : (from j k : ℕ) → 2 ≤ k → k + j ≡ 2 + tries m → (b : Best) (at : ℕ) → at ≡ from + seedings_of 2 (k - 2) → at + seedings_of k j ≤ length draws
      → Reads draws (at + seedings_of k j) (InRepeat from) (tries_from x m k j b at (drop at draws))
  unfolding tries_from seedings_of
  tries_bad from zero k two end b at e l = let z : at ≡ at + 0 = omega arith in ap (λ (i : ℕ). drop i draws) z
  tries_bad from (suc j) k two end b at e l =
      then_reads draws (at + seeding_of k) (at + seedings_of k (suc j)) (OutOfRange (squared_at x m) m k at draws) (InRepeat from)
      (kmeans_of x m k at (drop at draws)) (λ g rest. tries_from x m (suc k) j (keep (candidate_of x m g.labels) b) (at + seeding_of k) rest)
      (kmeans_bad x m k draws at (omega arith))
      (λ g d.
      reads_map draws (at + seeding_of k + seedings_of (suc k) j) (at + seedings_of k (suc j)) (InRepeat from) (InRepeat from)
      (tries_from x m (suc k) j (keep (candidate_of x m g.labels) b) (at + seeding_of k) (drop (at + seeding_of k) draws))
      (tries_bad from j (suc k) (omega arith) (omega arith) (keep (candidate_of x m g.labels) b) (at + seeding_of k) (omega (arith, e, seedings_to k two)) (omega arith))
      (omega arith) (λ p o. o))
      (λ p o. (k, two, omega arith, subst (λ (i : ℕ). OutOfRange (squared_at x m) m k i draws p) e o))

  repeats_bad : (repeats start r i : ℕ) → i + r ≡ repeats → (b : Best) (at : ℕ) → at ≡ start + i * count_of m → at + r * count_of m ≤ length draws
      → Reads draws (at + r * count_of m) (RoundOutOfRange x m repeats start draws) (repeats_from x m r b at (drop at draws))
  unfolding repeats_from
  repeats_bad repeats start zero i n b at e l = let z : at ≡ at + 0 * count_of m = omega (arith, zero-mul (count_of m)) in ap (λ (i : ℕ). drop i draws) z
  repeats_bad repeats start (suc r) i n b at e l =
      let c : at + seedings_of 2 (tries m) ≡ at + count_of m = ap (λ (i : ℕ). at + i) (sym (count_is m)) in
      then_reads draws (at + count_of m) (at + suc r * count_of m) (InRepeat at) (RoundOutOfRange x m repeats start draws)
      (tries_from x m 2 (tries m) b at (drop at draws)) (λ v rest. repeats_from x m r v (at + count_of m) rest)
      (reads_map draws (at + seedings_of 2 (tries m)) (at + count_of m) (InRepeat at) (InRepeat at) (tries_from x m 2 (tries m) b at (drop at draws))
      (tries_bad at (tries m) 2 (omega arith) refl b at (omega (arith, seedings_none)) (omega (arith, c, suc-mul r (count_of m)))) c (λ p o. o))
      (λ v d.
      reads_map draws (at + count_of m + r * count_of m) (at + suc r * count_of m) (RoundOutOfRange x m repeats start draws) (RoundOutOfRange x m repeats start draws)
      (repeats_from x m r v (at + count_of m) (drop (at + count_of m) draws))
      (repeats_bad repeats start r (suc i) (omega arith) v (at + count_of m) (omega (arith, e, suc-mul i (count_of m))) (omega (arith, suc-mul r (count_of m))))
      (omega (arith, suc-mul r (count_of m))) (λ p o. o))
      (λ p o. (i, o.0, omega arith, o.1, o.2, subst (λ (s : ℕ). OutOfRange (squared_at x m) m o.0 (s + seedings_of 2 (o.0 - 2)) draws p) e o.3))

pub best_bad : (x : ℕ → ℕ → Float) (m repeats : ℕ) (draws : List ℕ) (at : ℕ) → at + repeats * count_of m ≤ length draws
    → Reads draws (at + repeats * count_of m) (RoundOutOfRange x m repeats at draws) (best_of x m repeats at (drop at draws))
unfolding best_of
best_bad x m repeats draws at l = repeats_bad x m draws repeats at repeats 0 (omega arith) nothing at (omega (arith, zero-mul (count_of m))) l

module _ (x : ℕ → ℕ → Float) (m : ℕ) (z : 0 < m) (draws : List ℕ) (p : ℕ) where
  -- out of range for the seeding of k centres in the repeat that starts at place `from`; the candidates before it have i, i + 1, .. groups
  tries_out : (from k : ℕ) → OutOfRange (squared_at x m) m k (from + seedings_of 2 (k - 2)) draws p
      → (j i : ℕ) → 2 ≤ i → i ≤ k → k < i + j → (b : Best) (at : ℕ) → at ≡ from + seedings_of 2 (i - 2) → Stops p (tries_from x m i j b at (drop at draws))
  unfolding tries_from
  tries_out from k o zero i two l h b at e = let y : ⊥ = omega arith in absurd y
  tries_out from k o (suc j) i two l h b at e =
      by_cases (dec_lt i k)
      (λ g.
      let more : seedings_of 2 (suc i - 2) ≤ seedings_of 2 (k - 2) = seedings_mono 2 (suc i - 2) (k - 2) (omega arith) in
      let next : at + seeding_of i ≡ from + seedings_of 2 (suc i - 2) = omega (arith, e, seedings_to x m draws i two) in
      then_ends (Took m i (drop at draws)) (Among at (seeding_of i)) (λ u rest. ⊥) (λ y. y ≤ p) (kmeans_of x m i at (drop at draws)) (λ c rest. again c rest)
      (kmeans_took x m i z (omega arith) at (drop at draws))
      (λ c rest t.
      subst (λ (ds : List ℕ). Stops p (again c ds)) (sym (t.2 ∙ drop-drop (seeding_of i) at draws))
      (tries_out from k o j (suc i) (omega arith) (omega arith) (omega arith) (keep (candidate_of x m c.labels) b) (at + seeding_of i) next))
      (λ y t. omega (arith, t.1, next, more, out_from (squared_at x m) m k draws (from + seedings_of 2 (k - 2)) o)))
      (λ n.
      let same : k ≡ i = omega arith in
      let here : from + seedings_of 2 (k - 2) ≡ at = omega (arith, e, ap (λ (y : ℕ). seedings_of 2 (y - 2)) same) in
      then_stops p (kmeans_of x m i at (drop at draws)) (λ c rest. again c rest)
      (kmeans_out x m i draws at z (subst (λ (y : ℕ). OutOfRange (squared_at x m) m y at draws p) same (subst (λ (y : ℕ). OutOfRange (squared_at x m) m k y draws p) here o))))
    where
      again : Grouped → List ℕ → Drawn Best
      again c rest = tries_from x m (suc i) j (keep (candidate_of x m c.labels) b) (at + seeding_of i) rest

  -- in the repeat r of those from i on
  repeats_out : 2 ≤ m → (start r k : ℕ) → 2 ≤ k → k ≤ max 2 (m - 1) → OutOfRange (squared_at x m) m k (start + r * count_of m + seedings_of 2 (k - 2)) draws p
      → (j i : ℕ) → i ≤ r → r < i + j → (b : Best) (at : ℕ) → at ≡ start + i * count_of m → Stops p (repeats_from x m j b at (drop at draws))
  unfolding repeats_from
  repeats_out two start r k some few o zero i l h b at e = let y : ⊥ = omega arith in absurd y
  repeats_out two start r k some few o (suc j) i l h b at e =
      by_cases (dec_lt i r)
      (λ g.
      let more : suc i * count_of m ≤ r * count_of m = mul-le-mul_right (count_of m) g in
      let next : at + count_of m ≡ start + suc i * count_of m = omega (arith, e, suc-mul i (count_of m)) in
      then_ends (Passed (λ v. Unit) (count_of m) (drop at draws)) (Among at (count_of m)) (λ u rest. ⊥) (λ y. y ≤ p)
      (tries_from x m 2 (tries m) b at (drop at draws)) (λ v rest. repeats_from x m j v (at + count_of m) rest)
      (repeat_took x m z (λ v. Unit) (λ a c d f s. tt) two b at (drop at draws) tt)
      (λ v rest t.
      subst (λ (ds : List ℕ). Stops p (repeats_from x m j v (at + count_of m) ds)) (sym (t.1 ∙ drop-drop (count_of m) at draws))
      (repeats_out two start r k some few o j (suc i) g (omega arith) v (at + count_of m) next))
      (λ y t. omega (arith, t.1, next, more, out_from (squared_at x m) m k draws (start + r * count_of m + seedings_of 2 (k - 2)) o)))
      (λ n.
      let same : r ≡ i = omega arith in
      let here : start + r * count_of m ≡ at = omega (arith, e, ap (λ (y : ℕ). y * count_of m) same) in
      then_stops p (tries_from x m 2 (tries m) b at (drop at draws)) (λ v rest. repeats_from x m j v (at + count_of m) rest)
      (tries_out at k (subst (λ (y : ℕ). OutOfRange (squared_at x m) m k (y + seedings_of 2 (k - 2)) draws p) here o) (tries m) 2 (omega arith) some (omega arith) b at
      (omega (arith, seedings_none x m draws))))

pub best_out : (x : ℕ → ℕ → Float) (m repeats : ℕ) → 2 ≤ m → (draws : List ℕ) (at p : ℕ) → RoundOutOfRange x m repeats at draws p
    → Stops p (best_of x m repeats at (drop at draws))
unfolding best_of
best_out x m repeats two draws at p (r, k, l, some, few, o) =
    repeats_out x m (omega arith) draws p two at r k some few o repeats 0 (omega arith) (omega arith) nothing at (omega (arith, zero-mul (count_of m)))
