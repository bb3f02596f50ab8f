-- The draws that a generator gives along the candidates of a round are, one after the other, its next of the kind that the round takes there.
use Prim.Native.Nat.{ℕ, zero, suc, ◌+◌, ◌-◌, ◌*◌, ◌^◌, ◌<◌, ◌≤◌}
use mathlib.Core.Path.{◌≡◌, sym, ap, subst}
use mathlib.Core.List.{List}
use mathlib.Core.Logic.{◌⊎◌, inl, inr, by_cases}
use native.Mathlib.Nat.{suc-mul, zero-mul, not-suc-le-zero}
use native.Mathlib.Decide.{dec_lt}
use native.Mathlib.Omega.{arith}
use lib.ListN.{length}
use lib.Ieee.{Float}
use Rattle.distance_columns.specs.Pair.{squared_at}
use Rattle.draws.specs.Counts.{seeding_of, seedings_of, count_of, tries}
use Rattle.plusplus_seeded.specs.Seeded.{seed_made}
use Rattle.plusplus_seeded.specs.Kinds.{Kind, KindAt}
use Rattle.plusplus_seeded.proofs.Made.{seed_long}
use Rattle.plusplus_seeded.proofs.OfKinds.{Kinded, kinded_none, kinded_then, kinded_map, seed_kinded}
use Rattle.candidates.specs.Made.{tries_made, repeats_made}
use Rattle.candidates.specs.Kinds.{RoundKindAt}
use Rattle.candidates.proofs.Sourced.{repeat_long}

-- the seedings in front of one
seedings_here : (k : ℕ) → seedings_of k (k - k) ≡ 0
unfolding seedings_of
seedings_here k = let n : k - k ≡ 0 = omega arith in ap (seedings_of k) n

seedings_behind : (k j : ℕ) → k < j → seedings_of k (j - k) ≡ seeding_of k + seedings_of (suc k) (j - suc k)
unfolding seedings_of
seedings_behind k j l = let n : j - k ≡ suc (j - suc k) = omega arith in ap (seedings_of k) n

module _ (w : ℕ → ℕ) (small : (i : ℕ) → w i < 2 ^ 32) (x : ℕ → ℕ → Float) (m : ℕ) (z : 0 < m) where
  -- for the seeding of one of j numbers of centres, from k on
  abbrev TriesKindAt : ℕ → ℕ → ℕ → List ℕ → ℕ → Kind → Type 0
  TriesKindAt k j at draws p kind = (c : ℕ) × (k ≤ c) × (c < k + j) × KindAt (squared_at x m) m c (at + seedings_of k (c - k)) draws p kind

  module _ (k j i : ℕ) (some : 0 < k) (at : ℕ) (draws : List ℕ) (p : ℕ) (kind : Kind) where
    -- the seedings behind one that starts here
    place_behind : (c : ℕ) → k < c → at + seedings_of k (c - k) ≡ at + length (seed_made w (squared_at x m) m k i).draws + seedings_of (suc k) (c - suc k)
    place_behind c g = omega (arith, seedings_behind k c g, seed_long w small (squared_at x m) m k z some i)

    place_here : at + seedings_of k (k - k) ≡ at
    place_here = omega (arith, seedings_here k)

    tries_parts : TriesKindAt k (suc j) at draws p kind
        → KindAt (squared_at x m) m k at draws p kind ⊎ TriesKindAt (suc k) j (at + length (seed_made w (squared_at x m) m k i).draws) draws p kind
    tries_parts (c, a, b, h) =
        by_cases (dec_lt k c) (λ g. inr (c, g, omega arith, subst (λ (y : ℕ). KindAt (squared_at x m) m c y draws p kind) (place_behind c g) h))
        (λ g.
        let same : c ≡ k = omega arith in
        inl (subst (λ (y : ℕ). KindAt (squared_at x m) m k y draws p kind) place_here (subst (λ (y : ℕ). KindAt (squared_at x m) m y (at + seedings_of k (y - k)) draws p kind) same h)))

    tries_joins : KindAt (squared_at x m) m k at draws p kind ⊎ TriesKindAt (suc k) j (at + length (seed_made w (squared_at x m) m k i).draws) draws p kind
        → TriesKindAt k (suc j) at draws p kind
    tries_joins (inl h) = (k, omega arith, omega arith, subst (λ (y : ℕ). KindAt (squared_at x m) m k y draws p kind) (sym place_here) h)
    tries_joins (inr (c, a, b, h)) = (c, omega (arith, a), omega (arith, b), subst (λ (y : ℕ). KindAt (squared_at x m) m c y draws p kind) (sym (place_behind c a)) h)

  tries_kinded : (j k i : ℕ) → 0 < k → Kinded w i (tries_made w x m k j i).draws (tries_made w x m k j i).next (TriesKindAt k j)
  unfolding tries_made
  tries_kinded zero k i some = kinded_none w i (TriesKindAt k 0) (λ at draws p kind h. omega (arith, h.1, h.2))
  tries_kinded (suc j) k i some =
      kinded_then (seed_kinded w small (squared_at x m) m k z i) (tries_kinded j (suc k) (seed_made w (squared_at x m) m k i).next (omega arith)) (TriesKindAt k (suc j))
      (λ at draws after e. tries_parts k j i some at draws) (λ at draws after e. tries_joins k j i some at draws)

  -- in one of the repeats
  abbrev RepeatsKindAt : ℕ → ℕ → List ℕ → ℕ → Kind → Type 0
  RepeatsKindAt repeats at draws p kind = (r : ℕ) × (r < repeats) × TriesKindAt 2 (tries m) (at + r * count_of m) draws p kind

  module _ (repeats i at : ℕ) (draws : List ℕ) (p : ℕ) (kind : Kind) where
    repeat_behind : (r : ℕ) → at + suc r * count_of m ≡ at + length (tries_made w x m 2 (tries m) i).draws + r * count_of m
    repeat_behind r = omega (arith, suc-mul r (count_of m), repeat_long w small x m z i)

    repeat_here : at + 0 * count_of m ≡ at
    repeat_here = omega (arith, zero-mul (count_of m))

    repeats_parts : RepeatsKindAt (suc repeats) at draws p kind
        → TriesKindAt 2 (tries m) at draws p kind ⊎ RepeatsKindAt repeats (at + length (tries_made w x m 2 (tries m) i).draws) draws p kind
    repeats_parts (zero, l, h) = inl (subst (λ (y : ℕ). TriesKindAt 2 (tries m) y draws p kind) repeat_here h)
    repeats_parts (suc r, l, h) = inr (r, omega (arith, l), subst (λ (y : ℕ). TriesKindAt 2 (tries m) y draws p kind) (repeat_behind r) h)

    repeats_joins : TriesKindAt 2 (tries m) at draws p kind ⊎ RepeatsKindAt repeats (at + length (tries_made w x m 2 (tries m) i).draws) draws p kind
        → RepeatsKindAt (suc repeats) at draws p kind
    repeats_joins (inl h) = (0, omega arith, subst (λ (y : ℕ). TriesKindAt 2 (tries m) y draws p kind) (sym repeat_here) h)
    repeats_joins (inr (r, l, h)) = (suc r, omega (arith, l), subst (λ (y : ℕ). TriesKindAt 2 (tries m) y draws p kind) (sym (repeat_behind r)) h)

  repeats_kinded : (repeats i : ℕ) → Kinded w i (repeats_made w x m repeats i).draws (repeats_made w x m repeats i).next (RepeatsKindAt repeats)
  unfolding repeats_made
  repeats_kinded zero i = kinded_none w i (RepeatsKindAt 0) (λ at draws p kind h. not-suc-le-zero h.1)
  repeats_kinded (suc r) i =
      kinded_then (tries_kinded (tries m) 2 i (omega arith)) (repeats_kinded r (tries_made w x m 2 (tries m) i).next) (RepeatsKindAt (suc r))
      (λ at draws after e. repeats_parts r i at draws) (λ at draws after e. repeats_joins r i at draws)

  -- The draws of a round: each place has the kind that the round takes there.
  pub round_kinded : (repeats i : ℕ) → Kinded w i (repeats_made w x m repeats i).draws (repeats_made w x m repeats i).next (RoundKindAt x m repeats)
  round_kinded repeats i =
      kinded_map (repeats_kinded repeats i) (RoundKindAt x m repeats) (λ at draws p kind h. (h.0, h.2, (h.1, h.3, omega (arith, h.4), h.5)))
      (λ at draws p kind (r, l, h). (r, h.0, l, h.1, omega (arith, h.2), h.3))
