-- A seeding takes exactly its count of draws, each centre is an item, and no draw behind those that it takes matters.
use Rattle.std.specs.Prelude.{Ok, Err}
use Prim.Native.Nat.{ℕ, zero, suc, ◌+◌, ◌-◌, ◌*◌, ◌<◌, ◌≤◌, zero-le}
use mathlib.Core.Path.{◌≡◌, refl, sym, ◌∙◌, ap, subst}
use mathlib.Core.List.{List, [], ◌∷◌, ◌++◌}
use native.Mathlib.Nat.{suc-mul, zero-mul}
use native.Mathlib.Omega.{arith}
use lib.ListN.{length, drop, length-drop, length-append}
use lib.Seq.{drop-drop}
use lib.Ieee.{Float}
use Rattle.lists.specs.Lists.{cells, listed}
use Rattle.draws.specs.declared.Stop.{Stop}
use Rattle.draws.specs.declared.Stop.TheVariants.{DrawOutOfRange}
use Rattle.draws.specs.Counts.{trials_of, seeding_of}
use Rattle.draws.specs.Draws.{Drawn, drawn, refused, one_draw}
use Rattle.draws.proofs.Counting.{trials_some}
use Rattle.draws.proofs.Taken.{Ends, Among, behind, take_behind, then_ends, then_behind, ends_map, one_took}
use Rattle.plusplus_pick.specs.Potentials.{with}
use Rattle.plusplus_trials.specs.Trials.{next_of}
use Rattle.plusplus_trials.proofs.Centring.{next_took, next_behind}
use Rattle.plusplus.specs.Seeding.{centres_of, seeding, EachBelow, SeededBy}

below_one : (m c : ℕ) → c < m → EachBelow m (c ∷ [])
below_one m c h zero l = h
below_one m c h (suc i) l = absurd (omega arith)

below_snoc : (m c : ℕ) (cs : List ℕ) → c < m → EachBelow m cs → EachBelow m (cs ++ (c ∷ []))
below_snoc m c [] h b i l = below_one m c h i l
below_snoc m c (x ∷ cs) h b zero l = b 0 (omega arith)
below_snoc m c (x ∷ cs) h b (suc i) l = below_snoc m c cs h (λ j k. b (suc j) (omega arith)) i (omega arith)

-- what holds of n centres, once c draws have been taken
abbrev Took : ℕ → ℕ → ℕ → List ℕ → List ℕ → List ℕ → Type 0
Took m n c ds cs rest = (length cs ≡ n) × EachBelow m cs × (rest ≡ drop c ds) × (c ≤ length ds)

module _ (q : ℕ → ℕ → Float) (m t : ℕ) (z : 0 < m) (some : 0 < t) where
  centres_took : (j : ℕ) (ws : List Float) (cs : List ℕ) (at : ℕ) (ds : List ℕ) → EachBelow m cs
      → Ends (Took m (length cs + j) (j * t) ds) (Among at (j * t)) (centres_of q m t j ws cs at ds)
  unfolding centres_of
  centres_took zero ws cs at ds b = (omega arith, b, rw (zero-mul t) refl, rw (zero-mul t) zero-le)
  centres_took (suc j) ws cs at ds b =
      then_ends (λ x rest. (x.pick < m) × (rest ≡ drop t ds) × (t ≤ length ds)) (λ p. (at ≤ p) × (p < at + t))
      (Took m (length cs + suc j) (suc j * t) ds) (Among at (suc j * t))
      (next_of q m t ws at ds) (λ x rest. centres_of q m t j (listed (with q (cells ws) x.pick) m) (cs ++ (x.pick ∷ [])) (at + t) rest)
      (next_took q m t z some ws at ds)
      (λ x rest h.
      let n : length (cs ++ (x.pick ∷ [])) ≡ length cs + 1 = length-append cs (x.pick ∷ []) in
      ends_map (Took m (length (cs ++ (x.pick ∷ [])) + j) (j * t) rest) (Among (at + t) (j * t)) (Took m (length cs + suc j) (suc j * t) ds) (Among at (suc j * t))
      (centres_of q m t j (listed (with q (cells ws) x.pick) m) (cs ++ (x.pick ∷ [])) (at + t) rest)
      (centres_took j (listed (with q (cells ws) x.pick) m) (cs ++ (x.pick ∷ [])) (at + t) rest (below_snoc m x.pick cs h.0 b))
      (λ u r k.
      let e : t + j * t ≡ suc j * t = omega (arith, suc-mul j t) in
      (k.0 ∙ omega (arith, n), k.1, k.2 ∙ ap (drop (j * t)) h.1 ∙ drop-drop (j * t) t ds ∙ ap (λ (y : ℕ). drop y ds) e, omega (arith, k.3, h.2, ap length h.1 ∙ length-drop t ds, suc-mul j t)))
      (λ p k. (omega (arith, k.0), omega (arith, k.1, suc-mul j t))))
      (λ p k. (k.0, omega (arith, k.1, suc-mul j t)))

  centres_behind : (j : ℕ) (ws : List Float) (cs : List ℕ) (at : ℕ) (p b : List ℕ) → j * t ≤ length p
      → centres_of q m t j ws cs at (p ++ b) ≡ behind b (centres_of q m t j ws cs at p)
  unfolding centres_of
  centres_behind zero ws cs at p b l = refl
  centres_behind (suc j) ws cs at p b l =
      rw (next_behind q m t z some ws at p b (omega (arith, suc-mul j t)))
      (then_behind (λ x rest. (x.pick < m) × (rest ≡ drop t p) × (t ≤ length p)) (λ y. (at ≤ y) × (y < at + t))
      (next_of q m t ws at p) (λ x rest. centres_of q m t j (listed (with q (cells ws) x.pick) m) (cs ++ (x.pick ∷ [])) (at + t) rest) b
      (next_took q m t z some ws at p)
      (λ x rest h. centres_behind j (listed (with q (cells ws) x.pick) m) (cs ++ (x.pick ∷ [])) (at + t) rest b (omega (arith, ap length h.1 ∙ length-drop t p, suc-mul j t))))

module _ (q : ℕ → ℕ → Float) (m k : ℕ) (z : 0 < m) (one_of_lem : 0 < k) where
  -- A seeding that is not refused gives k centres, each an item, and takes exactly its count of draws; a draw out of range stands among those.
  pub seeding_took : (at : ℕ) (ds : List ℕ)
      → Ends (λ cs rest. (length cs ≡ k) × EachBelow m cs × (rest ≡ drop (seeding_of k) ds) × (seeding_of k ≤ length ds)) (λ p. (at ≤ p) × (p < at + seeding_of k)) (seeding q m k at ds)
  unfolding seeding
  seeding_took at ds =
      then_ends (λ d rest. (d < m) × (rest ≡ drop 1 ds) × (1 ≤ length ds)) (λ p. (at ≤ p) × (p < at + 1))
      (Took m k (seeding_of k) ds) (Among at (seeding_of k))
      (one_draw m at ds) (λ c rest. centres_of q m (trials_of k) (k - 1) (listed (q c) m) (c ∷ []) (at + 1) rest)
      (one_took m at ds z)
      (λ c rest h.
      ends_map (Took m (1 + (k - 1)) ((k - 1) * trials_of k) rest) (Among (at + 1) ((k - 1) * trials_of k)) (Took m k (seeding_of k) ds) (Among at (seeding_of k))
      (centres_of q m (trials_of k) (k - 1) (listed (q c) m) (c ∷ []) (at + 1) rest)
      (centres_took q m (trials_of k) z (trials_some k) (k - 1) (listed (q c) m) (c ∷ []) (at + 1) rest (below_one m c h.0))
      (λ u r e. (e.0 ∙ omega arith, e.1, e.2 ∙ ap (drop ((k - 1) * trials_of k)) h.1 ∙ drop-drop ((k - 1) * trials_of k) 1 ds, omega (arith, e.3, h.2, ap length h.1 ∙ length-drop 1 ds)))
      (λ p e. (omega (arith, e.0), omega (arith, e.1))))
      (λ p e. (e.0, omega (arith, e.1)))

  -- Draws that stand behind those that are taken change nothing.
  pub seeding_behind : (at : ℕ) (p b : List ℕ) → seeding_of k ≤ length p → seeding q m k at (p ++ b) ≡ behind b (seeding q m k at p)
  unfolding seeding
  seeding_behind at p b l =
      rw (take_behind m (λ s d. d) 1 0 at p b (omega arith))
      (then_behind (λ d rest. (d < m) × (rest ≡ drop 1 p) × (1 ≤ length p)) (λ y. (at ≤ y) × (y < at + 1))
      (one_draw m at p) (λ c rest. centres_of q m (trials_of k) (k - 1) (listed (q c) m) (c ∷ []) (at + 1) rest) b
      (one_took m at p z)
      (λ c rest h. centres_behind q m (trials_of k) z (trials_some k) (k - 1) (listed (q c) m) (c ∷ []) (at + 1) rest b (omega (arith, ap length h.1 ∙ length-drop 1 p))))

-- what the answer of a call says of the seeding, for callers
done_is : (R : Drawn (List ℕ)) {next n : ℕ} {l : List ℕ} → SeededBy R next (Ok n) l → (rest : List ℕ) × (n ≡ next) × (R ≡ drawn l rest)
done_is (drawn cs rest) {next} {n} {l} s =
    let a : Ok n ≡ Ok next = s.answer_is in
    let e : n ≡ next = cc in
    (rest, e, ap (λ (x : List ℕ). drawn x rest) (sym s.centres_are))
done_is (refused p) {next} {n} {l} s =
    let a : Ok n ≡ Err (DrawOutOfRange p) = s.answer_is in
    let z : ◌≡◌ {A = ℕ} 0 1 = cc in
    absurd (omega arith)

stopped_is : (R : Drawn (List ℕ)) {next : ℕ} {q : Stop} {l : List ℕ} → SeededBy R next (Err q) l → (p : ℕ) × (R ≡ refused p) × (q ≡ DrawOutOfRange p)
stopped_is (drawn cs rest) {next} {q} {l} s =
    let a : Err q ≡ Ok next = s.answer_is in
    let z : ◌≡◌ {A = ℕ} 0 1 = cc in
    absurd (omega arith)
stopped_is (refused p) {next} {q} {l} s =
    let a : Err q ≡ Err (DrawOutOfRange p) = s.answer_is in
    let e : q ≡ DrawOutOfRange p = cc in
    (p, refl, e)

module _ (q : ℕ → ℕ → Float) (m k : ℕ) (z : 0 < m) (one_of_lem : 0 < k) (at : ℕ) (ds : List ℕ) (next : ℕ) (l : List ℕ) where
  pub seed_done : {n : ℕ} → SeededBy (seeding q m k at ds) next (Ok n) l
      → (n ≡ next) × (length l ≡ k) × EachBelow m l × (seeding q m k at ds ≡ drawn l (drop (seeding_of k) ds)) × (seeding_of k ≤ length ds)
  seed_done s =
      let v = done_is (seeding q m k at ds) s in
      let t = subst (Ends (Took m k (seeding_of k) ds) (Among at (seeding_of k))) v.2 (seeding_took q m k z one_of_lem at ds) in
      (v.1, t.0, t.1, v.2 ∙ ap (drawn l) t.2, t.3)

  pub seed_stopped : {w : Stop} → SeededBy (seeding q m k at ds) next (Err w) l
      → (p : ℕ) × (w ≡ DrawOutOfRange p) × (seeding q m k at ds ≡ refused p) × (at ≤ p) × (p < at + seeding_of k)
  seed_stopped s =
      let v = stopped_is (seeding q m k at ds) s in
      let t = subst (Ends (Took m k (seeding_of k) ds) (Among at (seeding_of k))) v.1 (seeding_took q m k z one_of_lem at ds) in
      (v.0, v.2, v.1, t.0, t.1)
