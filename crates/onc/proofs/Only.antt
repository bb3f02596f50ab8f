-- What DrawsRead says is true of one run only (specs/Demands.antt).
use Prim.Native.Nat.{ℕ, ◌+◌, ◌<◌, ◌≤◌}
use mathlib.Core.Path.{◌≡◌, refl, sym, ◌∙◌, ap, ap₂, subst}
use mathlib.Core.List.{List, [], ◌∷◌, ◌++◌}
use mathlib.Core.Logic.{by_cases}
use native.Mathlib.Decide.{dec_lt}
use native.Mathlib.Omega.{arith}
use lib.ListN.{length, drop, length-append}
use lib.Ieee.{Float}
use Rattle.lists.proofs.Tests.{impossible}
use Rattle.draws.specs.Draws.{Drawn, drawn, refused}
use Rattle.draws.specs.declared.Stop.TheVariants.{Rounds, Short, DrawOutOfRange, ClusteringFailed}
use Rattle.draws.proofs.Taken.{Ends}
use Rattle.partition.specs.Partition.{State}
use Rattle.candidates.specs.Candidates.{Candidate, Best, found}
use Rattle.base.specs.Base.{base_of}
use Rattle.row_numbers.specs.Rows.{rows_of}
use Rattle.improve_merge.specs.Merging.{weak_items}
use Rattle.round.specs.Round.{Run, done, ended, need_of, total_of}
use Rattle.onc.specs.Demands.{search_of, Finds, weak_in, merged_in, improves, Reached, Made, few_weak, improved, not_improved, EndsBy, DrawsRead}
use Rattle.onc.proofs.Groupings.{draws_append}
use Rattle.onc.proofs.Rounds.{same_round, Passed, passed}

module _ (book : List Float) (n repeat : ℕ) (draws : List ℕ) where
  -- a round finds one candidate only
  found_one : {before items before' items' : List ℕ} {c c' : Candidate} → Finds book n repeat draws before items c → Finds book n repeat draws before' items' c'
      → before ≡ before' → items ≡ items' → c ≡ c'
  found_one {before} {items} {before'} {items'} {c} {c'} q q' e f =
      let d : drawn (found c) (drop (total_of repeat before + need_of repeat (length items)) draws) ≡ drawn (found c') (drop (total_of repeat before' + need_of repeat (length items')) draws) =
      sym q ∙ ap₂ (search_of book n repeat draws) e f ∙ q' in
      cc

  -- two weak groups or fewer, and more
  few_or_many : {items items' : List ℕ} {c c' : Candidate} → items ≡ items' → c ≡ c' → weak_in items c ≤ 2 → 2 < weak_in items' c' → ⊥
  few_or_many f k w w' = omega (arith, ap₂ weak_in f k)

  improves_same : {items items' : List ℕ} {c c' : Candidate} {s s' : State} → items ≡ items' → c ≡ c' → s ≡ s' → improves book n items c s ≡ improves book n items' c' s'
  improves_same {items} {items'} {c} {c'} {s} f k j = ap₂ (λ (v : List ℕ) (x : Candidate). improves book n v x s) f k ∙ ap (improves book n items' c') j

  -- the rounds before the round within, and its items
  rounds_same : {before items before' items' : List ℕ} → before ≡ before' → items ≡ items' → before ++ (length items ∷ []) ≡ before' ++ (length items' ∷ [])
  rounds_same e f = ap₂ (λ (v w : List ℕ). v ++ (length w ∷ [])) e f

  items_same : {items items' : List ℕ} {c c' : Candidate} → items ≡ items' → c ≡ c'
      → rows_of items (weak_items (base_of (length items) c)) ≡ rows_of items' (weak_items (base_of (length items') c'))
  items_same f k = ap₂ (λ (v : List ℕ) (x : Candidate). rows_of v (weak_items (base_of (length v) x))) f k

  -- one partition only comes out of a round
  made_one : {before items before' items' : List ℕ} {s s' : State} → Made book n repeat draws before items s → Made book n repeat draws before' items' s'
      → before ≡ before' → items ≡ items' → s ≡ s'
  made_one (few_weak b i c q w) (few_weak b' i' c' q' w') e f = ap₂ (λ (v : List ℕ) (x : Candidate). base_of (length v) x) f (found_one q q' e f)
  made_one (few_weak b i c q w) (improved b' i' c' t' q' w' h' x') e f = absurd (few_or_many f (found_one q q' e f) w w')
  made_one (few_weak b i c q w) (not_improved b' i' c' t' q' w' h' x') e f = absurd (few_or_many f (found_one q q' e f) w w')
  made_one (improved b i c t q w h x) (few_weak b' i' c' q' w') e f = absurd (few_or_many (sym f) (sym (found_one q q' e f)) w' w)
  made_one (not_improved b i c t q w h x) (few_weak b' i' c' q' w') e f = absurd (few_or_many (sym f) (sym (found_one q q' e f)) w' w)
  made_one (improved b i c t q w h x) (improved b' i' c' t' q' w' h' x') e f =
      let k : c ≡ c' = found_one q q' e f in
      let j : t ≡ t' = made_one h h' (rounds_same e f) (items_same f k) in
      ap₂ (λ (v : List ℕ) (y : Candidate). merged_in book n v y t) f k ∙ ap (merged_in book n i' c') j
  made_one (improved b i c t q w h x) (not_improved b' i' c' t' q' w' h' x') e f =
      let k : c ≡ c' = found_one q q' e f in
      let j : t ≡ t' = made_one h h' (rounds_same e f) (items_same f k) in
      impossible (sym x' ∙ sym (improves_same f k j) ∙ x)
  made_one (not_improved b i c t q w h x) (improved b' i' c' t' q' w' h' x') e f =
      let k : c ≡ c' = found_one q q' e f in
      let j : t ≡ t' = made_one h h' (rounds_same e f) (items_same f k) in
      impossible (sym x ∙ improves_same f k j ∙ x')
  made_one (not_improved b i c t q w h x) (not_improved b' i' c' t' q' w' h' x') e f =
      ap₂ (λ (v : List ℕ) (y : Candidate). base_of (length v) y) f (found_one q q' e f)

  -- the round over `items`, after rounds of `before` items, is the one that ends the run
  abbrev Last : (before items : List ℕ) → Run → Type 0
  Last before items (done s ms read rest) =
      (ms ≡ before ++ (length items ∷ [])) × (c : Candidate) × (search_of book n repeat draws before items ≡ drawn (found c) rest) × (weak_in items c ≤ 2)
  Last before items (ended Rounds ms) = (ms ≡ before) × (length ms ≡ 32)
  Last before items (ended (Short k) ms) = (ms ≡ before) × (k ≡ total_of repeat ms) × (length ms < 32) × (length draws < k + need_of repeat (length items))
  Last before items (ended (DrawOutOfRange p) ms) = (ms ≡ before ++ (length items ∷ [])) × (search_of book n repeat draws before items ≡ refused p)
  Last before items (ended ClusteringFailed ms) = ⊥

  last : (r : Run) → EndsBy book n repeat draws r → (before : List ℕ) × (items : List ℕ) × Reached book n repeat draws before items × Last before items r
  last (done s ms read rest) e = (e.3, e.4, e.6, (e.7, e.5, e.8, e.9))
  last (ended Rounds ms) e = (ms, e.1, e.2, (refl, e.0))
  last (ended (Short k) ms) e = (ms, e.2, e.3, (refl, e.0, e.1, e.4))
  last (ended (DrawOutOfRange p) ms) e = (e.0, e.1, e.2, (e.3, e.9))
  last (ended ClusteringFailed ms) e = absurd e

  -- at most 32 rounds come before it, and their draws were there
  before_last : (before items : List ℕ) (r : Run) → Last before items r → DrawsRead book n repeat draws r → (length before ≤ 32) × (total_of repeat before ≤ length draws)
  before_last before items (done s ms read rest) f d =
      (omega (arith, d.rounds, ap length f.0, length-append before (length items ∷ [])), omega (arith, d.there, ap (total_of repeat) f.0, draws_append repeat before (length items)))
  before_last before items (ended Rounds ms) f d = (omega (arith, d.rounds, ap length f.0), omega (arith, d.there, ap (total_of repeat) f.0))
  before_last before items (ended (Short k) ms) f d = (omega (arith, d.rounds, ap length f.0), omega (arith, d.there, ap (total_of repeat) f.0))
  before_last before items (ended (DrawOutOfRange p) ms) f d =
      (omega (arith, d.rounds, ap length f.0, length-append before (length items ∷ [])), omega (arith, d.there, ap (total_of repeat) f.0, draws_append repeat before (length items)))
  before_last before items (ended ClusteringFailed ms) f d = absurd f

  -- found and refused
  not_both : {b : Best} {rest : List ℕ} {p : ℕ} {D : Drawn Best} → D ≡ drawn b rest → D ≡ refused p → ⊥
  not_both e h = subst (Ends (λ b rest. Unit) (λ p. ⊥)) (sym e ∙ h) tt

  -- and no round is reached after it
  not_passed : (before items : List ℕ) (r : Run) (to : ℕ) → Last before items r → Passed book n repeat draws before items to → to ≤ length draws → length before < 32 → ⊥
  not_passed before items (done s ms read rest) to f g l h =
      let d : drawn (found f.1) rest ≡ drawn (found g.0) (drop (total_of repeat before + need_of repeat (length items)) draws) = sym f.2 ∙ g.1 in
      let k : f.1 ≡ g.0 = cc in
      omega (arith, f.3, g.2, ap (weak_in items) k)
  not_passed before items (ended Rounds ms) to f g l h = omega (arith, f.1, ap length f.0, h)
  not_passed before items (ended (Short k) ms) to f g l h = omega (arith, f.1, f.3, g.3, l, ap (total_of repeat) f.0)
  not_passed before items (ended (DrawOutOfRange p) ms) to f g l h = not_both g.1 f.1
  not_passed before items (ended ClusteringFailed ms) to f g l h = f

  -- so two runs have the same last round
  not-before : (r r' : Run) {before items before' items' : List ℕ} → Reached book n repeat draws before items → Reached book n repeat draws before' items'
      → Last before items r → Last before' items' r' → DrawsRead book n repeat draws r' → length before < length before' → ⊥
  not-before r r' {before} {items} {before'} {items'} h h' f f' d' l =
      let b = before_last before' items' r' f' d' in
      not_passed before items r (total_of repeat before') f (passed book n repeat draws h h' l) b.1 (omega (arith, l, b.0))

  -- a round that started is not one that 9 or 7 ends the run in front of
  started_nine : (before items : List ℕ) {ms ms' : List ℕ} → ms ≡ before ++ (length items ∷ []) → length ms ≤ 32 → ms' ≡ before → length ms' ≡ 32 → ⊥
  started_nine before items e few e' h = omega (arith, ap length e, ap length e', length-append before (length items ∷ []))

  started_short : (before items : List ℕ) {ms ms' : List ℕ} {k : ℕ} → ms ≡ before ++ (length items ∷ []) → total_of repeat ms ≤ length draws → ms' ≡ before → k ≡ total_of repeat ms'
      → length draws < k + need_of repeat (length items) → ⊥
  started_short before items e there e' h short = omega (arith, ap (total_of repeat) e, ap (total_of repeat) e', draws_append repeat before (length items))

  -- with which they end alike
  same_end : (before items : List ℕ) (r r' : Run) → Last before items r → Last before items r' → DrawsRead book n repeat draws r → DrawsRead book n repeat draws r' → r ≡ r'
  same_end before items (done s ms read rest) (done s' ms' read' rest') f f' d d' =
      let i : s ≡ s' = made_one d.ends.2 d'.ends.2 refl refl in
      let j : ms ≡ ms' = f.0 ∙ sym f'.0 in
      let k : read ≡ read' = d.ends.0 ∙ ap (total_of repeat) j ∙ sym d'.ends.0 in
      let l : rest ≡ rest' = d.ends.1 ∙ ap (λ (a : ℕ). drop a draws) k ∙ sym d'.ends.1 in
      cc
  same_end before items (ended Rounds ms) (ended Rounds ms') f f' d d' = ap (ended Rounds) (f.0 ∙ sym f'.0)
  same_end before items (ended (Short k) ms) (ended (Short k') ms') f f' d d' =
      let j : ms ≡ ms' = f.0 ∙ sym f'.0 in
      let l : k ≡ k' = f.1 ∙ ap (total_of repeat) j ∙ sym f'.1 in
      cc
  same_end before items (ended (DrawOutOfRange p) ms) (ended (DrawOutOfRange p') ms') f f' d d' =
      let j : ms ≡ ms' = f.0 ∙ sym f'.0 in
      let e : refused p ≡ refused p' = sym f.1 ∙ f'.1 in
      let l : p ≡ p' = cc in
      cc
  same_end before items (done s ms read rest) (ended Rounds ms') f f' d d' = absurd (started_nine before items f.0 d.rounds f'.0 f'.1)
  same_end before items (ended Rounds ms) (done s' ms' read' rest') f f' d d' = absurd (started_nine before items f'.0 d'.rounds f.0 f.1)
  same_end before items (ended (DrawOutOfRange p) ms) (ended Rounds ms') f f' d d' = absurd (started_nine before items f.0 d.rounds f'.0 f'.1)
  same_end before items (ended Rounds ms) (ended (DrawOutOfRange p') ms') f f' d d' = absurd (started_nine before items f'.0 d'.rounds f.0 f.1)
  same_end before items (done s ms read rest) (ended (Short k') ms') f f' d d' = absurd (started_short before items f.0 d.there f'.0 f'.1 f'.3)
  same_end before items (ended (Short k) ms) (done s' ms' read' rest') f f' d d' = absurd (started_short before items f'.0 d'.there f.0 f.1 f.3)
  same_end before items (ended (DrawOutOfRange p) ms) (ended (Short k') ms') f f' d d' = absurd (started_short before items f.0 d.there f'.0 f'.1 f'.3)
  same_end before items (ended (Short k) ms) (ended (DrawOutOfRange p') ms') f f' d d' = absurd (started_short before items f'.0 d'.there f.0 f.1 f.3)
  same_end before items (ended Rounds ms) (ended (Short k') ms') f f' d d' = let y : ⊥ = omega (arith, f.1, f'.2, ap length f.0, ap length f'.0) in absurd y
  same_end before items (ended (Short k) ms) (ended Rounds ms') f f' d d' = let y : ⊥ = omega (arith, f.2, f'.1, ap length f.0, ap length f'.0) in absurd y
  same_end before items (done s ms read rest) (ended (DrawOutOfRange p') ms') f f' d d' = absurd (not_both f.2 f'.1)
  same_end before items (ended (DrawOutOfRange p) ms) (done s' ms' read' rest') f f' d d' = absurd (not_both f'.2 f.1)
  same_end before items (ended ClusteringFailed ms) r' f f' d d' = absurd f
  same_end before items (done s ms read rest) (ended ClusteringFailed ms') f f' d d' = absurd f'
  same_end before items (ended Rounds ms) (ended ClusteringFailed ms') f f' d d' = absurd f'
  same_end before items (ended (Short k) ms) (ended ClusteringFailed ms') f f' d d' = absurd f'
  same_end before items (ended (DrawOutOfRange p) ms) (ended ClusteringFailed ms') f f' d d' = absurd f'

  pub one_run : (r r' : Run) → DrawsRead book n repeat draws r → DrawsRead book n repeat draws r' → r ≡ r'
  one_run r r' d d' =
      let l = last r d.ends in
      let l' = last r' d'.ends in
      let e : length l.0 ≡ length l'.0 =
      by_cases (dec_lt (length l.0) (length l'.0)) (λ g. absurd (not-before r r' l.2 l'.2 l.3 l'.3 d' g))
      (λ g. by_cases (dec_lt (length l'.0) (length l.0)) (λ g'. absurd (not-before r' r l'.2 l.2 l'.3 l.3 d g')) (λ g'. omega arith)) in
      let s = same_round book n repeat draws l.2 l'.2 e in
      same_end l'.0 l'.1 r r' (subst (λ (v : List ℕ). Last v l'.1 r) s.0 (subst (λ (v : List ℕ). Last l.0 v r) s.1 l.3)) l'.3 d d'
