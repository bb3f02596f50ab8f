-- The draws that a generator gives along a seeding are, one after the other, its next of the kind that the seeding takes there.
use Prim.Native.Nat.{ℕ, zero, suc, ◌+◌, ◌-◌, ◌*◌, ◌^◌, ◌<◌}
use mathlib.Core.Path.{◌≡◌, refl, sym, ◌∙◌, ap, ap₂, subst}
use mathlib.Core.Bool.{Bool, true, false, cond}
use mathlib.Core.List.{List, [], ◌∷◌, ◌++◌, append_assoc}
use mathlib.Core.Logic.{◌⊎◌, inl, inr, ⊎_elim, by_cases}
use native.Mathlib.Nat.{suc-mul, zero-mul, not-suc-le-zero}
use native.Mathlib.Decide.{dec_lt}
use native.Mathlib.Omega.{arith}
use borrow.Author.Tests.{lt-ltb}
use lib.ListN.{length, drop, replicate, length-append, length-replicate, get_or-replicate, get_or-append}
use lib.Seq.{drop-drop, drop_at, get_or-append-add}
use lib.Ieee.{Float, lt}
use Rattle.lists.specs.Lists.{cells, listed}
use Rattle.lists.specs.Sums.{zero64, sum_to}
use Rattle.lists.proofs.Listed.{listed_same}
use Rattle.draws.specs.Counts.{trials_of}
use Rattle.draws.specs.Draws.{Drawn, drawn, takes, and_then}
use Rattle.draws.proofs.Counting.{trials_some}
use Rattle.plusplus_pick.specs.declared.Trial.{Trial}
use Rattle.plusplus_pick.specs.Potentials.{with}
use Rattle.plusplus_trials.specs.Trials.{next_of}
use Rattle.plusplus.specs.Seeding.{centres_of, first_centres}
use Rattle.plusplus.specs.Ranges.{weight_to}
use Rattle.plusplus.proofs.Bad.{weights_one, weights_more, total_is}
use Rattle.rng_std.specs.Words.{Taken, index_from, share_from}
use Rattle.rng_std.proofs.Ranges.{index_below}
use Rattle.plusplus_seeded.specs.Seeded.{place_of, draws_by, centre_rule, centre_draws, centre_of, more_made, seed_made}
use Rattle.plusplus_seeded.specs.Kinds.{Kind, an_index, a_share, next_by, draws_of_kinds, HasKind, kind_of, KindAt, first, trial}
use Rattle.plusplus_seeded.proofs.Fine.{pick_fine}
use Rattle.plusplus_seeded.proofs.Made.{centre_long, centre_fine}

-- the place of the word behind draws of these kinds
unfoldable pub word_behind : (ℕ → ℕ) → List Kind → ℕ → ℕ
word_behind w [] i = i
word_behind w (k ∷ ks) i = word_behind w ks (next_by w k i).next

-- some draws, and then others
module _ (w : ℕ → ℕ) where
  pub kinds_append : (ks ls : List Kind) (i : ℕ) → draws_of_kinds w (ks ++ ls) i ≡ draws_of_kinds w ks i ++ draws_of_kinds w ls (word_behind w ks i)
  unfolding draws_of_kinds word_behind
  kinds_append [] ls i = refl
  kinds_append (k ∷ ks) ls i = ap (λ (l : List ℕ). (next_by w k i).value ∷ l) (kinds_append ks ls (next_by w k i).next)

  pub behind_append : (ks ls : List Kind) (i : ℕ) → word_behind w (ks ++ ls) i ≡ word_behind w ls (word_behind w ks i)
  unfolding word_behind
  behind_append [] ls i = refl
  behind_append (k ∷ ks) ls i = behind_append ks ls (next_by w k i).next

  pub kinds_long : (ks : List Kind) (i : ℕ) → length (draws_of_kinds w ks i) ≡ length ks
  unfolding draws_of_kinds
  kinds_long [] i = refl
  kinds_long (k ∷ ks) i = ap suc (kinds_long ks (next_by w k i).next)

-- the place p, counted from `at`, has this kind
abbrev pub KindFrom : List Kind → ℕ → ℕ → Kind → Type 0
KindFrom ks at p kind = (o : ℕ) × (p ≡ at + o) × HasKind ks o kind

pub kind_front : (ks ls : List Kind) (at p : ℕ) (kind : Kind) → KindFrom ks at p kind → KindFrom (ks ++ ls) at p kind
kind_front ks ls at p kind (o, e, h) = (o, e, (omega (arith, h.0, length-append ks ls), get_or-append ks ls a_share o h.0 ∙ h.1))

pub kind_later : (ks ls : List Kind) (at p : ℕ) (kind : Kind) → KindFrom ls (at + length ks) p kind → KindFrom (ks ++ ls) at p kind
kind_later ks ls at p kind (o, e, h) = (length ks + o, omega (arith, e), (omega (arith, h.0, length-append ks ls), get_or-append-add ks ls o a_share ∙ h.1))

-- the draws behind some
drop_behind : (at : ℕ) (draws ds after : List ℕ) → drop at draws ≡ ds ++ after → drop (at + length ds) draws ≡ after
drop_behind at draws ds after e = sym (drop-drop (length ds) at draws) ∙ ap (drop (length ds)) e ∙ drop_at ds after (length ds) refl

-- The draws ds, from word i to word `next`, are the generator's next of some kinds. Among draws that go on with ds from place `at`, each place of which At tells a
-- kind has that kind there, and of each place of ds At tells one.
pub record Kinded (w : ℕ → ℕ) (i : ℕ) (ds : List ℕ) (next : ℕ) (At : ℕ → List ℕ → ℕ → Kind → Type 0) : Type 0 where
  pub kinds : List Kind
  pub draws_are : ds ≡ draws_of_kinds w kinds i
  pub next_is : next ≡ word_behind w kinds i
  pub each : (at : ℕ) (draws after : List ℕ) → drop at draws ≡ ds ++ after → (p : ℕ) (kind : Kind) → At at draws p kind → KindFrom kinds at p kind
  pub all : (at : ℕ) (draws after : List ℕ) → drop at draws ≡ ds ++ after → (o : ℕ) → o < length ds → (kind : Kind) × At at draws (at + o) kind

module _ {w : ℕ → ℕ} {i : ℕ} {ds : List ℕ} {next : ℕ} {At : ℕ → List ℕ → ℕ → Kind → Type 0} where
  pub kinded_long : (k : Kinded w i ds next At) → length k.kinds ≡ length ds
  kinded_long k = sym (ap length k.draws_are ∙ kinds_long w k.kinds i)

  -- two stretches: what has a kind in both has it in one of them
  pub kinded_then : {ls : List ℕ} {last : ℕ} {At' : ℕ → List ℕ → ℕ → Kind → Type 0} → Kinded w i ds next At → Kinded w next ls last At'
      → (Both : ℕ → List ℕ → ℕ → Kind → Type 0)
      → ((at : ℕ) (draws after : List ℕ) → drop at draws ≡ ds ++ (ls ++ after) → (p : ℕ) (kind : Kind) → Both at draws p kind → At at draws p kind ⊎ At' (at + length ds) draws p kind)
      → ((at : ℕ) (draws after : List ℕ) → drop at draws ≡ ds ++ (ls ++ after) → (p : ℕ) (kind : Kind) → At at draws p kind ⊎ At' (at + length ds) draws p kind → Both at draws p kind)
      → Kinded w i (ds ++ ls) last Both
  kinded_then {ls} {last} {At'} k l Both parts joins =
      record {
        kinds = k.kinds ++ l.kinds;
        draws_are = ap₂ ◌++◌ k.draws_are (l.draws_are ∙ ap (draws_of_kinds w l.kinds) k.next_is) ∙ sym (kinds_append w k.kinds l.kinds i);
        next_is = l.next_is ∙ ap (word_behind w l.kinds) k.next_is ∙ sym (behind_append w k.kinds l.kinds i);
        each = λ at draws after e p kind h.
            let e' : drop at draws ≡ ds ++ (ls ++ after) = e ∙ append_assoc ds ls after in
            ⊎_elim (λ a. kind_front k.kinds l.kinds at p kind (k.each at draws (ls ++ after) e' p kind a))
            (λ a.
            let n : at + length ds ≡ at + length k.kinds = ap (λ (x : ℕ). at + x) (sym (kinded_long k)) in
            kind_later k.kinds l.kinds at p kind
            (subst (λ (x : ℕ). KindFrom l.kinds x p kind) n (l.each (at + length ds) draws after (drop_behind at draws ds (ls ++ after) e') p kind a)))
            (parts at draws after e' p kind h);
        all = λ at draws after e o h.
            let e' : drop at draws ≡ ds ++ (ls ++ after) = e ∙ append_assoc ds ls after in
            by_cases (dec_lt o (length ds)) (λ g. let a = k.all at draws (ls ++ after) e' o g in (a.0, joins at draws after e' (at + o) a.0 (inl a.1)))
            (λ g.
            let a = l.all (at + length ds) draws after (drop_behind at draws ds (ls ++ after) e') (o - length ds) (omega (arith, h, length-append ds ls)) in
            let n : at + length ds + (o - length ds) ≡ at + o = omega arith in
            (a.0, joins at draws after e' (at + o) a.0 (inr (subst (λ (x : ℕ). At' (at + length ds) draws x a.0) n a.1))));
      }

  -- what tells the same kinds
  pub kinded_map : Kinded w i ds next At → (At' : ℕ → List ℕ → ℕ → Kind → Type 0)
      → ((at : ℕ) (draws : List ℕ) (p : ℕ) (kind : Kind) → At' at draws p kind → At at draws p kind)
      → ((at : ℕ) (draws : List ℕ) (p : ℕ) (kind : Kind) → At at draws p kind → At' at draws p kind) → Kinded w i ds next At'
  kinded_map k At' f g =
      record {
        kinds = k.kinds;
        draws_are = k.draws_are;
        next_is = k.next_is;
        each = λ at draws after e p kind h. k.each at draws after e p kind (f at draws p kind h);
        all = λ at draws after e o h. let a = k.all at draws after e o h in (a.0, g at draws (at + o) a.0 a.1);
      }

-- no draws
pub kinded_none : (w : ℕ → ℕ) (i : ℕ) (At : ℕ → List ℕ → ℕ → Kind → Type 0) → ((at : ℕ) (draws : List ℕ) (p : ℕ) (kind : Kind) → At at draws p kind → ⊥) → Kinded w i [] i At
unfolding draws_of_kinds word_behind
kinded_none w i At none =
    record {
      kinds = [];
      draws_are = refl;
      next_is = refl;
      each = λ at draws after e p kind h. absurd (none at draws p kind h);
      all = λ at draws after e o h. absurd (not-suc-le-zero h);
    }

-- t draws by one rule
module _ (w : ℕ → ℕ) where
  place_first : (rule : ℕ → Taken) (j i : ℕ) → place_of rule (suc j) i ≡ place_of rule j (rule i).next
  unfolding place_of
  place_first rule zero i = refl
  place_first rule (suc j) i = ap (λ (x : ℕ). (rule x).next) (place_first rule j i)

  alike_draws : (kind : Kind) (t i : ℕ) → draws_by (next_by w kind) t i ≡ draws_of_kinds w (replicate t kind) i
  unfolding draws_of_kinds listed place_of
  alike_draws kind zero i = refl
  alike_draws kind (suc t) i =
      let rule = next_by w kind in
      ap (λ (l : List ℕ). (rule i).value ∷ l)
      (listed_same 0 (λ (j : ℕ). (rule (place_of rule (suc j) i)).value) (λ (j : ℕ). (rule (place_of rule j (rule i).next)).value) t
      (λ j h. ap (λ (x : ℕ). (rule x).value) (place_first rule j i))
      ∙ alike_draws kind t (rule i).next)

  alike_behind : (kind : Kind) (t i : ℕ) → place_of (next_by w kind) t i ≡ word_behind w (replicate t kind) i
  unfolding word_behind place_of
  alike_behind kind zero i = refl
  alike_behind kind (suc t) i = place_first (next_by w kind) t i ∙ alike_behind kind t (next_by w kind i).next

  -- the draws for one centre more
  rule_draws : (b : Bool) (m t i : ℕ) → draws_by (λ (j : ℕ). cond b (share_from w j) (index_from w m j)) t i ≡ draws_of_kinds w (replicate t (cond b a_share (an_index m))) i
  rule_draws true m t i = alike_draws a_share t i
  rule_draws false m t i = alike_draws (an_index m) t i

  rule_behind : (b : Bool) (m t i : ℕ) → place_of (λ (j : ℕ). cond b (share_from w j) (index_from w m j)) t i ≡ word_behind w (replicate t (cond b a_share (an_index m))) i
  rule_behind true m t i = alike_behind a_share t i
  rule_behind false m t i = alike_behind (an_index m) t i

-- a further centre, behind j others, and one of its trials
abbrev MoreKindAt : (ℕ → ℕ → Float) → (m t J : ℕ) → List Float → List ℕ → ℕ → List ℕ → ℕ → Kind → Type 0
MoreKindAt q m t J ws cs at draws p kind =
    (j : ℕ) × (o : ℕ) × (chosen : List ℕ) × (j < J) × (o < t) × (centres_of q m t j ws cs at (drop at draws) ≡ drawn chosen (drop (at + j * t) draws))
    × (p ≡ at + j * t + o) × (kind ≡ kind_of (sum_to (weight_to q chosen) m) m)

module _ (w : ℕ → ℕ) (small : (i : ℕ) → w i < 2 ^ 32) (q : ℕ → ℕ → Float) (m t : ℕ) (z : 0 < m) (some : 0 < t) where
  -- the trials for the next centre
  abbrev CentreKindAt : List Float → ℕ → List ℕ → ℕ → Kind → Type 0
  CentreKindAt ws at draws p kind = (o : ℕ) × (o < t) × (p ≡ at + o) × (kind ≡ kind_of (sum_to (cells ws) m) m)

  centre_kinded : (ws : List Float) (i : ℕ) → Kinded w i (centre_draws w q m t ws i) (place_of (centre_rule w q m t ws) t i) (CentreKindAt ws)
  centre_kinded ws i =
      let total = sum_to (cells ws) m in
      record {
        kinds = replicate t (kind_of total m);
        draws_are = rule_draws w (lt zero64 total) m t i;
        next_is = rule_behind w (lt zero64 total) m t i;
        each = λ at draws after e p kind h. (
          h.0,
          h.2,
          (omega (arith, h.1, length-replicate t (kind_of total m)), get_or-replicate t h.0 (kind_of total m) a_share h.1 ∙ sym h.3),
        );
        all = λ at draws after e o h. (kind_of total m, (o, omega (arith, h, centre_long w small q m t z some ws i), refl, refl));
      }

  module _ (J : ℕ) (ws : List Float) (cs : List ℕ) (e : ws ≡ listed (weight_to q cs) m) (i at : ℕ) (draws after : List ℕ) (d : drop at draws ≡ centre_draws w q m t ws i ++ after) where
    -- with the next centre
    abbrev weights' : List Float
    weights' = listed (with q (cells ws) (centre_of w q m t ws i)) m

    abbrev centres' : List ℕ
    centres' = cs ++ (centre_of w q m t ws i ∷ [])

    abbrev at' : ℕ
    at' = at + length (centre_draws w q m t ws i)

    long : length (centre_draws w q m t ws i) ≡ t
    long = centre_long w small q m t z some ws i

    centre_step : (j : ℕ) → centres_of q m t (suc j) ws cs at (drop at draws) ≡ centres_of q m t j weights' centres' at' (drop at' draws)
    unfolding centres_of
    centre_step j =
        let f = pick_fine q m t ws (centre_draws w q m t ws i) some long (centre_fine w small q m t z some ws i) in
        let next : Drawn Trial → Drawn (List ℕ) = λ (D : Drawn Trial). and_then D (λ b left. centres_of q m t j (listed (with q (cells ws) b.pick) m) (cs ++ (b.pick ∷ [])) (at + t) left) in
        ap (λ (l : List ℕ). next (next_of q m t ws at l)) d ∙ ap next (f.3 at after)
        ∙ ap (λ (c : ℕ). centres_of q m t j (listed (with q (cells ws) c) m) (cs ++ (c ∷ [])) (at + t) after) (sym f.2)
        ∙ ap₂ (λ (x : ℕ) (l : List ℕ). centres_of q m t j weights' centres' x l) (ap (λ (x : ℕ). at + x) (sym long)) (sym (drop_behind at draws (centre_draws w q m t ws i) after d))

    place_step : (j : ℕ) → at + suc j * t ≡ at' + j * t
    place_step j = omega (arith, long, suc-mul j t)

    -- the draws of the next centre, or those behind
    more_parts : (p : ℕ) (kind : Kind) → MoreKindAt q m t (suc J) ws cs at draws p kind → CentreKindAt ws at draws p kind ⊎ MoreKindAt q m t J weights' centres' at' draws p kind
    unfolding centres_of
    more_parts p kind (zero, o, chosen, l, g, c, n, k) =
        let same : cs ≡ chosen = cc in
        inl (o, g, omega (arith, n, zero-mul t), k ∙ ap (λ (l : List ℕ). kind_of (sum_to (weight_to q l) m) m) (sym same) ∙ ap (λ (x : Float). kind_of x m) (sym (total_is q m ws cs e)))
    more_parts p kind (suc j, o, chosen, l, g, c, n, k) =
        inr (j, o, chosen, omega (arith, l), g, sym (centre_step j) ∙ c ∙ ap (λ (x : ℕ). drawn chosen (drop x draws)) (place_step j), omega (arith, n, place_step j), k)

    more_joins : (p : ℕ) (kind : Kind) → CentreKindAt ws at draws p kind ⊎ MoreKindAt q m t J weights' centres' at' draws p kind → MoreKindAt q m t (suc J) ws cs at draws p kind
    unfolding centres_of
    more_joins p kind (inl (o, g, n, k)) =
        let none : at ≡ at + 0 * t = omega (arith, zero-mul t) in
        (0, o, cs, omega arith, g, ap (λ (x : ℕ). drawn cs (drop x draws)) none, omega (arith, n, none), k ∙ ap (λ (x : Float). kind_of x m) (total_is q m ws cs e))
    more_joins p kind (inr (j, o, chosen, l, g, c, n, k)) =
        (suc j, o, chosen, omega (arith, l), g, centre_step j ∙ c ∙ ap (λ (x : ℕ). drawn chosen (drop x draws)) (sym (place_step j)), omega (arith, n, place_step j), k)

  more_kinded : (J : ℕ) (ws : List Float) (cs : List ℕ) → ws ≡ listed (weight_to q cs) m → (i : ℕ)
      → Kinded w i (more_made w q m t J ws i).draws (more_made w q m t J ws i).next (MoreKindAt q m t J ws cs)
  unfolding more_made
  more_kinded zero ws cs e i = kinded_none w i (MoreKindAt q m t 0 ws cs) (λ at draws p kind h. not-suc-le-zero h.3)
  more_kinded (suc J) ws cs e i =
      let c = centre_of w q m t ws i in
      let ws' = listed (with q (cells ws) c) m in
      let i' = place_of (centre_rule w q m t ws) t i in
      kinded_then (centre_kinded ws i) (more_kinded J ws' (cs ++ (c ∷ [])) (weights_more q m ws cs c e) i') (MoreKindAt q m t (suc J) ws cs)
      (λ at draws after d. more_parts J ws cs e i at draws ((more_made w q m t J ws' i').draws ++ after) d)
      (λ at draws after d. more_joins J ws cs e i at draws ((more_made w q m t J ws' i').draws ++ after) d)

-- an index draw
one_kinded : (w : ℕ → ℕ) (m i : ℕ) → Kinded w i ((index_from w m i).value ∷ []) (index_from w m i).next (λ at draws p kind. (p ≡ at) × (kind ≡ an_index m))
unfolding draws_of_kinds word_behind
one_kinded w m i =
    record {
      kinds = an_index m ∷ [];
      draws_are = refl;
      next_is = refl;
      each = λ at draws after e p kind h. (0, omega (arith, h.0), (omega arith, sym h.1));
      all = λ at draws after e o h. (an_index m, (omega (arith, h), refl));
    }

module _ (w : ℕ → ℕ) (small : (i : ℕ) → w i < 2 ^ 32) (q : ℕ → ℕ → Float) (m k : ℕ) (z : 0 < m) where
  module _ (i at : ℕ) (draws after : List ℕ) (d : drop at draws ≡ ((index_from w m i).value ∷ []) ++ after) where
    -- the first centre
    abbrev v : ℕ
    v = (index_from w m i).value

    first_step : (j : ℕ) → first_centres q m k j at (drop at draws) ≡ centres_of q m (trials_of k) j (listed (q v) m) (v ∷ []) (at + 1) (drop (at + 1) draws)
    unfolding takes
    first_step j =
        let back : after ≡ drop (at + 1) draws = sym (drop_behind at draws (v ∷ []) after d) in
        rw (d, lt-ltb v m (index_below w small m z i)) (ap (centres_of q m (trials_of k) j (listed (q v) m) (v ∷ []) (at + 1)) back)

    -- the first draw, or one of those behind
    seed_parts : (p : ℕ) (kind : Kind) → KindAt q m k at draws p kind
        → ((p ≡ at) × (kind ≡ an_index m)) ⊎ MoreKindAt q m (trials_of k) (k - 1) (listed (q v) m) (v ∷ []) (at + 1) draws p kind
    seed_parts p kind first = inl (refl, refl)
    seed_parts p kind (trial j o cs l g c) = inr (j, o, cs, l, g, sym (first_step j) ∙ c, refl, refl)

    seed_joins : (p : ℕ) (kind : Kind) → ((p ≡ at) × (kind ≡ an_index m)) ⊎ MoreKindAt q m (trials_of k) (k - 1) (listed (q v) m) (v ∷ []) (at + 1) draws p kind
        → KindAt q m k at draws p kind
    seed_joins p kind (inl (n, e)) = subst (λ (x : ℕ). KindAt q m k at draws x kind) (sym n) (subst (KindAt q m k at draws at) (sym e) first)
    seed_joins p kind (inr (j, o, cs, l, g, c, n, e)) =
        subst (λ (x : ℕ). KindAt q m k at draws x kind) (sym n)
        (subst (KindAt q m k at draws (at + 1 + j * trials_of k + o)) (sym e) (trial j o cs l g (first_step j ∙ c)))

  -- The draws of a seeding: each place has the kind that the seeding takes there.
  pub seed_kinded : (i : ℕ) → Kinded w i (seed_made w q m k i).draws (seed_made w q m k i).next (KindAt q m k)
  unfolding seed_made
  seed_kinded i =
      let d = index_from w m i in
      let more : List ℕ = (more_made w q m (trials_of k) (k - 1) (listed (q d.value) m) d.next).draws in
      kinded_then (one_kinded w m i)
      (more_kinded w small q m (trials_of k) z (trials_some k) (k - 1) (listed (q d.value) m) (d.value ∷ []) (weights_one q m d.value) d.next) (KindAt q m k)
      (λ at draws after e. seed_parts i at draws (more ++ after) e) (λ at draws after e. seed_joins i at draws (more ++ after) e)
