-- Laws of draws that are taken from the front: the steps of a loop over them, what they make, that they take their count and no more, and that nothing depends on what stands behind.
use Rattle.std.proofs.Common.{◌≡◌, ℕ, zero, suc, ◌+◌, ◌-◌, ◌<◌, ◌≤◌, Bool, true, false, cond, ltb, List, [], ◌∷◌, ◌++◌, length, get_or, drop, sym, refl, ap, ◌∙◌, subst, zero-le, le_of_suc-le-suc, not-suc-le-zero, add-one, arith, drop-cons, ltb-false, ltb-true, le-ltb, lt-ltb}
use Rattle.draws.specs.Draws.{Drawn, drawn, refused, takes, one_draw, and_then}
use Rattle.draws.specs.Stops.{draw_of}
use Rattle.draws.specs.declared.Stop.{Stop}
use Rattle.draws.specs.declared.Stop.TheVariants.{DrawOutOfRange}
use Rattle.std.specs.Prelude.{Ok, Err}

-- what holds of what was made and of the draws that remain, and of the place of a draw out of range
abbrev pub Ends : {S : Type 0} → (S → List ℕ → Type 0) → (ℕ → Type 0) → Drawn S → Type 0
Ends P Q (drawn s rest) = P s rest
Ends P Q (refused p) = Q p

-- the same with other draws behind those that remain
abbrev pub behind : {S : Type 0} → List ℕ → Drawn S → Drawn S
behind b (drawn s rest) = drawn s (rest ++ b)
behind b (refused p) = refused p

-- a place among the c draws from place `at` on
abbrev pub Among : ℕ → ℕ → ℕ → Type 0
Among at c p = (at ≤ p) × (p < at + c)

module _ {S : Type 0} (limit : ℕ) (step : S → ℕ → S) where
  -- the draw at place i of a list, with those up to `end` still to take
  pub take_good : (draws : List ℕ) (end i : ℕ) (s : S) → i < end → i < length draws → get_or draws i 0 < limit
      → takes limit step (end - i) s i (drop i draws) ≡ takes limit step (end - (i + 1)) (step s (get_or draws i 0)) (i + 1) (drop (i + 1) draws)
  unfolding takes
  take_good draws end i s h l g =
      let e : end - i ≡ suc (end - (i + 1)) = omega arith in
      rw (e, drop-cons draws i 0 l, lt-ltb (get_or draws i 0) limit g, add-one i)

  pub take_bad : (draws : List ℕ) (end i : ℕ) (s : S) → i < end → i < length draws → limit ≤ get_or draws i 0
      → takes limit step (end - i) s i (drop i draws) ≡ refused i
  unfolding takes
  take_bad draws end i s h l g =
      let e : end - i ≡ suc (end - (i + 1)) = omega arith in
      rw (e, drop-cons draws i 0 l, le-ltb (get_or draws i 0) limit g)

  pub take_none : (ds : List ℕ) (end i : ℕ) (s : S) → end ≤ i → takes limit step (end - i) s i ds ≡ drawn s ds
  unfolding takes
  take_none ds end i s h = let e : end - i ≡ 0 = omega arith in rw e

  -- what a step keeps holds of what is made; n draws are taken; a draw out of range stands among them
  module _ (P : S → Type 0) (keeps : (s : S) (d : ℕ) → P s → d < limit → P (step s d)) where
    pub took : (n : ℕ) (s : S) (at : ℕ) (ds : List ℕ) → P s
        → Ends (λ u rest. P u × (rest ≡ drop n ds) × (n ≤ length ds)) (λ p. (at ≤ p) × (p < at + n)) (takes limit step n s at ds)
    unfolding takes
    took zero s at ds h = (h, refl, zero-le)
    took (suc n) s at [] h = (omega arith, omega arith)
    took (suc n) s at (d ∷ ds) h = by_test (ltb d limit) refl (λ g. took n (step s d) (at + 1) ds (keeps s d h g))
      where
        later : (D : Drawn S) → Ends (λ u rest. P u × (rest ≡ drop n ds) × (n ≤ length ds)) (λ p. (at + 1 ≤ p) × (p < at + 1 + n)) D
            → Ends (λ u rest. P u × (rest ≡ drop (suc n) (d ∷ ds)) × (suc n ≤ length (d ∷ ds))) (λ p. (at ≤ p) × (p < at + suc n)) D
        later (drawn u rest) (a, b, e) = (a, b, omega arith)
        later (refused p) (a, b) = (omega arith, omega arith)

        by_test : (t : Bool) → ltb d limit ≡ t
            → (d < limit → Ends (λ u rest. P u × (rest ≡ drop n ds) × (n ≤ length ds)) (λ p. (at + 1 ≤ p) × (p < at + 1 + n)) (takes limit step n (step s d) (at + 1) ds))
            → Ends (λ u rest. P u × (rest ≡ drop (suc n) (d ∷ ds)) × (suc n ≤ length (d ∷ ds))) (λ p. (at ≤ p) × (p < at + suc n)) (cond t (takes limit step n (step s d) (at + 1) ds) (refused at))
        by_test true e g = later (takes limit step n (step s d) (at + 1) ds) (g (ltb-true d limit e))
        by_test false e g = (omega arith, omega arith)

  -- draws that stand behind those that are taken change nothing
  pub take_behind : (n : ℕ) (s : S) (at : ℕ) (p q : List ℕ) → n ≤ length p → takes limit step n s at (p ++ q) ≡ behind q (takes limit step n s at p)
  unfolding takes
  take_behind zero s at p q h = refl
  take_behind (suc n) s at [] q h = absurd (not-suc-le-zero h)
  take_behind (suc n) s at (d ∷ p) q h = by_test (ltb d limit) (take_behind n (step s d) (at + 1) p q (le_of_suc-le-suc h))
    where
      by_test : (t : Bool) → takes limit step n (step s d) (at + 1) (p ++ q) ≡ behind q (takes limit step n (step s d) (at + 1) p)
          → cond t (takes limit step n (step s d) (at + 1) (p ++ q)) (refused at) ≡ behind q (cond t (takes limit step n (step s d) (at + 1) p) (refused at))
      by_test true e = e
      by_test false e = refl

module _ {S U : Type 0} where
  pub then_ends : (P : S → List ℕ → Type 0) (Q : ℕ → Type 0) (P' : U → List ℕ → Type 0) (Q' : ℕ → Type 0) (D : Drawn S) (f : S → List ℕ → Drawn U)
      → Ends P Q D → ((s : S) (rest : List ℕ) → P s rest → Ends P' Q' (f s rest)) → ((p : ℕ) → Q p → Q' p) → Ends P' Q' (and_then D f)
  then_ends P Q P' Q' (drawn s rest) f h g k = g s rest h
  then_ends P Q P' Q' (refused p) f h g k = k p h

  pub then_behind : (P : S → List ℕ → Type 0) (Q : ℕ → Type 0) (D : Drawn S) (f : S → List ℕ → Drawn U) (b : List ℕ)
      → Ends P Q D → ((s : S) (rest : List ℕ) → P s rest → f s (rest ++ b) ≡ behind b (f s rest)) → and_then (behind b D) f ≡ behind b (and_then D f)
  then_behind P Q (drawn s rest) f b h g = g s rest h
  then_behind P Q (refused p) f b h g = refl

module _ {S : Type 0} where
  pub ends_map : (P : S → List ℕ → Type 0) (Q : ℕ → Type 0) (P' : S → List ℕ → Type 0) (Q' : ℕ → Type 0) (D : Drawn S)
      → Ends P Q D → ((s : S) (rest : List ℕ) → P s rest → P' s rest) → ((p : ℕ) → Q p → Q' p) → Ends P' Q' D
  ends_map P Q P' Q' (drawn s rest) h g k = g s rest h
  ends_map P Q P' Q' (refused p) h g k = k p h

-- one draw, at place i of a list
pub one_good : (limit : ℕ) (draws : List ℕ) (i : ℕ) → i < length draws → get_or draws i 0 < limit → one_draw limit i (drop i draws) ≡ drawn (get_or draws i 0) (drop (i + 1) draws)
unfolding takes
one_good limit draws i l g = rw (drop-cons draws i 0 l, lt-ltb (get_or draws i 0) limit g, add-one i)

pub one_bad : (limit : ℕ) (draws : List ℕ) (i : ℕ) → i < length draws → limit ≤ get_or draws i 0 → one_draw limit i (drop i draws) ≡ refused i
unfolding takes
one_bad limit draws i l g = rw (drop-cons draws i 0 l, le-ltb (get_or draws i 0) limit g)

-- one draw is below its limit
pub one_took : (limit at : ℕ) (ds : List ℕ) → 0 < limit
    → Ends (λ d rest. (d < limit) × (rest ≡ drop 1 ds) × (1 ≤ length ds)) (λ p. (at ≤ p) × (p < at + 1)) (one_draw limit at ds)
one_took limit at ds h = took limit (λ s d. d) (λ d. d < limit) (λ s d q g. g) 1 0 at ds h

either : {R : Type 0} (a b : ℕ) → (a < b → R) → (b ≤ a → R) → R
either {R} a b f g = by_test (ltb a b) refl
  where
    by_test : (t : Bool) → ltb a b ≡ t → R
    by_test true e = f (ltb-true a b e)
    by_test false e = g (ltb-false a b e)

-- what the answer of one draw says of it
value_at : (limit : ℕ) (draws : List ℕ) (i : ℕ) {d : ℕ} → i < length draws → draw_of (one_draw limit i (drop i draws)) ≡ Ok d → (d ≡ get_or draws i 0) × (d < limit)
value_at limit draws i {d} l e = either (get_or draws i 0) limit good bad
  where
    good : get_or draws i 0 < limit → (d ≡ get_or draws i 0) × (d < limit)
    good g = let q : Ok (get_or draws i 0) ≡ Ok d = ap draw_of (sym (one_good limit draws i l g)) ∙ e in let r : d ≡ get_or draws i 0 = cc in (r, rw r g)

    bad : limit ≤ get_or draws i 0 → (d ≡ get_or draws i 0) × (d < limit)
    bad g = let q : Err (DrawOutOfRange i) ≡ Ok d = ap draw_of (sym (one_bad limit draws i l g)) ∙ e in let z : ◌≡◌ {A = ℕ} 0 1 = cc in absurd (omega arith)

stopped_at : (limit : ℕ) (draws : List ℕ) (i : ℕ) {s : Stop} → i < length draws → draw_of (one_draw limit i (drop i draws)) ≡ Err s → (s ≡ DrawOutOfRange i) × (limit ≤ get_or draws i 0)
stopped_at limit draws i {s} l e = either (get_or draws i 0) limit good bad
  where
    good : get_or draws i 0 < limit → (s ≡ DrawOutOfRange i) × (limit ≤ get_or draws i 0)
    good g = let q : Ok (get_or draws i 0) ≡ Err s = ap draw_of (sym (one_good limit draws i l g)) ∙ e in let z : ◌≡◌ {A = ℕ} 0 1 = cc in absurd (omega arith)

    bad : limit ≤ get_or draws i 0 → (s ≡ DrawOutOfRange i) × (limit ≤ get_or draws i 0)
    bad g = let q : Err (DrawOutOfRange i) ≡ Err s = ap draw_of (sym (one_bad limit draws i l g)) ∙ e in let r : s ≡ DrawOutOfRange i = cc in (r, g)

pub draw_value : (limit : ℕ) (draws : List ℕ) (i : ℕ) {d : ℕ} → i < length draws → draw_of (one_draw limit i (drop i draws)) ≡ Ok d
    → (d < limit) × (one_draw limit i (drop i draws) ≡ drawn d (drop (i + 1) draws))
draw_value limit draws i l e =
    let v = value_at limit draws i l e in
    let g : get_or draws i 0 < limit = subst (λ (x : ℕ). x < limit) v.0 v.1 in
    (v.1, one_good limit draws i l g ∙ ap (λ (x : ℕ). drawn x (drop (i + 1) draws)) (sym v.0))

pub draw_stopped : (limit : ℕ) (draws : List ℕ) (i : ℕ) {s : Stop} → i < length draws → draw_of (one_draw limit i (drop i draws)) ≡ Err s
    → (s ≡ DrawOutOfRange i) × (one_draw limit i (drop i draws) ≡ refused i)
draw_stopped limit draws i l e = let v = stopped_at limit draws i l e in (v.0, one_bad limit draws i l v.1)

-- the steps of a loop over draws, by the answer of each
module _ {S : Type 0} (limit : ℕ) (step : S → ℕ → S) (draws : List ℕ) (end i : ℕ) (s : S) (h : i < end) (l : i < length draws) where
  pub take_value : {d : ℕ} → draw_of (one_draw limit i (drop i draws)) ≡ Ok d
      → takes limit step (end - i) s i (drop i draws) ≡ takes limit step (end - (i + 1)) (step s d) (i + 1) (drop (i + 1) draws)
  take_value {d} e =
      let v = value_at limit draws i l e in
      let g : get_or draws i 0 < limit = subst (λ (x : ℕ). x < limit) v.0 v.1 in
      take_good limit step draws end i s h l g ∙ ap (λ (x : ℕ). takes limit step (end - (i + 1)) (step s x) (i + 1) (drop (i + 1) draws)) (sym v.0)

  pub take_stopped : {q : Stop} → draw_of (one_draw limit i (drop i draws)) ≡ Err q → (takes limit step (end - i) s i (drop i draws) ≡ refused i) × (q ≡ DrawOutOfRange i)
  take_stopped e = let v = stopped_at limit draws i l e in (take_bad limit step draws end i s h l v.1, v.0)

-- steps that agree on draws below the limit
pub takes_same : {S : Type 0} (limit : ℕ) (f g : S → ℕ → S) → ((s : S) (d : ℕ) → d < limit → f s d ≡ g s d)
    → (n : ℕ) (s : S) (at : ℕ) (ds : List ℕ) → takes limit f n s at ds ≡ takes limit g n s at ds
unfolding takes
takes_same limit f g h zero s at ds = refl
takes_same limit f g h (suc n) s at [] = refl
takes_same {S} limit f g h (suc n) s at (d ∷ ds) = by_test (ltb d limit) refl (λ l. rw (h s d l) (takes_same limit f g h n (g s d) (at + 1) ds))
  where
    by_test : (t : Bool) → ltb d limit ≡ t → (d < limit → takes limit f n (f s d) (at + 1) ds ≡ takes limit g n (g s d) (at + 1) ds)
        → cond t (takes limit f n (f s d) (at + 1) ds) (refused at) ≡ cond t (takes limit g n (g s d) (at + 1) ds) (refused at)
    by_test true e k = k (ltb-true d limit e)
    by_test false e k = refl

pub then_same : {S U : Type 0} (P : S → List ℕ → Type 0) (Q : ℕ → Type 0) (D : Drawn S) (f g : S → List ℕ → Drawn U)
    → Ends P Q D → ((s : S) (rest : List ℕ) → P s rest → f s rest ≡ g s rest) → and_then D f ≡ and_then D g
then_same P Q (drawn s rest) f g h k = k s rest h
then_same P Q (refused p) f g h k = refl
