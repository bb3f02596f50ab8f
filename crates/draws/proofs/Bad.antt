-- Where there are draws enough, a draw that ends a run is not below its limit; and a draw that is not below its limit ends what reads it, there or in front of
-- it. `draws` are all of them, and each place is one in them.
use Rattle.std.proofs.Common.{◌≡◌, ℕ, zero, suc, ◌+◌, ◌-◌, ◌<◌, ◌≤◌, Bool, true, false, cond, ltb, List, [], ◌∷◌, length, drop, sym, refl, ap, ◌∙◌, subst, le_of_suc-le-suc, not-suc-le-zero, add-one, arith, get_or-drop, drop-cons, ltb-false, le-ltb}
use Rattle.lists.specs.Lists.{numbers}
use Rattle.draws.specs.Draws.{Drawn, drawn, refused, takes, and_then}
use Rattle.draws.proofs.Taken.{Ends}

-- the draws from place `next` on remain; or Q holds of the place of the draw that ended the run
abbrev pub Reads : {S : Type 0} → List ℕ → ℕ → (ℕ → Type 0) → Drawn S → Type 0
Reads draws next Q D = Ends (λ s rest. rest ≡ drop next draws) Q D

pub reads_map : {S : Type 0} (draws : List ℕ) (next next' : ℕ) (Q Q' : ℕ → Type 0) (D : Drawn S) → Reads draws next Q D → next ≡ next' → ((p : ℕ) → Q p → Q' p)
    → Reads draws next' Q' D
reads_map draws next next' Q Q' (drawn s rest) h e k = h ∙ ap (λ (i : ℕ). drop i draws) e
reads_map draws next next' Q Q' (refused p) h e k = k p h

-- some draws, and then others
pub then_reads : {S U : Type 0} (draws : List ℕ) (next next' : ℕ) (Q Q' : ℕ → Type 0) (D : Drawn S) (f : S → List ℕ → Drawn U) → Reads draws next Q D
    → ((s : S) → D ≡ drawn s (drop next draws) → Reads draws next' Q' (f s (drop next draws))) → ((p : ℕ) → Q p → Q' p) → Reads draws next' Q' (and_then D f)
then_reads draws next next' Q Q' (drawn s rest) f h g k = rw h (g s (ap (drawn s) h))
then_reads draws next next' Q Q' (refused p) f h g k = k p h

-- the draw at place p, one of the n from `at` on, is not below the limit
abbrev pub Above : ℕ → ℕ → ℕ → List ℕ → ℕ → Type 0
Above limit at n draws p = (at ≤ p) × (p < at + n) × (limit ≤ numbers draws p)

-- n draws below a limit
pub takes_bad : {S : Type 0} (limit : ℕ) (step : S → ℕ → S) (draws : List ℕ) (n : ℕ) (s : S) (at : ℕ) → at + n ≤ length draws
    → Reads draws (at + n) (Above limit at n draws) (takes limit step n s at (drop at draws))
unfolding takes
takes_bad limit step draws zero s at l = let z : at ≡ at + 0 = omega arith in ap (λ (i : ℕ). drop i draws) z
takes_bad {S} limit step draws (suc n) s at l =
    let there : at < length draws = omega arith in
    rw (drop-cons draws at 0 there) (by_test (ltb (numbers draws at) limit) refl (takes_bad limit step draws n (step s (numbers draws at)) (at + 1) (omega arith)))
  where
    by_test : (t : Bool) → ltb (numbers draws at) limit ≡ t
        → Reads draws (at + 1 + n) (Above limit (at + 1) n draws) (takes limit step n (step s (numbers draws at)) (at + 1) (drop (at + 1) draws))
        → Reads draws (at + suc n) (Above limit at (suc n) draws)
        (cond t (takes limit step n (step s (numbers draws at)) (at + 1) (drop (suc at) draws)) (refused at))
    by_test true e h =
        rw (← add-one at)
        (reads_map draws (at + 1 + n) (at + suc n) (Above limit (at + 1) n draws) (Above limit at (suc n) draws)
        (takes limit step n (step s (numbers draws at)) (at + 1) (drop (at + 1) draws)) h (omega arith) (λ p b. (omega (arith, b.0), omega (arith, b.1), b.2)))
    by_test false e h = (omega arith, omega arith, ltb-false (numbers draws at) limit e)

-- ended by a draw at place q, or by one in front of it
abbrev pub Stops : {S : Type 0} → ℕ → Drawn S → Type 0
Stops q D = Ends (λ s rest. ⊥) (λ p. p ≤ q) D

-- so is what follows
pub then_stops : {S U : Type 0} (q : ℕ) (D : Drawn S) (f : S → List ℕ → Drawn U) → Stops q D → Stops q (and_then D f)
then_stops q (drawn s rest) f h = absurd h
then_stops q (refused p) f h = h

-- the draw at place i of a list is not below the limit
takes_stops : {S : Type 0} (limit : ℕ) (step : S → ℕ → S) (n : ℕ) (s : S) (at i : ℕ) (ds : List ℕ) → i < n → limit ≤ numbers ds i → Stops (at + i) (takes limit step n s at ds)
unfolding takes
takes_stops limit step zero s at i ds h b = absurd (not-suc-le-zero h)
takes_stops limit step (suc n) s at i [] h b = omega arith
takes_stops limit step (suc n) s at zero (d ∷ ds) h b = rw (le-ltb d limit b) (omega arith)
takes_stops {S} limit step (suc n) s at (suc i) (d ∷ ds) h b = by_test (ltb d limit) (takes_stops limit step n (step s d) (at + 1) i ds (le_of_suc-le-suc h) b)
  where
    by_test : (t : Bool) → Stops (at + 1 + i) (takes limit step n (step s d) (at + 1) ds) → Stops (at + suc i) (cond t (takes limit step n (step s d) (at + 1) ds) (refused at))
    by_test true k = let e : at + 1 + i ≡ at + suc i = omega arith in subst (λ (q : ℕ). Stops q (takes limit step n (step s d) (at + 1) ds)) e k
    by_test false k = omega arith

-- one of n draws
pub takes_out : {S : Type 0} (limit : ℕ) (step : S → ℕ → S) (draws : List ℕ) (n : ℕ) (s : S) (at q : ℕ) → Above limit at n draws q
    → Stops q (takes limit step n s at (drop at draws))
takes_out limit step draws n s at q b =
    let e : at + (q - at) ≡ q = omega (arith, b.0) in
    let same : numbers (drop at draws) (q - at) ≡ numbers draws q = get_or-drop at draws (q - at) 0 ∙ ap (numbers draws) e in
    subst (λ (p : ℕ). Stops p (takes limit step n s at (drop at draws))) e
    (takes_stops limit step n s at (q - at) (drop at draws) (omega (arith, b.0, b.1)) (subst (λ (d : ℕ). limit ≤ d) (sym same) b.2))
