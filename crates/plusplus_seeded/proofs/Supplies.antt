-- A step that takes its count of draws from a source, before another: what holds of it by the draws of the step alone holds by the draws of both.
use mathlib.Core.Path.{◌≡◌, refl, ◌∙◌, ap, subst}
use mathlib.Core.Bool.{Bool, true, false, cond}
use mathlib.Core.List.{List, [], ◌∷◌, ◌++◌}
use Prim.Native.Nat.{ℕ, zero, suc, ◌+◌, ◌≤◌}
use native.Mathlib.Omega.{arith}
use lib.ListN.{length, drop}
use lib.Seq.{drop-drop}
use Rattle.draws.specs.Draws.{Drawn, drawn, refused}
use Rattle.draws.proofs.Taken.{Ends, behind}
use Rattle.plusplus_seeded.specs.declared.Source.{Source}
use Rattle.plusplus_seeded.specs.Sources.{given, moved_on}

-- a list without all of its elements
drop_all : (c : ℕ) (l : List ℕ) → length l ≡ c → drop c l ≡ []
drop_all zero [] h = refl
drop_all zero (x ∷ l) h = absurd (omega arith)
drop_all (suc c) [] h = absurd (omega arith)
drop_all (suc c) (x ∷ l) h = drop_all c l (omega arith)

module _ {S : Type 0} (T : List ℕ → Drawn S) (c : ℕ) (Q : ℕ → Type 0)
    (took : (ds : List ℕ) → Ends (λ s rest. (rest ≡ drop c ds) × (c ≤ length ds)) Q (T ds))
    (same : (p b : List ℕ) → c ≤ length p → T (p ++ b) ≡ behind b (T p)) where
  module _ (src : Source) (draws : List ℕ) (first : ℕ → List ℕ) (next : ℕ → ℕ) (later : ℕ → List ℕ) (long : (i : ℕ) → length (first i) ≡ c) where
    abbrev both : ℕ → List ℕ
    both i = first i ++ later (next i)

    step_by : (t : Bool) (s : S) (rest : List ℕ) → T (cond t (first src.taken) (drop src.at draws)) ≡ drawn s rest
        → T (cond t (both src.taken) (drop src.at draws)) ≡ drawn s (cond t (later (cond t (next src.taken) src.taken)) (drop (src.at + c) draws))
    step_by true s rest e =
        let i = src.taken in
        let h = subst (Ends (λ s rest. (rest ≡ drop c (first i)) × (c ≤ length (first i))) Q) e (took (first i)) in
        same (first i) (later (next i)) (omega (arith, long i)) ∙ ap (behind (later (next i))) e
        ∙ ap (λ (l : List ℕ). drawn s (l ++ later (next i))) (h.0 ∙ drop_all c (first i) (long i))
    step_by false s rest e =
        let ds = drop src.at draws in
        let h = subst (Ends (λ s rest. (rest ≡ drop c ds) × (c ≤ length ds)) Q) e (took ds) in
        e ∙ ap (drawn s) (h.0 ∙ drop-drop c src.at draws)

    pub step_drawn : {s : S} {rest : List ℕ} → T (given src draws first) ≡ drawn s rest
        → T (given src draws both) ≡ drawn s (given (moved_on src c next) draws later)
    step_drawn {s} {rest} e = step_by src.seeded s rest e

    stop_by : (t : Bool) (p : ℕ) → T (cond t (first src.taken) (drop src.at draws)) ≡ refused p
        → T (cond t (both src.taken) (drop src.at draws)) ≡ refused p
    stop_by true p e = let i = src.taken in same (first i) (later (next i)) (omega (arith, long i)) ∙ ap (behind (later (next i))) e
    stop_by false p e = e

    pub step_refused : {p : ℕ} → T (given src draws first) ≡ refused p → T (given src draws both) ≡ refused p
    step_refused {p} e = stop_by src.seeded p e
