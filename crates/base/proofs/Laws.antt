-- From what the search answers to what the base of a round is.
use Rattle.std.specs.Prelude.{Option, Some, Result, Ok, None, Err}
use Prim.Native.Nat.{ℕ, ◌+◌, ◌*◌, ◌<◌, ◌≤◌}
use mathlib.Core.Path.{◌≡◌, refl, ◌∙◌, ap, subst}
use mathlib.Core.List.{List, ◌++◌}
use native.Mathlib.Omega.{arith}
use lib.ListN.{length, drop}
use lib.Ieee.{Float}
use Rattle.lists.specs.Lists.{numbers}
use Rattle.distance_columns.specs.Columns.{points_at}
use Rattle.areas.specs.Pairs.{pairs_area}
use Rattle.draws.specs.Counts.{count_of}
use Rattle.draws.specs.Draws.{Drawn}
use Rattle.draws.specs.declared.Stop.{Stop}
use Rattle.draws.specs.declared.Stop.TheVariants.{ClusteringFailed}
use Rattle.draws.proofs.Taken.{Ends}
use Rattle.plusplus_seeded.specs.declared.Source.{Source}
use Rattle.partition.specs.Partition.{groups_of, joined}
use Rattle.partition.specs.Orders.{sizes_of}
use Rattle.candidates.specs.declared.Searched.{Searched}
use Rattle.candidates.specs.Candidates.{Best, best_of}
use Rattle.candidates.specs.Made.{repeats_given, repeats_moved}
use Rattle.candidates.specs.Steps.{kept_by, searched, SearchedBy}
use Rattle.base.specs.declared.Based.{Based}
use Rattle.base.specs.Base.{based, BasedBy}
use Rattle.silhouette_areas.proofs.Laws.{book_points}
use Rattle.candidates.proofs.Answers.{searched_stopped, searched_nothing, searched_found}
use Rattle.candidates.proofs.Sourced.{given_alike, moved_alike}
use Rattle.candidates.proofs.Laws.{best_same, best_took, Found}

-- what two equal answers have in common
pub based_parts : (g h : ℕ) (n m : Source) → based g n ≡ based h m → (g ≡ h) × (n ≡ m)
based_parts g h n m e =
    let r : ◌≡◌ {A = Based} (record { groups = g; source = n }) (record { groups = h; source = m }) = cc in
    (ap (λ (x : Based). x.groups) r, ap (λ (x : Based). x.source) r)

-- the search on the areas of a book is the search of the book, and takes the same draws
pub book_searched : (x : ℕ → ℕ → Float) (m : ℕ) → 2 ≤ m → (area : List Float) {front : List Float} → front ≡ pairs_area x m → (repeats : ℕ) (src : Source) (draws : List ℕ)
    {r : Result Searched Stop} {l : List ℕ} {s : List Float}
    → SearchedBy (best_of (points_at (front ++ drop (4 * (m * m)) area) m) m repeats src.at (repeats_given (points_at (front ++ drop (4 * (m * m)) area) m) m repeats src draws))
    (repeats_moved (points_at (front ++ drop (4 * (m * m)) area) m) m repeats src) r l s
    → SearchedBy (best_of x m repeats src.at (repeats_given x m repeats src draws)) (repeats_moved x m repeats src) r l s
book_searched x m two area {front} e repeats src draws {r} {l} {s} h =
    let y = points_at (front ++ drop (4 * (m * m)) area) m in
    let z : 0 < m = omega arith in
    let agree : (i c : ℕ) → i < m → c < m → y i c ≡ x i c = book_points x m area e in
    subst (λ (n : Source). SearchedBy (best_of x m repeats src.at (repeats_given x m repeats src draws)) n r l s) (moved_alike y x m z agree repeats src)
    (subst (λ (D : Drawn Best). SearchedBy D (repeats_moved y m repeats src) r l s)
    (best_same y x m repeats two agree src.at (repeats_given y m repeats src draws) ∙ ap (best_of x m repeats src.at) (given_alike y x m z agree repeats src draws)) h)

-- what the search answers
module _ (m : ℕ) (D : Drawn Best) (next : Source) (o z : List ℕ) (q : List Float) where
  pub base_stopped : {w : Stop} {l : List ℕ} {s : List Float} → SearchedBy D next (Err w) l s → BasedBy m D next (Err w) o z q
  base_stopped h = let v = searched_stopped D h in rw v.1 (record { answer_is = ap Err v.2; leaves = tt })

  pub base_failed : {n : Source} {l : List ℕ} {s : List Float} → SearchedBy D next (searched n None) l s → BasedBy m D next (Err ClusteringFailed) o z q
  base_failed h = let v = searched_nothing D h in rw v.1 (record { answer_is = refl; leaves = tt })

  pub base_done : {n : Source} {a b : Float} {l : List ℕ} → SearchedBy D next (searched n (kept_by a b)) l q → {r : ℕ} → r ≡ length (groups_of (numbers l) m m)
      → o ≡ joined (groups_of (numbers l) m m) → z ≡ sizes_of m (groups_of (numbers l) m m) → BasedBy m D next (based r n) o z q
  base_done {n} {a} {b} {l} h {r} er eo ez =
      let v = searched_found D h in
      let k : l ≡ v.0.labels = v.3 in
      rw v.2 (record {
        answer_is =
            ap (λ (x : ℕ). based x n) (er ∙ ap (λ (x : List ℕ). length (groups_of (numbers x) m m)) k)
            ∙ ap (based (length (groups_of (numbers v.0.labels) m m))) v.5;
        leaves =
            record {
              ordered = eo ∙ ap (λ (x : List ℕ). joined (groups_of (numbers x) m m)) k;
              sized = ez ∙ ap (λ (x : List ℕ). sizes_of m (groups_of (numbers x) m m)) k;
              scored = v.4;
            };
      })

-- the labels of a candidate that was found are below m
pub found_below : (x : ℕ → ℕ → Float) (m repeats : ℕ) → 2 ≤ m → (at : ℕ) (ds : List ℕ) {next n : Source} {a b : Float} {l : List ℕ} {s : List Float}
    → SearchedBy (best_of x m repeats at ds) next (searched n (kept_by a b)) l s → (i : ℕ) → i < m → numbers l i < m
found_below x m repeats two at ds {next} {n} {a} {b} {l} h i k =
    let v = searched_found (best_of x m repeats at ds) h in
    let t = subst (Ends (λ b rest. Found x m b × (rest ≡ drop (repeats * count_of m) ds) × (repeats * count_of m ≤ length ds)) (λ p. (at ≤ p) × (p < at + repeats * count_of m))) v.2 (best_took x m repeats two at ds) in
    rw v.3 (t.0.1 i k)
