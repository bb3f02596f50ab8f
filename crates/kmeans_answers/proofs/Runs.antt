-- What the steps of a k-means leaf make together, whichever leaf it is: the draws it counts, the lists when a part has come back, and the inputs of a leaf that starts.
use Prim.Native.Nat.{ℕ, ◌-◌, ◌*◌, ◌≤◌}
use mathlib.Core.Path.{◌≡◌, sym, ◌∙◌, ap}
use mathlib.Core.Bool.{Bool, true, false}
use mathlib.Core.List.{List, ◌++◌}
use native.Mathlib.Omega.{arith}
use lib.Dec.{eqb, ltb}
use lib.ListN.{length, drop, replicate, length-drop, length-append}
use lib.Seq.{drop_at}
use lib.Ieee.{Float}
use Rattle.lists.specs.Sums.{zero64}
use Rattle.lists.proofs.Parts.{drop_behind}
use Rattle.refusals.specs.Table.{Refusal, none, work_doubles, wiped}
use Rattle.draws.specs.Draws.{Drawn}
use Rattle.draws.specs.declared.Stop.TheVariants.{Short}
use Rattle.std.specs.Prelude.{Result, Err}
use Rattle.kmeans_answers.specs.declared.KmeansError.{KmeansError}
use Rattle.kmeans_answers.specs.declared.KmeansError.TheVariants.{Stopped}
use Rattle.kmeans_answers.specs.Answers.{refusal_of, read_of}
use Rattle.kmeans_answers.specs.Leaf.{Points, Ran, took_of, ran_of, leaf_refusal, lists_fit}
use Rattle.kmeans_answers.proofs.Laws.{Started, started, Sized, sized, fits_in}

-- what a leaf that has started answers
abbrev pub ran : Result ℕ KmeansError → List ℕ → Ran
ran a out = record { answer = refusal_of a; read = read_of a; out = out }

-- draws taken from the front, as the definition counts them
pub counted_back : (n : ℕ) (ds : List ℕ) → n ≤ length ds → length ds - length (drop n ds) ≡ n
counted_back n ds h = simp length-drop (omega arith)

-- fewer draws than the leaf needs, or enough
module _ (need : ℕ) (ds : List ℕ) (d : Drawn (List ℕ)) (old : List ℕ) where
  pub too_few : ltb (length ds) need ≡ true → ran (Err (Stopped (Short 0))) old ≡ ran_of need ds d old
  unfolding ran_of
  too_few h = rw h

  pub enough_draws : {r : Ran} → ltb (length ds) need ≡ false → r ≡ took_of ds d old → r ≡ ran_of need ds d old
  unfolding ran_of
  enough_draws h e = rw h e

-- the list of doubles when its areas have come back
module _ (n : ℕ) (floats front : List Float) (l : length front ≡ 5 * (n * n)) where
  pub areas_back : drop (work_doubles n) (front ++ drop (5 * (n * n)) floats) ≡ drop (work_doubles n) floats
  areas_back =
      drop_behind (5 * (n * n)) (work_doubles n) (front ++ drop (5 * (n * n)) floats) floats (omega arith) (drop_at front (drop (5 * (n * n)) floats) (5 * (n * n)) l)

  pub areas_length : 5 * (n * n) ≤ length floats → length (front ++ drop (5 * (n * n)) floats) ≡ length floats
  areas_length h =
      let d : length (drop (5 * (n * n)) floats) ≡ length floats - 5 * (n * n) = length-drop (5 * (n * n)) floats in
      length-append front (drop (5 * (n * n)) floats) ∙ omega (arith, d, l)

-- and when it has been wiped
pub wiped_back : (n : ℕ) (a b : List Float) {c : List Float} → c ≡ wiped n b → drop (work_doubles n) b ≡ drop (work_doubles n) a → c ≡ wiped n a
wiped_back n a b e f = e ∙ ap (λ (x : List Float). replicate (work_doubles n) zero64 ++ x) f

-- what a leaf knows of its refusal by its own test whether the lists fit, and when it is not refused
module _ (cells n k out size floats numbers bad count : ℕ) {fits : Bool} (f : n ≤ 256 → fits ≡ lists_fit n out size floats numbers) where
  pub asked_is : {q : Refusal} → q ≡ leaf_refusal cells n fits k bad count → q ≡ leaf_refusal cells n (lists_fit n out size floats numbers) k bad count
  asked_is is = is ∙ fits_in cells n fits (lists_fit n out size floats numbers) k bad count f

  module _ (is : none ≡ leaf_refusal cells n fits k bad count) where
    pub none_refused : eqb (leaf_refusal cells n (lists_fit n out size floats numbers) k bad count).number 0 ≡ true
    none_refused = ap (λ (x : Refusal). eqb x.number 0) (sym (asked_is is))

    pub starts : Started cells n (lists_fit n out size floats numbers) k bad count
    starts = started cells n (lists_fit n out size floats numbers) k bad count none_refused

    pub lists_sized : Sized n out size floats numbers
    lists_sized = sized n out size floats numbers starts.fitting

pub points_are : (points : List Float) (n k bad count : ℕ) {fits : Bool} → Started (length points) n fits k bad count → Points points n
points_are points n k bad count s = record { two = s.two; few = s.few; square = s.square }
