-- What a k-means leaf knows once nothing is refused, and what its lists are, refused or not.
use Prim.Native.Nat.{ℕ, ◌≤◌, ◌*◌}
use mathlib.Core.Path.{◌≡◌, refl, sym, ◌∙◌, ap}
use mathlib.Core.Bool.{Bool, true, false, cond, ◌||◌}
use mathlib.Core.List.{List}
use borrow.Author.Tests.{ltb-false, eqb-true, leb-true}
use lib.Dec.{eqb, ltb, leb}
use lib.Ieee.{Float}
use Rattle.refusals.specs.Table as table
use Rattle.refusals.specs.Table.{Answer, Refusal, none, or_else, refusal, work_doubles, wiped, work_numbers, wiped_numbers}
use Rattle.std.specs.Prelude.{Result, Err}
use Rattle.refusals.specs.declared.Cause.{Cause}
use Rattle.refusals.specs.declared.Cause.TheVariants as cause
use Rattle.refusals.proofs.Laws.{when_none, accepted, fits_asked, passed}
use Rattle.kmeans_answers.specs.declared.KmeansError.{KmeansError}
use Rattle.kmeans_answers.specs.declared.KmeansError.TheVariants.{InvalidCorrelationMatrix, TooLarge, CellCount, ListLength, GroupCount, CentreOutOfRange, Stopped}
use Rattle.draws.specs.declared.Stop.TheVariants.{Rounds, Short, DrawOutOfRange, ClusteringFailed}
use Rattle.kmeans_answers.specs.Answers.{error_of, error_number, error_place, refusal_of, read_of}
use Rattle.kmeans_answers.specs.Leaf.{leaf_refusal, lists_fit, Ran, leaf_of}
use Rattle.lists.proofs.Tests.{impossible, both, neither}

-- each refusal has a number of the table
never_zero : (e : KmeansError) → eqb (error_number e) 0 ≡ false
never_zero InvalidCorrelationMatrix = refl
never_zero TooLarge = refl
never_zero CellCount = refl
never_zero ListLength = refl
never_zero GroupCount = refl
never_zero (CentreOutOfRange p) = refl
never_zero (Stopped Rounds) = refl
never_zero (Stopped (Short read)) = refl
never_zero (Stopped (DrawOutOfRange p)) = refl
never_zero (Stopped ClusteringFailed) = refl

-- a refusal of the common checks keeps its number and its place
same_row : (c : Cause) → record { number = error_number (error_of c); place = error_place (error_of c) } ≡ table.refusal_of (Err c)
same_row cause.InvalidCorrelationMatrix = refl
same_row cause.TooLarge = refl
same_row cause.CellCount = refl
same_row cause.ListLength = refl
same_row (cause.OutOfRange p) = refl

-- so a refusal of the rows above stands
or_above : (q below : Refusal) → eqb q.number 0 ≡ false → q ≡ or_else q below
unfolding or_else
or_above q below h = rw h

pub above : {T : Type 0} (a : Result T KmeansError) (c : Cause) {q : Refusal} (below : Refusal) → a ≡ Err (error_of c) → table.refusal_of (Err c) ≡ q → refusal_of a ≡ or_else q below
above a c {q} below e is =
    let r : refusal_of a ≡ q = ap refusal_of e ∙ (same_row c ∙ is) in
    r ∙ or_above q below (ap (λ (x : Refusal). eqb x.number 0) (sym is ∙ sym (same_row c)) ∙ never_zero (error_of c))

-- where none of them applies the rows below decide
split : (t : Bool) (q below : Refusal) → eqb q.number 0 ≡ t → eqb (cond t below q).number 0 ≡ true → (t ≡ true) × (eqb below.number 0 ≡ true)
split true q below e h = (refl, h)
split false q below e h = impossible (sym e ∙ h)

or-none : (q below : Refusal) → eqb (or_else q below).number 0 ≡ true → (eqb q.number 0 ≡ true) × (eqb below.number 0 ≡ true)
unfolding or_else
or-none q below h = split (eqb q.number 0) q below refl h

pub below_is : (a : Answer) {q : Refusal} (below : Refusal) → table.refusal_of a ≡ q → table.number_of a ≡ 0 → or_else q below ≡ below
unfolding or_else
below_is a below is h = rw (passed a is h)

-- what holds of the inputs of a leaf that starts
pub record Started (cells n : ℕ) (fits : Bool) (k bad count : ℕ) : Type 0 where
  pub two : 2 ≤ n
  pub few : n ≤ 256
  pub square : cells ≡ n * n
  pub fitting : fits ≡ true
  pub groups : 2 ≤ k
  pub names : k ≤ n
  pub in_range : count ≤ bad

pub started : (cells n : ℕ) (fits : Bool) (k bad count : ℕ) → eqb (leaf_refusal cells n fits k bad count).number 0 ≡ true → Started cells n fits k bad count
unfolding leaf_refusal
started cells n fits k bad count h =
    let o = or-none (refusal cells n n fits 0 0) _ h in
    let a = accepted cells n n fits 0 0 o.0 in
    let g = when_none (ltb k 2 || ltb n k) (table.refused 29) _ refl o.1 in
    let b = when_none (ltb bad count) (record { number = 10; place = bad }) none refl g.1 in
    let l = neither (ltb k 2) (ltb n k) g.0 in
    record {
      two = a.two;
      few = a.few;
      square = a.square;
      fitting = a.fitting;
      groups = ltb-false k 2 l.0;
      names = ltb-false n k l.1;
      in_range = ltb-false bad count b.0;
    }

-- whether the lists fit is asked of at most 256 items alone
pub fits_in : (cells n : ℕ) (f g : Bool) (k bad count : ℕ) → (n ≤ 256 → f ≡ g) → leaf_refusal cells n f k bad count ≡ leaf_refusal cells n g k bad count
unfolding leaf_refusal
fits_in cells n f g k bad count e = rw (fits_asked cells n n f g 0 0 e)

-- the lengths of lists that fit
pub record Sized (n out size floats numbers : ℕ) : Type 0 where
  pub right : out ≡ size
  pub doubles : work_doubles n ≤ floats
  pub counts : work_numbers n ≤ numbers

pub sized : (n out size floats numbers : ℕ) → lists_fit n out size floats numbers ≡ true → Sized n out size floats numbers
sized n out size floats numbers h =
    let a = both (eqb out size) _ h in
    let b = both (leb (work_doubles n) floats) _ a.1 in
    record {
      right = eqb-true out size a.0;
      doubles = leb-true (work_doubles n) floats b.0;
      counts = leb-true (work_numbers n) numbers b.1;
    }

-- the record of a leaf that is refused before it starts, and of one that ran
module _ (a : Result ℕ KmeansError) (q : Refusal) (n : ℕ) (ran : Ran) (out : List ℕ) (floats : List Float) (numbers : List ℕ) where
  pub not_started : (e : KmeansError) → a ≡ Err e → record { number = error_number e; place = error_place e } ≡ q
      → record { answer = refusal_of a; read = read_of a; out = out; floats = floats; numbers = numbers } ≡ leaf_of q n ran out floats numbers
  unfolding leaf_of
  not_started e w is = rw (w, ← is, never_zero e)

  pub was_run : eqb q.number 0 ≡ true → {out' : List ℕ} {floats' : List Float} {numbers' : List ℕ}
      → record { answer = refusal_of a; read = read_of a; out = out' } ≡ ran → floats' ≡ wiped n floats → numbers' ≡ wiped_numbers n numbers
      → record { answer = refusal_of a; read = read_of a; out = out'; floats = floats'; numbers = numbers' } ≡ leaf_of q n ran out floats numbers
  unfolding leaf_of
  was_run h r f g = rw (h, ← r, f, g)
