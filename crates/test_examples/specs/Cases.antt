-- A case of a leaf, and whether the leaf answers and leaves what is expected. Definitions only.
use Rattle.std.specs.Prelude.{ℕ, ◌+◌, ◌-◌, ◌/◌, Bool, cond, ◌&&◌, ◌||◌, List, [], ◌∷◌, eqb, ltb, length, replicate, Option, Some, None, Result, Ok, Err, Float}
use Rattle.lists.specs.Lists.{cells}
use Rattle.bits.specs.Bits.{double_of}
use Rattle.sqrt.specs.Root.{root}
use Rattle.stats.specs.Average.{Averaged, mean, variance, deviation}
use Rattle.tstat.specs.Tstat.{tstat, mean_of}
use Rattle.refusals.specs.Table.{number_of, place_of, Refusal, none, refused, Filled, Worked}
use Rattle.refusals.specs.declared.Cause.{Cause}
use Rattle.distance.specs.Leaves.{corr_to_distance, corr_to_distance_through, submatrix_of}
use Rattle.distance_squared.specs.Leaves.{Measured, squared_distance, squared_distance_through}
use Rattle.distance_pairwise.specs.Leaves.{pairwise_distances, pairwise_distances_through}
use Rattle.silhouette.specs.Leaf.{silhouettes_of}
use Rattle.test_words.specs.Words.{word_from, size_from, doubles_from, words_from}
use Rattle.test_compared.specs.Compared.{same_numbers, same_doubles, seven, front_of, names_wiped, left_doubles}
use Rattle.test_counts.specs.Counting.{counts_by}
use Rattle.test_counts.specs.declared.Counts.{Counts}
use Rattle.test_examples.specs.declared.Case.{Case}

-- where the expected answer of the case at `at` stands: behind eight words and two lists
abbrev pub expected_at : List ℕ → ℕ → ℕ
expected_at text at = at + 8 + size_from text at 2 144 + size_from text at 3 144

-- the case at `at`; its expected answer is three words, the third a count, and as many values
unfoldable pub case_at : List ℕ → ℕ → Case
case_at text at =
    record {
      leaf = word_from text at 0;
      n = word_from text at 1;
      a = size_from text at 2 144;
      b = size_from text at 3 144;
      out = size_from text at 4 144;
      floats = size_from text at 5 8192;
      i = word_from text at 6;
      j = word_from text at 7;
      expected = expected_at text at;
      next = expected_at text at + 3 + size_from text (expected_at text at) 2 144;
    }

-- an average of a list: 0 mean, 1 variance, 2 std_dev, 3 tstat, else mean_of
unfoldable pub average_of : ℕ → ℕ → List Float → Averaged
average_of which ddof xs =
    cond (eqb which 0) (mean (cells xs) (length xs))
    (cond (eqb which 1) (variance (cells xs) (length xs) ddof)
    (cond (eqb which 2) (deviation (cells xs) (length xs) ddof) (cond (eqb which 3) (tstat (cells xs) (length xs)) (mean_of (cells xs) (length xs)))))

-- what a call answers that gives a value or none, or why it is refused, as the table gives it
abbrev pub Valued : Type 0
Valued = Result (Option Float) Cause

abbrev pub refusal_of : Valued → Refusal
refusal_of (Ok x) = none
refusal_of (Err k) = record { number = number_of (Err k); place = place_of (Err k) }

abbrev pub values_of : Valued → List Float
values_of (Ok (Some x)) = x ∷ []
values_of (Ok None) = []
values_of (Err k) = []

abbrev pub measured_of : Valued → Measured
measured_of v = record { answer = refusal_of v; values = values_of v }

-- an average, and values that are never refused, as the other leaves answer
abbrev pub measured_by : Averaged → Measured
measured_by a = record { answer = refused a.number; values = a.values }

abbrev pub valued : List Float → Measured
valued xs = record { answer = none; values = xs }

-- the root of the first value of a list, if it has one
unfoldable pub first_root : List Float → Measured
first_root a = valued (cond (eqb (length a) 0) [] (root (cells a 0) ∷ []))

-- each value of which leaf 15 takes an average
abbrev pub half : Float
half = double_of 0x3fe0_0000_0000_0000

-- what a leaf that answers one value or none gives: 1 sqrt, 2 to 6 the averages of a list, 7 squared_distance, 14 the same through row
-- numbers, else an average, with ddof 0, of n values
unfoldable pub value_of : Case → List Float → List Float → List ℕ → Measured
value_of c a b rows =
    cond (ltb c.leaf 2) (first_root a)
    (cond (ltb c.leaf 7) (measured_by (average_of (c.leaf - 2) c.n a))
    (cond (eqb c.leaf 7) (valued (squared_distance a b ∷ []))
    (cond (eqb c.leaf 14) (squared_distance_through a c.n rows c.i c.j) (measured_by (average_of c.i 0 (replicate c.n half))))))

-- a call that is lent no list to work in leaves the case's as it was
abbrev pub kept_floats : Filled → List Float → Worked
kept_floats l floats = record { answer = l.answer; out = l.out; floats = floats }

-- what a leaf that fills a list gives and leaves: 8 corr_to_distance, 9 the same through row numbers, 10 submatrix, 11 pairwise_distances,
-- 12 the same through row numbers, else silhouette_from_pairwise
unfoldable pub list_of : Case → List Float → List ℕ → List Float → List Float → Worked
list_of c a rows out floats =
    cond (eqb c.leaf 8) (kept_floats (corr_to_distance a c.n out) floats)
    (cond (eqb c.leaf 9) (kept_floats (corr_to_distance_through a c.n rows out) floats)
    (cond (eqb c.leaf 10) (kept_floats (submatrix_of a c.n rows out) floats)
    (cond (eqb c.leaf 11) (pairwise_distances a c.n out floats)
    (cond (eqb c.leaf 12) (pairwise_distances_through a c.n rows out floats) (silhouettes_of a c.n rows out floats)))))

-- how many names the working list is for: none for 8 to 10, the row numbers for 12
unfoldable pub names_of : Case → ℕ
names_of c = cond (ltb c.leaf 11) 0 (cond (eqb c.leaf 12) c.b c.n)

-- whether the text has this number, place, count of values and values at `expected`
unfoldable pub same_outcome : List ℕ → ℕ → Refusal → List Float → Bool
same_outcome text expected q values = same_numbers text expected (q.number ∷ q.place ∷ length values ∷ []) && same_doubles text (expected + 3) values

abbrev pub right_value : List ℕ → Case → Measured → Bool
right_value text c v = same_outcome text c.expected v.answer v.values

-- the same of a leaf that fills a list, and whether the front of its working list is zero and the rest as it was
unfoldable pub right_leaf : List ℕ → Case → Worked → Bool
right_leaf text c l = same_outcome text c.expected l.answer l.out && left_doubles l.floats (front_of (names_wiped l.answer.number (names_of c)))

-- whether the case's leaf answers and leaves what is expected: 8 to 13 fill a list
unfoldable pub right_lists : List ℕ → Case → List Float → List Float → List ℕ → Bool
right_lists text c a b rows =
    cond (ltb c.leaf 8 || ltb 13 c.leaf) (right_value text c (value_of c a b rows))
    (right_leaf text c (list_of c a rows (replicate c.out seven) (replicate c.floats seven)))

-- the same, on the lists that the text has after the eight words at `at`; the second stands for doubles and for row numbers
unfoldable pub right_case : List ℕ → ℕ → Case → Bool
right_case text at c =
    right_lists text c (doubles_from text (at + 8) c.a) (doubles_from text (at + 8 + c.a) c.b) (words_from text (at + 8 + c.a) c.b)

-- the cases of a text, and how many of them are answered otherwise
unfoldable pub counts_in : List ℕ → Counts
counts_in text = counts_by (case_at text) (λ c. c.next) (right_case text) (length text / 17)
