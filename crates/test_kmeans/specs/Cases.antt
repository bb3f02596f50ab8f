-- A recorded case of a k-means leaf, and whether the leaf answers and leaves what is recorded. Definitions only.
use Rattle.std.specs.Prelude.{ℕ, ◌+◌, ◌/◌, Bool, cond, ◌&&◌, List, [], ◌∷◌, eqb, length, replicate, Float}
use Rattle.refusals.specs.Table.{Refusal}
use Rattle.kmeans_answers.specs.Leaf.{Leaf}
use Rattle.kmeans_plus_plus.specs.Leaves.{plus_plus_leaf}
use Rattle.kmeans_lloyd.specs.Leaves.{lloyd_leaf}
use Rattle.kmeans_labels.specs.Leaves.{labels_leaf}
use Rattle.test_words.specs.Words.{word_from, size_from, doubles_from, words_from}
use Rattle.test_compared.specs.Compared.{same_numbers, seven, names_wiped, left_lists}
use Rattle.test_counts.specs.Counting.{counts_by}
use Rattle.test_counts.specs.declared.Counts.{Counts}
use Rattle.test_kmeans.specs.declared.Case.{Case}

-- the case at `at`: eight words, two lists, and then the expected answer, three words and the output list
unfoldable pub case_at : List ℕ → ℕ → Case
case_at text at =
    record {
      leaf = word_from text at 0;
      n = word_from text at 1;
      k = word_from text at 2;
      points = size_from text at 3 256;
      list = size_from text at 4 64;
      out = size_from text at 5 64;
      floats = size_from text at 6 6400;
      numbers = size_from text at 7 5400;
      expected = at + 8 + size_from text at 3 256 + size_from text at 4 64;
      next = at + 8 + size_from text at 3 256 + size_from text at 4 64 + 3 + size_from text at 5 64;
    }

-- what the case's leaf gives and leaves: 1 kmeans_plus_plus, 2 lloyd, else kmeans_labels
unfoldable pub leaf_of : Case → List Float → List ℕ → List ℕ → List ℕ → List Float → List ℕ → Leaf
leaf_of c points draws centres out floats numbers =
    cond (eqb c.leaf 1) (plus_plus_leaf points c.n c.k draws out floats numbers)
    (cond (eqb c.leaf 2) (lloyd_leaf points c.n centres out floats numbers) (labels_leaf points c.n c.k draws out floats numbers))

-- whether the text has this number, place and draws read at `expected`
unfoldable pub same_answer : List ℕ → ℕ → Refusal → ℕ → Bool
same_answer text expected q read = same_numbers text expected (q.number ∷ q.place ∷ read ∷ [])

-- whether the case's leaf answers and leaves what is recorded
unfoldable pub right_leaf : List ℕ → Case → Leaf → Bool
right_leaf text c l =
    same_answer text c.expected l.answer l.read
    && (same_numbers text (c.expected + 3) l.out && left_lists (names_wiped l.answer.number c.n) l.floats l.numbers)

-- the same, on lent lists of the case's lengths
unfoldable pub right_lists : List ℕ → Case → List Float → List ℕ → List ℕ → Bool
right_lists text c points draws centres =
    right_leaf text c (leaf_of c points draws centres (replicate c.out 999) (replicate c.floats seven) (replicate c.numbers 999))

-- the same, on the lists that the text has after the eight words at `at`; the second stands for the draws and for the centres
unfoldable pub right_case : List ℕ → ℕ → Case → Bool
right_case text at c =
    right_lists text c (doubles_from text (at + 8) c.points) (words_from text (at + 8 + c.points) c.list) (words_from text (at + 8 + c.points) c.list)

-- the cases of a text, and how many of them are answered otherwise
unfoldable pub counts_in : List ℕ → Counts
counts_in text = counts_by (case_at text) (λ c. c.next) (right_case text) (length text / 17)
