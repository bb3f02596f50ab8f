-- What the lists of a call must hold afterwards: the words of a text, and zeros at the front of the working lists. Definitions only.
use Rattle.std.specs.Prelude.{ℕ, Bool, cond, ◌&&◌, ◌||◌, List, eqb, ltb, length, Float}
use Rattle.lists.specs.Lists.{cells, numbers}
use Rattle.lists.specs.Sums.{all_to}
use Rattle.bits.specs.Bits.{bits_of, double_of}
use Rattle.refusals.specs.Table.{work_doubles, work_numbers}
use Rattle.test_words.specs.Words.{word_from}

-- whether a list has the numbers, and whether it has the bits, that the text has from `at` on
unfoldable pub same_numbers : List ℕ → ℕ → List ℕ → Bool
same_numbers text at xs = all_to (λ i. eqb (numbers xs i) (word_from text at i)) (length xs)

unfoldable pub same_doubles : List ℕ → ℕ → List Float → Bool
same_doubles text at xs = all_to (λ i. eqb (bits_of (cells xs i)) (word_from text at i)) (length xs)

-- the bits of 7.0, which each double of a lent list is before the call; each whole number is 999
abbrev pub seven_bits : ℕ
seven_bits = 0x401c_0000_0000_0000

abbrev pub seven : Float
seven = double_of seven_bits

-- the doubles, and the whole numbers, at the front of a working list that a call over m names leaves zero
abbrev pub front_of : ℕ → ℕ
front_of m = cond (ltb 256 m) 0 (work_doubles m)

abbrev pub numbers_front_of : ℕ → ℕ
numbers_front_of m = cond (ltb 256 m) 0 (work_numbers m)

-- what a working list has at i after a call that leaves its front zero: 0 there, and what it was lent with behind
abbrev pub left_at : ℕ → ℕ → ℕ → ℕ
left_at front lent i = cond (ltb i front) 0 lent

-- whether a working list is so
unfoldable pub left_doubles : List Float → ℕ → Bool
left_doubles floats front = all_to (λ i. eqb (bits_of (cells floats i)) (left_at front seven_bits i)) (length floats)

unfoldable pub left_numbers : List ℕ → ℕ → Bool
left_numbers xs front = all_to (λ i. eqb (numbers xs i) (left_at front 999 i)) (length xs)

-- whether both are, after a call over m names
unfoldable pub left_lists : ℕ → List Float → List ℕ → Bool
left_lists m floats xs = left_doubles floats (front_of m) && left_numbers xs (numbers_front_of m)

-- whether a run or a leaf that answers this number of the table got past the rows that keep every list, and so leaves the fronts zero; 0: not refused
unfoldable pub wipes : ℕ → Bool
wipes number = eqb number 0 || (eqb number 7 || (eqb number 8 || eqb number 9))

-- how many names the zero fronts are measured by: n, of at most 256, or 0 where every list is kept
unfoldable pub names_wiped : ℕ → ℕ → ℕ
names_wiped number n = cond (ltb 256 n) 0 (cond (wipes number) n 0)
