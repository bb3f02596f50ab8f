-- The words of a text, one a line of 16 hex digits and a newline, as numbers, sizes and doubles. Definitions only.
use Rattle.std.specs.Prelude.{ℕ, zero, suc, ◌+◌, ◌*◌, ◌%◌, cond, List, ltb, length, Float}
use Rattle.lists.specs.Lists.{numbers, part, listed}
use Rattle.bits.specs.Bits.{double_of}

-- the value of a digit's byte, 0 to 9 or a to f; of any other byte some value below 16
unfoldable pub hex_digit_of : ℕ → ℕ
hex_digit_of b = cond (ltb b 0x61) (b % 16) ((b % 16 + 9) % 16)

-- a value with one digit more at its end, of 16 digits at most: of 17 the first is lost
unfoldable pub with_digit : ℕ → ℕ → ℕ
with_digit value b = value % 0x1000_0000_0000_0000 * 16 + hex_digit_of b

-- the value of the first k digits, read from the left, and of a list of digits
unfoldable pub value_to : (ℕ → ℕ) → ℕ → ℕ
value_to f zero = 0
value_to f (suc k) = with_digit (value_to f k) (f k)

abbrev pub value_of : List ℕ → ℕ
value_of digits = value_to (numbers digits) (length digits)

-- word k of a text, of the first 200001; 0 past its end
unfoldable pub word_at : List ℕ → ℕ → ℕ
word_at text k = cond (ltb 200000 k) 0 (cond (ltb (length text) (k * 17 + 16)) 0 (value_of (part (k * 17) 16 text)))

-- the word i places after the one at `at`; 0 where one of the two is above 100000
unfoldable pub word_from : List ℕ → ℕ → ℕ → ℕ
word_from text at i = cond (ltb 100000 at) 0 (cond (ltb 100000 i) 0 (word_at text (at + i)))

-- the same word, and `most` where it is above that
abbrev pub size_from : List ℕ → ℕ → ℕ → ℕ → ℕ
size_from text at i most = cond (ltb most (word_from text at i)) most (word_from text at i)

-- n words from `at` on, as doubles and as numbers
abbrev pub doubles_from : List ℕ → ℕ → ℕ → List Float
doubles_from text at n = listed (λ i. double_of (word_from text at i)) n

abbrev pub words_from : List ℕ → ℕ → ℕ → List ℕ
words_from text at n = listed (λ i. word_from text at i) n
