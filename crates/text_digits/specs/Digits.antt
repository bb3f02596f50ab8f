-- Numbers as digits, in ASCII, and the bytes of a text by their place. Definitions only.
use Rattle.std.specs.Prelude.{ℕ, zero, suc, ◌+◌, ◌-◌, ◌*◌, ◌/◌, ◌%◌, cond, List, [], ◌∷◌, ◌++◌, ltb, eqb, get_or}

-- the byte at place k, and 0, which no layout has, behind the end
abbrev pub byte_at : List ℕ → ℕ → ℕ
byte_at s k = get_or s k 0

-- what a byte is worth as a digit: 0 to 9, then a to f, in lower case alone; 16 where it is none
unfoldable pub digit_of : ℕ → ℕ
digit_of b = cond (ltb b 48) 16 (cond (ltb b 58) (b - 48) (cond (ltb b 97) 16 (cond (ltb b 103) (b - 87) 16)))

-- the byte of a digit below 16
unfoldable pub digit_byte : ℕ → ℕ
digit_byte d = cond (ltb d 10) (48 + d) (87 + d)

-- how many of the bytes from p on are digits in base b, of the first m bytes there
unfoldable pub run_of : ℕ → List ℕ → ℕ → ℕ → ℕ
run_of b s p zero = zero
run_of b s p (suc m) = cond (ltb (digit_of (byte_at s p)) b) (suc (run_of b s (suc p) m)) zero

-- the number that the k digits from p on spell in base b
unfoldable pub spelled : ℕ → List ℕ → ℕ → ℕ → ℕ
spelled b s p zero = zero
spelled b s p (suc k) = spelled b s p k * b + digit_of (byte_at s (p + k))

-- the last k digits of x in base b, the most significant first
unfoldable pub digits_of : ℕ → ℕ → ℕ → List ℕ
digits_of b zero x = []
digits_of b (suc k) x = digits_of b k (x / b) ++ (digit_byte (x % b) ∷ [])

-- how many decimal digits x takes, for x below 10 ^ m and m above 0; m for a larger x
unfoldable pub places_to : ℕ → ℕ → ℕ
places_to zero x = zero
places_to (suc m) x = cond (ltb x 10) 1 (suc (places_to m (x / 10)))

-- how many digits x is written with: 16 in base 16, which is enough below 2 ^ 64; in base 10 as many as it takes, for x below 10 ^ 20
unfoldable pub width_of : ℕ → ℕ → ℕ
width_of b x = cond (eqb b 16) 16 (places_to 20 x)

-- x as it is written in base 10, for x below 10 ^ 20, or in base 16, for x below 2 ^ 64; of a larger x the last 20 or 16 digits
abbrev pub numeral : ℕ → ℕ → List ℕ
numeral b x = digits_of b (width_of b x) x

abbrev pub space : ℕ
space = 32

abbrev pub newline : ℕ
newline = 10

-- what ends field t of a line of n: a newline the last one, a space the others
abbrev pub stop_of : ℕ → ℕ → ℕ
stop_of t n = cond (eqb (t + 1) n) newline space
