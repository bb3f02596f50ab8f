-- The ChaCha block function of RFC 8439, 2.1 to 2.3, over words of 32 bits as whole numbers. Two things differ from the RFC, as in the source that StdRng is
-- built on: the number of rounds is a parameter (StdRng: 12), and of the four last words of a start the block's number has two and the stream's number has two,
-- where the RFC has one and three. Definitions only.
use Rattle.std.specs.Prelude.{ℕ, zero, suc, ◌+◌, ◌-◌, ◌*◌, ◌/◌, ◌%◌, ◌^◌, List, [], ◌∷◌, ◌++◌, bit_or, bit_xor, slice_set}
use Rattle.lists.specs.Lists.{listed, numbers}
use Rattle.rng_chacha.specs.declared.Quarter.{Quarter}

-- the sum of two words, its carry dropped
abbrev pub plus : ℕ → ℕ → ℕ
plus x y = (x + y) % 2 ^ 32

-- x rotated left by n, n below 32: its n upper bits become the lower ones
unfoldable pub rotated : ℕ → ℕ → ℕ
rotated n x = bit_or ((x * 2 ^ n) % 2 ^ 32) (x / 2 ^ ((32 - n) % 32))

-- two words by exclusive or, rotated
abbrev pub rolled : ℕ → ℕ → ℕ → ℕ
rolled n x y = rotated n (bit_xor x y)

-- 2.1, lines 1 and 2 (with 16 and 12), lines 3 and 4 (with 8 and 7): a += b; d ^= a; d <<<= n; c += d; b ^= c; b <<<= m
abbrev pub half_by : ℕ → ℕ → ℕ → ℕ → ℕ → Quarter
half_by m a d c b = record { a = a; b = rolled m b c; c = c; d = d }

unfoldable pub half_of : ℕ → ℕ → Quarter → Quarter
half_of n m q =
    half_by m (plus q.a q.b) (rolled n q.d (plus q.a q.b))
    (plus q.c (rolled n q.d (plus q.a q.b))) q.b

unfoldable pub quarter_of : Quarter → Quarter
quarter_of q = half_of 8 7 (half_of 16 12 q)

-- 2.2: the quarter round of the words at places i, j, k, l of a state, which is a list of 16 words
abbrev pub words_at : ℕ → ℕ → ℕ → ℕ → List ℕ → Quarter
words_at i j k l s = record { a = numbers s i; b = numbers s j; c = numbers s k; d = numbers s l }

abbrev pub stored : ℕ → ℕ → ℕ → ℕ → List ℕ → Quarter → List ℕ
stored i j k l s q = slice_set (slice_set (slice_set (slice_set s i q.a) j q.b) k q.c) l q.d

unfoldable pub quarter_at : ℕ → ℕ → ℕ → ℕ → List ℕ → List ℕ
quarter_at i j k l s = stored i j k l s (quarter_of (words_at i j k l s))

-- 2.3: a round on the columns, a round on the diagonals, and so many of both
unfoldable pub columns_of : List ℕ → List ℕ
columns_of s = quarter_at 3 7 11 15 (quarter_at 2 6 10 14 (quarter_at 1 5 9 13 (quarter_at 0 4 8 12 s)))

unfoldable pub diagonals_of : List ℕ → List ℕ
diagonals_of s = quarter_at 3 4 9 14 (quarter_at 2 7 8 13 (quarter_at 1 6 11 12 (quarter_at 0 5 10 15 s)))

abbrev pub double_of : List ℕ → List ℕ
double_of s = diagonals_of (columns_of s)

unfoldable pub rounds_of : ℕ → List ℕ → List ℕ
rounds_of zero s = s
rounds_of (suc n) s = double_of (rounds_of n s)

-- two states added word by word
unfoldable pub summed : List ℕ → List ℕ → List ℕ
summed s t = listed (λ i. plus (numbers s i) (numbers t i)) 16

-- the words of a block, by its start
unfoldable pub block_of : ℕ → List ℕ → List ℕ
block_of doubles s = summed s (rounds_of doubles s)

-- where a block starts: four constants, eight words of key, and the numbers of the block and of the stream, lower halves first
unfoldable pub start_of : List ℕ → ℕ → ℕ → List ℕ
start_of key number stream =
    (0x61707865 ∷ 0x3320646e ∷ 0x79622d32 ∷ 0x6b206574 ∷ [])
    ++ (listed (numbers key) 8 ++ (number % 2 ^ 32 ∷ number / 2 ^ 32 ∷ stream % 2 ^ 32 ∷ stream / 2 ^ 32 ∷ []))
