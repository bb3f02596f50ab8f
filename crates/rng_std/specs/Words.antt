-- The words of a key, in the order in which they are taken, and what rand 0.10 draws from them. Definitions only.
use Rattle.std.specs.Prelude.{ℕ, ◌+◌, ◌-◌, ◌*◌, ◌/◌, ◌%◌, ◌^◌, cond, List, nat_le}
use Rattle.lists.specs.Lists.{numbers}
use Rattle.rng_chacha.specs.ChaCha.{start_of, block_of}

-- the words of the block with this number: 12 rounds, stream 0
unfoldable pub words_of : List ℕ → ℕ → List ℕ
words_of key number = block_of 6 (start_of key number 0)

-- word i of a key: the blocks 0, 1, 2, and so on have 16 words each, and none is left out
unfoldable pub word_of : List ℕ → ℕ → ℕ
word_of key i = numbers (words_of key (i / 16)) (i % 16)

-- what is drawn, and the place of the next word
pub record Taken : Type 0 where
  pub value : ℕ
  pub next : ℕ

-- An index below n (`random_range(0..n)` of a usize, n below 2 ^ 32: Canon's method, a second word at most), from a stream of words w, at its word i. The
-- product of the word and n has an upper half, which is the index, and a lower half. Where the lower half exceeds 2 ^ 32 - n, the upper half of the next word's
-- product is added to it, and a carry goes to the index.
unfoldable pub index_from : (ℕ → ℕ) → ℕ → ℕ → Taken
index_from w n i =
    cond (nat_le (w i * n % 2 ^ 32) (2 ^ 32 - n)) (record { value = w i * n / 2 ^ 32; next = i + 1 })
    (record { value = w i * n / 2 ^ 32 + (w i * n % 2 ^ 32 + w (i + 1) * n / 2 ^ 32) / 2 ^ 32; next = i + 2 })

-- A share (`random::<f64>()`), times 2 ^ 53: the upper 53 bits of two words, the first of which is the lower half
unfoldable pub share_from : (ℕ → ℕ) → ℕ → Taken
share_from w i = record { value = (w (i + 1) * 2 ^ 32 + w i) / 2 ^ 11; next = i + 2 }
