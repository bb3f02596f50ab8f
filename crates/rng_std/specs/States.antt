-- What the functions ask of a generator's list, and leave in it. Definitions only.
use Rattle.std.specs.Prelude.{◌≡◌, ℕ, ◌+◌, ◌*◌, ◌/◌, List, length, take, drop}
use Rattle.rng_chacha.specs.Four.{four_of}
use Rattle.rng_std.specs.declared.Drawn.{Drawn}
use Rattle.rng_std.specs.Words.{Taken, words_of}

-- the chunk with this number: the words of four blocks, one after the other
unfoldable pub chunk_of : List ℕ → ℕ → List ℕ
chunk_of key number = four_of (λ b. words_of key (4 * number + b))

-- the key, which stands behind the 64 words of a chunk
abbrev pub key_in : List ℕ → List ℕ
key_in rng = drop 64 rng

-- rng' has the key of rng, and in front of it the chunk with this number
pub record Filled (number : ℕ) (rng rng' : List ℕ) : Type 0 where
  pub key_is : key_in rng' ≡ key_in rng
  pub words_are : take 64 rng' ≡ chunk_of (key_in rng) number

-- a generator of which so many words were taken: it has the chunk that the next word is in
pub record Holds (taken : ℕ) (rng : List ℕ) : Type 0 where
  pub long : length rng ≡ 72
  pub words_are : take 64 rng ≡ chunk_of (key_in rng) (taken / 64)

-- rng' has the key of rng, and `next` words were taken
pub record Moved (rng : List ℕ) (next : ℕ) (rng' : List ℕ) : Type 0 where
  pub key_is : key_in rng' ≡ key_in rng
  pub holds : Holds next rng'

-- what is drawn, and the generator behind it
pub record DrawnBy (t : Taken) (r : Drawn) (rng rng' : List ℕ) : Type 0 where
  pub value-is : r.value ≡ t.value
  pub taken_is : r.taken ≡ t.next
  pub moved : Moved rng t.next rng'
