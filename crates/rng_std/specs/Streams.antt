-- Draws that the unchanged crate rand 0.10.3 gives for some seeds: the first index, the share behind it, and shares of later words. Definitions only; `streams` in proofs/Streams.antt computes
-- them of `key_of`, `index_from` and `share_from`.
use Rattle.std.specs.Prelude.{◌≡◌, ℕ}
use Rattle.rng_std.specs.Seeds.{key_of}
use Rattle.rng_std.specs.Words.{Taken, word_of, index_from, share_from}

-- the index among n that the seed gives first, with the place of the word behind it, and the share that it gives next
abbrev pub first_index : ℕ → ℕ → Taken
first_index seed n = index_from (word_of (key_of seed)) n 0

abbrev pub next_share : ℕ → Taken → ℕ
next_share seed t = (share_from (word_of (key_of seed)) t.next).value

-- an index by one word; by a second word, which carries to the index; and by a second word without a carry
pub record StreamsClaim : Type 0 where
  pub index : first_index 42 12 ≡ record { value = 1; next = 1 }
  pub share : next_share 42 (record { value = 1; next = 1 }) ≡ 2240436130339214
  pub carried : first_index 500346866 3 ≡ record { value = 1; next = 2 }
  pub not_carried : first_index 1220054703 3 ≡ record { value = 0; next = 2 }
  -- a share whose two words are in two blocks, and one at the start of the fifth block
  pub across : (share_from (word_of (key_of 42)) 31).value ≡ 5736040380170146
  pub later : (share_from (word_of (key_of 42)) 64).value ≡ 8304350239509718
