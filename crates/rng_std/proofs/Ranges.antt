-- A word is below 2 ^ 32, an index below its limit, a share below 2 ^ 53, and one or two words are taken for one draw.
use Rattle.std.proofs.Common.{◌≡◌, ℕ, ◌+◌, ◌-◌, ◌*◌, ◌/◌, ◌%◌, ◌^◌, ◌<◌, ◌≤◌, Bool, true, false, cond, leb, List, refl, mul-le-mul_right, mod-lt, mul_comm, add-mul, arith}
use Rattle.lists.specs.Lists.{numbers}
use Rattle.lists.proofs.Listed.{get_d_listed}
use Rattle.rng_chacha.specs.ChaCha.{plus, start_of, rounds_of, summed, block_of}
use Rattle.rng_std.specs.Words.{Taken, words_of, word_of, index_from, share_from}

pub word_below : (key : List ℕ) (i : ℕ) → word_of key i < 2 ^ 32
unfolding word_of words_of block_of summed
word_below key i =
    let s = start_of key (i / 16) 0 in
    rw (get_d_listed (λ k. plus (numbers s k) (numbers (rounds_of 6 s) k)) 16 (i % 16) 0 (omega arith))
    (mod-lt (numbers s (i % 16) + numbers (rounds_of 6 s) (i % 16)) {m = 2 ^ 32} (omega arith))

-- for any stream of words of 32 bits
module _ (w : ℕ → ℕ) (small : (i : ℕ) → w i < 2 ^ 32) where
  pub share_below : (i : ℕ) → (share_from w i).value < 2 ^ 53
  unfolding share_from
  share_below i = let a = small i in let b = small (i + 1) in omega arith

  pub share_next : (i : ℕ) → (share_from w i).next ≡ i + 2
  unfolding share_from
  share_next i = refl

  module _ (n : ℕ) (some : 0 < n) where
    -- a word times n, and n more, has an upper half of at most n
    scaled : (i : ℕ) → w i * n + n ≤ n * 2 ^ 32
    scaled i =
        let h : w i + 1 ≤ 2 ^ 32 = omega (arith, small i) in
        let e : (w i + 1) * n ≡ w i * n + n = omega (arith, add-mul (w i) 1 n) in
        omega (arith, mul-le-mul_right n h, e, mul_comm (2 ^ 32) n)

    upper_below : (p : ℕ) → p < n * 2 ^ 32 → p / 2 ^ 32 < n
    upper_below p h = omega arith

    more_below : (i : ℕ) → w i * n / 2 ^ 32 < n
    more_below i = upper_below (w i * n) (omega (arith, scaled i))

    raised : (p u : ℕ) → p / 2 ^ 32 + (p % 2 ^ 32 + u) / 2 ^ 32 ≡ (p + u) / 2 ^ 32
    raised p u = omega arith

    by_test : (t : Bool) (a b : Taken) → a.value < n → b.value < n → (cond t a b).value < n
    by_test true a b h k = h
    by_test false a b h k = k

    pub index_below : (i : ℕ) → (index_from w n i).value < n
    unfolding index_from
    index_below i =
        by_test (leb (w i * n % 2 ^ 32) (2 ^ 32 - n)) _ _ (more_below i)
        (rw (raised (w i * n) (w (i + 1) * n / 2 ^ 32)) (upper_below (w i * n + w (i + 1) * n / 2 ^ 32) (omega (arith, scaled i, more_below (i + 1)))))

  next_by_lem : (t : Bool) (a b : Taken) (i : ℕ) → a.next ≤ i + 2 → b.next ≤ i + 2 → (cond t a b).next ≤ i + 2
  next_by_lem true a b i h k = h
  next_by_lem false a b i h k = k

  pub index_next : (n i : ℕ) → (index_from w n i).next ≤ i + 2
  unfolding index_from
  index_next n i = next_by_lem (leb (w i * n % 2 ^ 32) (2 ^ 32 - n)) _ _ i (omega arith) (omega arith)
