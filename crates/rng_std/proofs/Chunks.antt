-- A generator's list: its words, its key, and the list with another chunk or with another key.
use Rattle.std.proofs.Common.{◌≡◌, ℕ, ◌+◌, ◌*◌, ◌/◌, ◌%◌, ◌<◌, ◌≤◌, List, ◌++◌, length, drop, sym, refl, ap, ◌∙◌, arith, length-drop, get_or-take, take_at, drop_at, take_all}
use Rattle.lists.specs.Lists.{numbers, part, put}
use Rattle.lists.proofs.Listed.{get_d_listed}
use Rattle.lists.proofs.Parts.{put_length, put_part}
use Rattle.rng_chacha.specs.Four.{four_of}
use Rattle.rng_chacha.specs.ChaCha.{block_of, start_of}
use Rattle.rng_std.specs.Words.{words_of, word_of}
use Rattle.rng_std.specs.States.{chunk_of, key_in, Filled, Holds, Moved}

-- word k of a chunk is a word of its key
pub chunk_at : (key : List ℕ) (taken : ℕ) → numbers (chunk_of key (taken / 64)) (taken % 64) ≡ word_of key taken
unfolding chunk_of four_of word_of
chunk_at key taken =
    let b : 4 * (taken / 64) + taken % 64 / 16 ≡ taken / 16 = omega arith in
    let j : taken % 64 % 16 ≡ taken % 16 = omega arith in
    get_d_listed (λ i. numbers (words_of key (4 * (taken / 64) + i / 16)) (i % 16)) 64 (taken % 64) 0 (omega arith)
    ∙ rw (b, j) refl

-- the next word
pub word_is : (taken : ℕ) (rng : List ℕ) → Holds taken rng → numbers rng (taken % 64) ≡ word_of (key_in rng) taken
word_is taken rng h =
    sym (get_or-take 64 rng (taken % 64) 0 (omega arith)) ∙ ap (λ l. numbers l (taken % 64)) h.words_are ∙ chunk_at (key_in rng) taken

-- a word of the same chunk was taken
pub moved_within : (taken : ℕ) (rng : List ℕ) → Holds taken rng → taken % 64 < 63 → Moved rng (taken + 1) rng
moved_within taken rng h l =
    let e : taken / 64 ≡ (taken + 1) / 64 = omega arith in
    record { key_is = refl; holds = record { long = h.long; words_are = rw (← e) h.words_are } }

-- the last word of a chunk was taken
pub moved_over : (taken : ℕ) (rng rng' : List ℕ) → length rng' ≡ 72 → 63 ≤ taken % 64 → Filled (taken / 64 + 1) rng rng' → Moved rng (taken + 1) rng'
moved_over taken rng rng' k l f =
    let e : taken / 64 + 1 ≡ (taken + 1) / 64 = omega arith in
    record { key_is = f.key_is; holds = record { long = k; words_are = f.words_are ∙ rw (f.key_is, e) refl } }

-- the eight words behind a chunk are the key
pub key_part : (rng : List ℕ) {key : List ℕ} → length rng ≡ 72 → key ≡ part 64 8 rng → key ≡ key_in rng
key_part rng h e = e ∙ take_all 8 (drop 64 rng) (omega (arith, length-drop 64 rng))

-- the words of a chunk in front of the key
pub filled_by : (number : ℕ) (rng words : List ℕ) {key : List ℕ} → key ≡ key_in rng → words ≡ four_of (λ b. block_of 6 (start_of key (4 * number + b) 0)) → length words ≡ 64
    → Filled number rng (words ++ drop 64 rng)
unfolding chunk_of words_of
filled_by number rng words k e l =
    record { key_is = drop_at words (drop 64 rng) 64 l; words_are = take_at words (drop 64 rng) 64 l ∙ e ∙ rw k refl }

-- the list with another key
pub key_put : (key rng : List ℕ) {words : List ℕ} → length rng ≡ 72 → length key ≡ 8 → words ≡ key → key_in (put 64 8 rng words) ≡ key
key_put key rng {words} h l e =
    let fits : 64 + 8 ≤ length rng = omega arith in
    let long : length words ≡ 8 = ap length e ∙ l in
    let same : length (put 64 8 rng words) ≡ 72 = put_length 64 8 rng words fits long ∙ h in
    sym (key_part (put 64 8 rng words) same refl) ∙ put_part 64 8 rng words fits long ∙ e
