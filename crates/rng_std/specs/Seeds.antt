-- How rand_core 0.10 makes a key of eight words from a number of 64 bits (`seed_from_u64`: PCG32). Definitions only.
use Rattle.std.specs.Prelude.{ℕ, zero, suc, ◌+◌, ◌-◌, ◌*◌, ◌/◌, ◌%◌, ◌^◌, List, bit_xor}
use Rattle.lists.specs.Lists.{listed}
use Rattle.rng_chacha.specs.ChaCha.{rotated}

-- one step of the state
unfoldable pub advanced : ℕ → ℕ
advanced s = (s * 0x5851f42d4c957f2d + 0xa17654e46fbe17f3) % 2 ^ 64

-- x rotated right by n, n below 32
abbrev pub rotated_right : ℕ → ℕ → ℕ
rotated_right n x = rotated ((32 - n) % 32) x

-- the word of a state: ((s >> 18) ^ s) >> 27, its lower 32 bits, rotated right by s >> 59
unfoldable pub output_of : ℕ → ℕ
output_of s = rotated_right (s / 2 ^ 59) (bit_xor (s / 2 ^ 18) s / 2 ^ 27 % 2 ^ 32)

-- the state after n steps
unfoldable pub steps : ℕ → ℕ → ℕ
steps zero s = s
steps (suc n) s = advanced (steps n s)

-- the key: the words of the states after 1, 2, .., 8 steps
unfoldable pub key_of : ℕ → List ℕ
key_of seed = listed (λ i. output_of (steps (suc i) seed)) 8
