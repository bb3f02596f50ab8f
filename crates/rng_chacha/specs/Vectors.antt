-- Published vectors of the block function. Definitions only; `vectors` in proofs/Vectors.antt computes them of `block_of`.
use Rattle.std.specs.Prelude.{◌≡◌, ℕ, ◌+◌, ◌*◌, ◌^◌, List, [], ◌∷◌}
use Rattle.rng_chacha.specs.ChaCha.{quarter_of, start_of, block_of}

-- the key 00 01 .. 1f of RFC 8439, 2.3.2, as words with the lower byte first
abbrev pub key_of_rfc : List ℕ
key_of_rfc = 0x03020100 ∷ 0x07060504 ∷ 0x0b0a0908 ∷ 0x0f0e0d0c ∷ 0x13121110 ∷ 0x17161514 ∷ 0x1b1a1918 ∷ 0x1f1e1d1c ∷ []

abbrev pub one_key : List ℕ
one_key = 1 ∷ 0 ∷ 0 ∷ 0 ∷ 0 ∷ 0 ∷ 0 ∷ 0 ∷ []

abbrev pub zero_key : List ℕ
zero_key = 0 ∷ 0 ∷ 0 ∷ 0 ∷ 0 ∷ 0 ∷ 0 ∷ 0 ∷ []

pub record VectorsClaim : Type 0 where
  -- RFC 8439, 2.1.1: a quarter round
  pub quarter : quarter_of (record { a = 0x11111111; b = 0x01020304; c = 0x9b8d6f43; d = 0x01234567 }) ≡ record { a = 0xea2a92f4; b = 0xcb1cf8ce; c = 0x4581472e; d = 0x5881c4bb }
  -- RFC 8439, 2.3.2: 20 rounds, block 1, nonce 00 00 00 09 00 00 00 4a 00 00 00 00, whose first word stands in the upper half of the number
  pub rfc : block_of 10 (start_of key_of_rfc (1 + 0x09000000 * 2 ^ 32) 0x4a000000)
      ≡ 0xe4e7f110 ∷ 0x15593bd1 ∷ 0x1fdd0f50 ∷ 0xc47120a3 ∷ 0xc7f4d1c7 ∷ 0x0368c033 ∷ 0x9aaa2204 ∷ 0x4e6cd4c3 ∷ 0x466482d2 ∷ 0x09aa9f07 ∷ 0x05d7c214 ∷ 0xa2028bd9 ∷ 0xd19c12b5 ∷ 0xb94e16de
      ∷ 0xe883d0cb ∷ 0x4e3c50a2 ∷ []
  -- draft-strombergson-chacha-test-vectors-01, TC1: 12 rounds, the key and both numbers 0
  pub zeros : block_of 6 (start_of zero_key 0 0)
      ≡ 0x6a9af49b ∷ 0x53f95507 ∷ 0x12ce1f81 ∷ 0xd583265f ∷ 0xbbc32904 ∷ 0x1474e049 ∷ 0xa589007e ∷ 0x5f15ae2e ∷ 0x79f86405 ∷ 0xc0e37ad2 ∷ 0x3428e82c ∷ 0x798cfaac ∷ 0x2c9f623a ∷ 0x1969dea0
      ∷ 0x2fe80b61 ∷ 0xbe261341 ∷ []
  -- TC2: the first byte of the key is 1
  pub keyed : block_of 6 (start_of one_key 0 0)
      ≡ 0x596e0512 ∷ 0xf6b0565d ∷ 0xf090f0ee ∷ 0x09a225cd ∷ 0x278c2449 ∷ 0x0f5d5290 ∷ 0xff180293 ∷ 0x10dd4d0b ∷ 0x392200a6 ∷ 0xe254a4d9 ∷ 0x7d7a109e ∷ 0xfefdfe06 ∷ 0xeb0f21f0 ∷ 0xf2f944a0 ∷ 0xc972179b ∷ 0xc029dc60 ∷ []
