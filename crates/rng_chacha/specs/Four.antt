-- Four blocks in one list, and how four states stand side by side while they are worked out. Definitions only.
use Rattle.std.specs.Prelude.{◌≡◌, ℕ, ◌+◌, ◌*◌, ◌/◌, ◌%◌, ◌<◌, List, ◌≢◌}
use Rattle.lists.specs.Lists.{listed, numbers}

-- the words of the blocks 0, 1, 2, 3, one after the other
unfoldable pub four_of : (ℕ → List ℕ) → List ℕ
four_of block = listed (λ i. numbers (block (i / 16)) (i % 16)) 64

-- state b of four that stand side by side: its word j is at b + 4 * j
unfoldable pub lane_of : ℕ → List ℕ → List ℕ
lane_of b s = listed (λ j. numbers s (b + 4 * j)) 16

-- the first n states are those of f
abbrev pub Each : (ℕ → List ℕ) → ℕ → List ℕ → Type 0
Each f n s = (b : ℕ) → b < n → lane_of b s ≡ f b

-- s' has t as state b, and else those of s
pub record Stored (b : ℕ) (t s s' : List ℕ) : Type 0 where
  pub state_is : lane_of b s' ≡ t
  pub others : (a : ℕ) → a < 4 → (a ≢ b) → lane_of a s' ≡ lane_of a s

-- out' has these words as block b, and the words of out in front of it
pub record Copied (b : ℕ) (words out out' : List ℕ) : Type 0 where
  pub block_is : (j : ℕ) → j < 16 → numbers out' (16 * b + j) ≡ numbers words j
  pub front_is : (i : ℕ) → i < 16 * b → numbers out' i ≡ numbers out i
