-- What the functions ask and leave. Definitions only.
use Rattle.std.specs.Prelude.{ℕ, ◌*◌, ◌^◌, ◌<◌, ◌≤◌, ◌≡◌, List, length, Float}
use Rattle.rng_std.specs.States.{Holds}

-- a generator that has given fewer than 2 ^ 60 words, and m items
pub record MayDraw (rng : List ℕ) (taken m : ℕ) : Type 0 where
  pub holds : Holds taken rng
  pub early : taken < 2 ^ 60
  pub some : 0 < m
  pub few : m ≤ 256

-- a table of m items, k centres, and fewer than 2 ^ 59 words given
pub record MaySeedFrom (squares : List Float) (m k taken : ℕ) : Type 0 where
  pub two : 2 ≤ k
  pub names : k ≤ m
  pub few : m ≤ 256
  pub square : length squares ≡ m * m
  pub early : taken < 2 ^ 59
