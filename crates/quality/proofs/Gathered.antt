-- The t-stat of a group from its members' scores in a list of their own.
use Prim.Native.Nat.{ℕ, ◌≤◌}
use mathlib.Core.Path.{◌≡◌, sym, ◌∙◌, ap}
use mathlib.Core.List.{List, ◌++◌, map}
use native.Mathlib.Omega.{arith}
use lib.ListN.{length, take, length-append, length-map}
use lib.Seq.{take_at}
use lib.Ieee.{Float}
use Rattle.lists.specs.Lists.{cells}
use Rattle.tstat.specs.Tstat.{tstat_of}
use Rattle.quality.specs.Quality.{quality_of}

module _ (scores : List Float) (ms : List ℕ) {xs : List Float} (rest : List Float) (e : xs ≡ map (cells scores) ms) where
  gathered_length : length xs ≡ length ms
  gathered_length = ap length e ∙ length-map ms (cells scores)

  -- the scores stand at the front
  pub gathered_fits : length ms ≤ length (xs ++ rest)
  gathered_fits = omega (arith, length-append xs rest, gathered_length)

  gathered_front : take (length ms) (xs ++ rest) ≡ xs
  gathered_front = take_at xs rest (length ms) gathered_length

  pub gathered_long : length ms ≡ length (take (length ms) (xs ++ rest))
  gathered_long = sym gathered_length ∙ ap length (sym gathered_front)

  pub gathered_few : {most : ℕ} → length ms ≤ most → length (take (length ms) (xs ++ rest)) ≤ most
  gathered_few few = omega (arith, gathered_long)

  pub gathered_quality : {r : Float} → r ≡ tstat_of (cells (take (length ms) (xs ++ rest))) (length (take (length ms) (xs ++ rest))) → r ≡ quality_of scores ms
  unfolding quality_of
  gathered_quality q =
      q ∙ ap (λ l. tstat_of (cells l) (length l)) (gathered_front ∙ e) ∙ ap (tstat_of (cells (map (cells scores) ms))) (length-map ms (cells scores))
