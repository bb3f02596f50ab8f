-- Draws by the rule for a centre: each is in range, and takes at most two words.
use mathlib.Core.Path.{◌≡◌, ◌∙◌}
use mathlib.Core.Bool.{Bool, true, false, cond}
use mathlib.Core.List.{List}
use Prim.Native.Nat.{ℕ, zero, suc, ◌+◌, ◌*◌, ◌^◌, ◌<◌, ◌≤◌}
use native.Mathlib.Omega.{arith}
use native.Mathlib.Numerals.{add-one}
use lib.Ieee.{Float, lt}
use Rattle.lists.specs.Sums.{zero64}
use Rattle.plusplus_pick.specs.Potentials.{limit}
use Rattle.rng_std.specs.Words.{Taken, index_from, share_from}
use Rattle.rng_std.specs.States.{Moved}
use Rattle.rng_std.proofs.Ranges.{share_below, share_next, index_below, index_next}
use Rattle.plusplus_seeded.specs.Seeded.{place_of, rule_of}

module _ (w : ℕ → ℕ) (small : (i : ℕ) → w i < 2 ^ 32) (total : Float) (m : ℕ) where
  below_by : (t : Bool) (i : ℕ) → 0 < m → (cond t (share_from w i) (index_from w m i)).value < cond t (2 ^ 53) m
  below_by true i z = share_below w small i
  below_by false i z = index_below w small m z i

  pub rule_below : (i : ℕ) → 0 < m → (rule_of w total m i).value < limit total m
  rule_below i z = below_by (lt zero64 total) i z

  next_by_lem : (t : Bool) (i : ℕ) → (cond t (share_from w i) (index_from w m i)).next ≤ i + 2
  next_by_lem true i = omega (arith, share_next w small i)
  next_by_lem false i = index_next w small m i

  pub rule_next : (i : ℕ) → (rule_of w total m i).next ≤ i + 2
  rule_next i = next_by_lem (lt zero64 total) i

  pub place_few : (j i : ℕ) → place_of (rule_of w total m) j i ≤ i + 2 * j
  unfolding place_of
  place_few zero i = omega arith
  place_few (suc j) i = omega (arith, place_few j i, rule_next (place_of (rule_of w total m) j i))

pub place_more : (rule : ℕ → Taken) (j i : ℕ) → place_of rule (j + 1) i ≡ (rule (place_of rule j i)).next
unfolding place_of
place_more rule j i = rw add-one

-- one move after another
pub moved_then : (g g' g'' : List ℕ) (n n' n'' : ℕ) → Moved g n g' → Moved g' n' g'' → n' ≡ n'' → Moved g n'' g''
moved_then g g' g'' n n' n'' a b e = record { key_is = b.key_is ∙ a.key_is; holds = rw e at b.holds }
