-- The pair distances in the working list, and the lists that the checks have passed.
use Prim.Native.Nat.{ℕ, ◌*◌, ◌≤◌}
use mathlib.Core.Path.{◌≡◌}
use mathlib.Core.Bool.{true}
use mathlib.Core.List.{List, ◌++◌, append_assoc}
use native.Mathlib.Omega.{arith}
use lib.ListN.{length, drop, length-append}
use lib.Seq.{take_at, drop_at}
use lib.Dec.{eqb, leb}
use borrow.Author.Tests.{eqb-true, leb-true}
use lib.Ieee.{Float}
use Rattle.lists.specs.Lists.{part, flat, matrix_of}
use Rattle.lists.proofs.Listed.{length-listed}
use Rattle.lists.proofs.Parts.{drop_behind}
use Rattle.refusals.specs.Table.{work_doubles, wiped}
use Rattle.distance_columns.specs.Pair.{squared_at, pair_at}
use Rattle.areas.specs.Pairs.{pairs_area}
use Rattle.distance_pairwise.specs.Leaves.{lists_fit, Fitting}
use Rattle.lists.proofs.Tests.{both}

-- the pair distances in a longer list that begins with the four areas, and what lies behind the front part
module _ (x : ℕ → ℕ → Float) (m : ℕ) (d : List Float) {a : List Float} (e : a ≡ pairs_area x m ++ drop (4 * (m * m)) d) where
  pub pairs_length : length (pairs_area x m) ≡ 4 * (m * m)
  unfolding pairs_area
  pairs_length = simp (length-append, length-listed) (omega arith)

  pub fourth_area : part (3 * (m * m)) (m * m) a ≡ matrix_of (pair_at x m) m
  unfolding pairs_area
  fourth_area =
      let n = m * m in
      let F = matrix_of x m ++ (matrix_of (λ i j. x j i) m ++ matrix_of (squared_at x m) m) in
      let R = matrix_of (pair_at x m) m in
      let s : a ≡ F ++ (R ++ drop (4 * n) d) = rw e (simp append_assoc) in
      let long : length F ≡ 3 * n = simp (length-append, length-listed) (omega arith) in
      rw (s, drop_at F (R ++ drop (4 * n) d) (3 * n) long) (take_at R (drop (4 * n) d) n (length-listed (flat (pair_at x m) m) n))

  pub wiped_same : wiped m a ≡ wiped m d
  wiped_same =
      rw (drop_behind (4 * (m * m)) (work_doubles m) a d (omega arith) (rw e (drop_at (pairs_area x m) (drop (4 * (m * m)) d) (4 * (m * m)) pairs_length)))

-- lists that the checks have passed
pub fitting : (m : ℕ) (out floats : List Float) → 2 ≤ m → m ≤ 256 → lists_fit m (length out) (length floats) ≡ true → Fitting m out floats
fitting m out floats two few h =
    let b = both (eqb (length out) (m * m)) (leb (work_doubles m) (length floats)) h in
    record { some = omega arith; few = few; out_length = eqb-true (length out) (m * m) b.0; room = leb-true (work_doubles m) (length floats) b.1 }
