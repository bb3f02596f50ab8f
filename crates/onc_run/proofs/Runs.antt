-- Laws of the run: what it takes of its draws, and what it ends in.
use Prim.Native.Nat.{ℕ, ◌≤◌}
use mathlib.Core.Path.{◌≡◌, subst}
use mathlib.Core.List.{List}
use native.Mathlib.Omega.{arith}
use lib.ListN.{length}
use lib.Ieee.{Float}
use Rattle.lists.specs.Lists.{listed}
use Rattle.lists.proofs.Listed.{length-listed}
use Rattle.distance.specs.Distance.{dist_at}
use Rattle.round.specs.Round.{round_of}
use Rattle.round.proofs.Runs.{Whole, whole, ScoredRun, scored}
use Rattle.round.proofs.Spends.{Spends, spends}
use Rattle.onc_run.specs.Run.{run_of}

-- the rows of the first round
abbrev pub all : ℕ → List ℕ
all n = listed (λ i. i) n

pub all_length : (n : ℕ) → length (all n) ≡ n
all_length n = length-listed (λ i. i) n

-- what the run takes of its draws
pub run_spends : (book : List Float) (n repeat : ℕ) (draws : List ℕ) → 2 ≤ n → Spends book n repeat 32 (all n) 0 draws (run_of book n repeat draws)
unfolding run_of
run_spends book n repeat draws two = spends book n repeat 32 (all n) 0 draws (omega (arith, all_length n))

-- and that it ends in a partition of all names, where it ends in groups
pub run_whole : (book : List Float) (n repeat : ℕ) (draws : List ℕ) → 2 ≤ n → Whole n (run_of book n repeat draws)
unfolding run_of
run_whole book n repeat draws two =
    subst (λ (m : ℕ). Whole m (round_of book n repeat 32 (all n) 0 draws)) (all_length n) (whole book n repeat 32 (all n) 0 draws (omega (arith, all_length n)))

-- with their scores
pub run_scored : (book : List Float) (n repeat : ℕ) (draws : List ℕ) → 2 ≤ n → ScoredRun (dist_at book n (all n)) n (run_of book n repeat draws)
unfolding run_of
run_scored book n repeat draws two =
    subst (λ (m : ℕ). ScoredRun (dist_at book n (all n)) m (round_of book n repeat 32 (all n) 0 draws)) (all_length n)
    (scored book n repeat 32 (all n) 0 draws (omega (arith, all_length n)))
