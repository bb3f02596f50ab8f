-- What holds of every call by a seed, about `seeded_of` (Onc.antt): what `get_onc_clusters_with_seed` promises to answer and to leave. Definitions only; `seeded`
-- in proofs/Seeds.antt proves it of every seed.
use Rattle.std.specs.Prelude.{ℕ, ◌*◌, ◌<◌, ◌≤◌, ◌≡◌, true, List, [], ◌∷◌, length, Float}
use Rattle.distance.specs.Distance.{dist_at}
use Rattle.rng_std.specs.Seeds.{key_of}
use Rattle.rng_std.specs.Words.{word_of}
use Rattle.plusplus_seeded.specs.Kinds.{Kind, draws_of_kinds, HasKind}
use Rattle.partition.specs.Partition.{has}
use Rattle.candidates.specs.Kinds.{RoundKindAt}
use Rattle.round.specs.Round.{need_of, total_of}
use Rattle.round.specs.Made.{draws_from}
use Rattle.onc_run.specs.Run.{Lists, run_of}
use Rattle.onc.specs.Onc.{seeded_of}
use Rattle.onc.specs.Demands.{Within, Demand1, Demand2, Demand3, Reached, rounds_of}
use Rattle.onc.specs.Certain.{CertainGrouping}

-- A round of the run by a seed takes the draw at place p of the seed's list as one of this kind: a round over some items that is reached after fewer than 32
-- others. An index is one below the number of its items. Whether it takes an index or a share goes by the centres that the draws in front of this one chose
-- (`KindAt` in plusplus_seeded/specs/Kinds.antt).
abbrev pub TakenAs : (seed : ℕ) → List Float → (n repeat p : ℕ) → Kind → Type 0
TakenAs seed book n repeat p kind =
    (before : List ℕ) × (items : List ℕ) × Reached book n repeat (draws_from seed book n repeat) before items × (length before < 32)
    × RoundKindAt (dist_at book n items) (length items) repeat (total_of repeat before) (draws_from seed book n repeat) p kind

-- Each draw of a seed's list is the generator's next, by the rule for the kind that the run takes it as. For some list of kinds: the draws are those that the
-- generator of the seed gives for these kinds one after the other, from its first word on and with no word left out between them (`draws_are`); each place has
-- the kind that the run takes the draw there as (`as_taken`); and the run takes the draw at each place (`each_taken`).
pub record EachNext (seed : ℕ) (book : List Float) (n repeat : ℕ) : Type 0 where
  pub kinds : List Kind
  pub draws_are : draws_from seed book n repeat ≡ draws_of_kinds (word_of (key_of seed)) kinds 0
  pub as_taken : (p : ℕ) (kind : Kind) → TakenAs seed book n repeat p kind → HasKind kinds p kind
  pub each_taken : (p : ℕ) → p < length (draws_from seed book n repeat) → (kind : Kind) × TakenAs seed book n repeat p kind

-- The numbers that a call by a seed may answer: a grouping (0), a refusal before the run (1, 2, 4, 5, 6), or that a 33rd round is reached (9)
abbrev pub seeded_numbers : List ℕ
seeded_numbers = 0 ∷ 1 ∷ 2 ∷ 4 ∷ 5 ∷ 6 ∷ 9 ∷ []

-- of every call by a seed, whatever the seed is
pub record SeededClaim : Type 0 where
  -- the three demands, and what is certain of a grouping, hold of it, with the list of draws that the seed gives
  pub first : (book : List Float) (rows cols repeat seed : ℕ) (l : Lists) → Demand1 book rows cols repeat (seeded_of book rows cols repeat seed l) l
  pub second : (book : List Float) (n repeat seed : ℕ) (l : Lists) → Within book n repeat l → Demand2 book n repeat (draws_from seed book n repeat) l
  -- Demand 3's exception, a draw that ends a round early (8), takes in 31 here; by `numbers` neither is met, so each round that starts reads its whole count.
  pub third : (book : List Float) (rows cols repeat seed : ℕ) (l : Lists) → Demand3 book rows cols repeat (draws_from seed book rows repeat) l
  pub grouping : (book : List Float) (n repeat seed : ℕ) (l : Lists) → Within book n repeat l → (seeded_of book n n repeat seed l).answer.refused.number ≡ 0
      → CertainGrouping book n (seeded_of book n n repeat seed l)
  -- It answers no other number, so no seed is refused for what it is: draws do not run short (7), none is out of range (8), every round finds a candidate (3),
  -- and 31 never arises, since an index takes at most two words (`index_from` has no further try).
  pub numbers : (book : List Float) (rows cols repeat seed : ℕ) (l : Lists) → has seeded_numbers (seeded_of book rows cols repeat seed l).answer.refused.number ≡ true
  -- The rounds that start read all of the seed's list and nothing else, also where the run ends by 9; and a grouping reports as many draws.
  pub exact : (book : List Float) (n repeat seed : ℕ) → 2 ≤ n
      → total_of repeat (rounds_of (run_of book n repeat (draws_from seed book n repeat))) ≡ length (draws_from seed book n repeat)
  pub reported : (book : List Float) (rows cols repeat seed : ℕ) (l : Lists) → (seeded_of book rows cols repeat seed l).answer.refused.number ≡ 0
      → (seeded_of book rows cols repeat seed l).answer.read ≡ length (draws_from seed book rows repeat)
  -- at most 32 times the first round's count
  pub most : (book : List Float) (n repeat seed : ℕ) → 2 ≤ n → length (draws_from seed book n repeat) ≤ 32 * need_of repeat n
  -- and each draw is the generator's next
  pub each_next : (book : List Float) (n repeat seed : ℕ) → 2 ≤ n → EachNext seed book n repeat
