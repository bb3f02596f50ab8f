-- Where draws come from: a list, or the generator of a seed. Definitions only.
use Rattle.std.specs.Prelude.{ℕ, ◌+◌, ◌*◌, ◌^◌, ◌<◌, ◌≤◌, ◌≡◌, true, false, cond, List, Result, Ok, Err, length, drop, Float}
use Rattle.draws.specs.Counts.{seeding_of}
use Rattle.draws.specs.Draws.{Drawn, drawn, refused}
use Rattle.draws.specs.declared.Stop.{Stop}
use Rattle.draws.specs.declared.Stop.TheVariants.{DrawOutOfRange}
use Rattle.plusplus.specs.Seeding.{CentresAfter}
use Rattle.rng_std.specs.Seeds.{key_of}
use Rattle.rng_std.specs.Words.{word_of}
use Rattle.rng_std.specs.States.{key_in, Holds}
use Rattle.plusplus_seeded.specs.Seeded.{seed_made}
use Rattle.plusplus_seeded.specs.declared.Source.{Source}

-- the words of the source's generator
abbrev pub words_by : Source → ℕ → ℕ
words_by src = word_of (key_of src.seed)

-- the draws of a source: those of the list from its place on; or `made` from the word that is next, the draws that the generator gives along the step at hand
abbrev pub given : Source → List ℕ → (ℕ → List ℕ) → List ℕ
given src draws made = cond src.seeded (made src.taken) (drop src.at draws)

-- the source after `count` draws; `next` is the place of the next word behind a step that starts at a word
abbrev pub moved_on : Source → ℕ → (ℕ → ℕ) → Source
moved_on src count next =
    record { at = src.at + count; seeded = src.seeded; seed = src.seed; taken = cond src.seeded (next src.taken) src.taken }

-- the list is the generator of a source that draws by a seed, behind the words that are taken; for a source of draws in a list it holds anything
abbrev pub RngOf : Source → List ℕ → Type 0
RngOf src rng = src.seeded ≡ true → (key_in rng ≡ key_of src.seed) × Holds src.taken rng

-- a source that has so many draws
pub record Supplies (src : Source) (draws : List ℕ) (count : ℕ) : Type 0 where
  pub enough : src.seeded ≡ false → src.at + count ≤ length draws
  pub fits : src.at + count < 2 ^ 64
  pub early : src.taken + 2 * count < 2 ^ 59

-- a table of m items, k centres, and a source for them
pub record MaySupply (squares : List Float) (m k : ℕ) (draws : List ℕ) (src : Source) : Type 0 where
  pub two : 2 ≤ k
  pub names : k ≤ m
  pub few : m ≤ 256
  pub square : length squares ≡ m * m
  pub supplies : Supplies src draws (seeding_of k)

-- the draws of a seeding, and the next word behind it
abbrev pub seed_draws : Source → (ℕ → ℕ → Float) → ℕ → ℕ → ℕ → List ℕ
seed_draws src q m k i = (seed_made (words_by src) q m k i).draws

abbrev pub seed_next : Source → (ℕ → ℕ → Float) → ℕ → ℕ → ℕ → ℕ
seed_next src q m k i = (seed_made (words_by src) q m k i).next

-- the answer: the source behind the draws, which is `next`; or what ends the run
abbrev pub supplied_of : Source → Drawn (List ℕ) → Result Source Stop
supplied_of next (drawn cs rest) = Ok next
supplied_of next (refused p) = Err (DrawOutOfRange p)

pub record SuppliedBy (r : Drawn (List ℕ)) (next : Source) (answer : Result Source Stop) (centres' : List ℕ) : Type 0 where
  pub answer_is : answer ≡ supplied_of next r
  pub centres_are : CentresAfter r centres'
