-- The draws that a generator gives along the candidates of a round of m items, whose columns are x: w are its words, and i is the place of the next. Definitions only.
use Rattle.std.specs.Prelude.{ℕ, zero, suc, ◌*◌, List, [], ◌++◌, Float}
use Rattle.distance_columns.specs.Pair.{squared_at}
use Rattle.draws.specs.Counts.{seedings_of, tries, count_of}
use Rattle.plusplus_seeded.specs.Seeded.{seed_made}
use Rattle.plusplus_seeded.specs.declared.Source.{Source}
use Rattle.plusplus_seeded.specs.Sources.{words_by, given, moved_on}

-- draws, and the place of the next word behind them
pub record Stretch : Type 0 where
  pub draws : List ℕ
  pub next : ℕ

-- with these draws in front
abbrev pub before : List ℕ → Stretch → Stretch
before ds r = record { draws = ds ++ r.draws; next = r.next }

-- the draws of j candidates, with k, k + 1, .. groups: a candidate takes those of its seeding
unfoldable pub tries_made : (ℕ → ℕ) → (ℕ → ℕ → Float) → (m k j i : ℕ) → Stretch
tries_made w x m k zero i = record { draws = []; next = i }
tries_made w x m k (suc j) i = before (seed_made w (squared_at x m) m k i).draws (tries_made w x m (suc k) j (seed_made w (squared_at x m) m k i).next)

-- those of r repeats
unfoldable pub repeats_made : (ℕ → ℕ) → (ℕ → ℕ → Float) → (m r i : ℕ) → Stretch
repeats_made w x m zero i = record { draws = []; next = i }
repeats_made w x m (suc r) i = before (tries_made w x m 2 (tries m) i).draws (repeats_made w x m r (tries_made w x m 2 (tries m) i).next)

-- the draws of a source for j candidates, and the source behind them
abbrev pub tries_given : (ℕ → ℕ → Float) → (m k j : ℕ) → Source → List ℕ → List ℕ
tries_given x m k j src draws = given src draws (λ i. (tries_made (words_by src) x m k j i).draws)

abbrev pub tries_moved : (ℕ → ℕ → Float) → (m k j : ℕ) → Source → Source
tries_moved x m k j src = moved_on src (seedings_of k j) (λ i. (tries_made (words_by src) x m k j i).next)

-- the source behind one repeat
abbrev pub repeat_moved : (ℕ → ℕ → Float) → ℕ → Source → Source
repeat_moved x m src = moved_on src (count_of m) (λ i. (tries_made (words_by src) x m 2 (tries m) i).next)

-- the draws of a source for r repeats, and the source behind them
abbrev pub repeats_given : (ℕ → ℕ → Float) → (m r : ℕ) → Source → List ℕ → List ℕ
repeats_given x m r src draws = given src draws (λ i. (repeats_made (words_by src) x m r i).draws)

abbrev pub repeats_moved : (ℕ → ℕ → Float) → (m r : ℕ) → Source → Source
repeats_moved x m r src = moved_on src (r * count_of m) (λ i. (repeats_made (words_by src) x m r i).next)
