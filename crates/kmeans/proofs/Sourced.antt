-- k-means by the draws of a source: what the answers of the calls say of the definition.
use Rattle.std.specs.Prelude.{Ok, Err, Result}
use Prim.Native.Nat.{ℕ, ◌+◌, ◌^◌, ◌<◌, ◌≤◌}
use mathlib.Core.Path.{◌≡◌, refl, sym, ◌∙◌, ap, subst}
use mathlib.Core.Bool.{true, false, cond, true≢false}
use mathlib.Core.List.{List}
use native.Mathlib.Omega.{arith}
use lib.ListN.{length, drop}
use lib.Ieee.{Float}
use Rattle.lists.specs.Lists.{matrix_of}
use Rattle.distance_columns.specs.Pair.{squared_at}
use Rattle.draws.specs.Counts.{seeding_of}
use Rattle.draws.specs.Draws.{Drawn, drawn, refused}
use Rattle.draws.specs.declared.Stop.{Stop}
use Rattle.draws.specs.declared.Stop.TheVariants.{DrawOutOfRange}
use Rattle.plusplus_trials.specs.Trials.{table}
use Rattle.rng_std.specs.Seeds.{key_of}
use Rattle.rng_std.proofs.Ranges.{word_below}
use Rattle.plusplus.specs.Seeding.{seeding, SeededBy, MaySeed}
use Rattle.draws.proofs.Counting.{turns_few}
use Rattle.plusplus.proofs.Same.{seeding_matrix}
use Rattle.plusplus_seeded.specs.Seeded.{Made}
use Rattle.plusplus_seeded.specs.declared.Source.{Source}
use Rattle.plusplus_seeded.specs.Sources.{words_by, given, moved_on, RngOf, seed_draws, seed_next, SuppliedBy}
use Rattle.plusplus_seeded.proofs.Same.{seed_matrix}
use Rattle.lloyd_pass.specs.declared.Ended.{Ended}
use Rattle.kmeans.specs.Clustering.{Grouped}
use Rattle.kmeans.proofs.Parts.{clustered_parts, labelled_parts}
use Rattle.kmeans.specs.Steps.{clustered, labelled, ClusteredBy, LabelledBy, MayCluster, seed_given, seed_moved}

supplied_same : (R R' : Drawn (List ℕ)) (n n' : Source) (r : Result Source Stop) (l : List ℕ) → R ≡ R' → n ≡ n' → SuppliedBy R n r l → SuppliedBy R' n' r l
supplied_same R R' n n' r l e h s = subst (λ (x : Source). SuppliedBy R' x r l) h (subst (λ (D : Drawn (List ℕ)). SuppliedBy D n r l) e s)

-- the draws of a seeding on a table, for the matrix that it is
pub supplied_matrix : (x : ℕ → ℕ → Float) (m k : ℕ) (src : Source) (draws : List ℕ) (r : Result Source Stop) (l : List ℕ) {squares : List Float} → 0 < m → squares ≡ matrix_of (squared_at x m) m
    → SuppliedBy (seeding (table squares m) m k src.at (given src draws (seed_draws src (table squares m) m k))) (moved_on src (seeding_of k) (seed_next src (table squares m) m k)) r l
    → SuppliedBy (seeding (squared_at x m) m k src.at (seed_given x m k src draws)) (seed_moved x m k src) r l
supplied_matrix x m k src draws r l {squares} z e s =
    let f = seed_matrix (words_by src) (word_below (key_of src.seed)) m z (squared_at x m) k src.taken e in
    supplied_same _ _ _ _ r l
    (seeding_matrix (squared_at x m) m k src.at (given src draws (seed_draws src (table squares m) m k)) z e
    ∙ ap (λ (y : Made). seeding (squared_at x m) m k src.at (cond src.seeded y.draws (drop src.at draws))) f)
    (ap (λ (y : Made). record { at = src.at + seeding_of k; seeded = src.seeded; seed = src.seed; taken = cond src.seeded y.next src.taken }) f) s

-- the generator behind it, likewise; a source of draws in a list has none
pub rng_matrix : (x : ℕ → ℕ → Float) (m k : ℕ) (src : Source) (rng : List ℕ) {squares : List Float} → 0 < m → squares ≡ matrix_of (squared_at x m) m
    → RngOf (moved_on src (seeding_of k) (seed_next src (table squares m) m k)) rng → RngOf (seed_moved x m k src) rng
rng_matrix x m k src rng {squares} z e g =
    subst (λ (u : Source). RngOf u rng)
    (ap (λ (y : Made). record { at = src.at + seeding_of k; seeded = src.seeded; seed = src.seed; taken = cond src.seeded y.next src.taken })
    (seed_matrix (words_by src) (word_below (key_of src.seed)) m z (squared_at x m) k src.taken e)) g

pub no_rng : {A : Type 0} → false ≡ true → A
no_rng a = absurd (true≢false (sym a))

-- what the answer of a seeding says, by the laws of one that takes its draws from a list
pub supply_done : (R : Drawn (List ℕ)) {next n : Source} {cs : List ℕ} → SuppliedBy R next (Ok n) cs → (n ≡ next) × SeededBy R 0 (Ok 0) cs
supply_done (drawn c rest) {next} {n} {cs} s =
    let a : Ok n ≡ Ok next = s.answer_is in
    let e : n ≡ next = cc in
    (e, record { answer_is = refl; centres_are = s.centres_are })
supply_done (refused p) {next} {n} {cs} s =
    let a : Ok n ≡ Err (DrawOutOfRange p) = s.answer_is in
    let z : ◌≡◌ {A = ℕ} 0 1 = cc in
    absurd (omega arith)

pub seeded_done : (R : Drawn (List ℕ)) {next n : Source} {cs : List ℕ} → SuppliedBy R next (Ok n) cs → SeededBy R next.at (Ok n.at) cs
seeded_done (drawn c rest) {next} {n} {cs} s =
    let a : Ok n ≡ Ok next = s.answer_is in
    let e : n ≡ next = cc in
    record { answer_is = rw e refl; centres_are = s.centres_are }
seeded_done (refused p) {next} {n} {cs} s =
    let a : Ok n ≡ Err (DrawOutOfRange p) = s.answer_is in
    let z : ◌≡◌ {A = ℕ} 0 1 = cc in
    absurd (omega arith)

pub seeded_stopped : (R : Drawn (List ℕ)) {next : Source} {at : ℕ} {w : Stop} {cs : List ℕ} → SuppliedBy R next (Err w) cs → SeededBy R at (Err w) cs
seeded_stopped (drawn c rest) {next} {at} {w} {cs} s =
    let a : Err w ≡ Ok next = s.answer_is in
    let z : ◌≡◌ {A = ℕ} 0 1 = cc in
    absurd (omega arith)
seeded_stopped (refused p) {next} {at} {w} {cs} s =
    let a : Err w ≡ Err (DrawOutOfRange p) = s.answer_is in
    let e : w ≡ DrawOutOfRange p = cc in
    record { answer_is = ap Err e; centres_are = tt }

-- what k-means answers, with a source and with a place
pub labelled_done : (D : Drawn Grouped) {next n : Source} {old new : List ℕ} {e : Ended} → n ≡ next → ClusteredBy D 0 old (clustered 0 e) new → LabelledBy D next old (labelled n e) new
labelled_done (drawn g rest) {next} {n} {old} {new} {e} h s =
    let v = (clustered_parts 0 0 e g.ended s.answer_is).1 in
    record { answer_is = rw (h, v) refl; labels_are = s.labels_are }
labelled_done (refused p) {next} {n} {old} {new} {e} h s =
    let a : clustered 0 e ≡ Err (DrawOutOfRange p) = s.answer_is in
    let z : ◌≡◌ {A = ℕ} 0 1 = cc in
    absurd (omega arith)

pub labelled_stopped : (D : Drawn Grouped) {next : Source} {w : Stop} {old new : List ℕ} → ClusteredBy D 0 old (Err w) new → LabelledBy D next old (Err w) new
labelled_stopped (drawn g rest) {next} {w} {old} {new} s =
    let a : Err w ≡ clustered 0 g.ended = s.answer_is in
    let z : ◌≡◌ {A = ℕ} 0 1 = cc in
    absurd (omega arith)
labelled_stopped (refused p) {next} {w} {old} {new} s =
    let a : Err w ≡ Err (DrawOutOfRange p) = s.answer_is in
    let e : w ≡ DrawOutOfRange p = cc in
    record { answer_is = ap Err e; labels_are = s.labels_are }

pub clustered_done : (D : Drawn Grouped) {next n : Source} {old new : List ℕ} {e : Ended} → LabelledBy D next old (labelled n e) new → ClusteredBy D next.at old (clustered n.at e) new
clustered_done (drawn g rest) {next} {n} {old} {new} {e} s =
    let p = labelled_parts n next e g.ended s.answer_is in
    record { answer_is = rw (p.0, p.1) refl; labels_are = s.labels_are }
clustered_done (refused p) {next} {n} {old} {new} {e} s =
    let a : labelled n e ≡ Err (DrawOutOfRange p) = s.answer_is in
    let z : ◌≡◌ {A = ℕ} 0 1 = cc in
    absurd (omega arith)

pub clustered_stopped : (D : Drawn Grouped) {next : Source} {at : ℕ} {w : Stop} {old new : List ℕ} → LabelledBy D next old (Err w) new → ClusteredBy D at old (Err w) new
clustered_stopped (drawn g rest) {next} {at} {w} {old} {new} s =
    let a : Err w ≡ labelled next g.ended = s.answer_is in
    let z : ◌≡◌ {A = ℕ} 0 1 = cc in
    absurd (omega arith)
clustered_stopped (refused p) {next} {at} {w} {old} {new} s =
    let a : Err w ≡ Err (DrawOutOfRange p) = s.answer_is in
    let e : w ≡ DrawOutOfRange p = cc in
    record { answer_is = ap Err e; labels_are = s.labels_are }

-- a list has the draws of one seeding
pub list_supplies : (m k : ℕ) (draws : List ℕ) (at : ℕ) → m ≤ 256 → length draws < 2 ^ 64 → MaySeed m k draws at → MayCluster m k draws (record { at = at; seeded = false; seed = 0; taken = 0 })
list_supplies m k draws at few fits h =
    let most : k ≤ 256 = omega (arith, h.names) in
    record { two = h.two; names = h.names; supplies = record { enough = λ e. h.enough; fits = omega (arith, h.enough); early = omega (arith, turns_few k most) } }
