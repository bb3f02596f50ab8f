-- Two names without correlation are two groups (`apart` of specs/Demands.antt), computed step by step.
use Prim.Native.Nat.{ℕ}
use mathlib.Core.Path.{◌≡◌, refl, sym, ◌∙◌, ap}
use mathlib.Core.Bool.{true}
use mathlib.Core.List.{List, [], ◌∷◌}
use native.Mathlib.Omega.{arith}
use lib.Ieee.{Float, add, sub, mul, div, of_int, of_bits, to_bits, lt, le, eq, is_nan}
use Rattle.lists.specs.Lists.{listed, numbers, first_to}
use Rattle.lists.specs.Sums.{zero64, sum_to, all_to, fold_if}
use Rattle.lists.proofs.First.{first_found}
use Rattle.sqrt.specs.Root.{root}
use Rattle.draws.specs.Draws.{drawn, takes}
use Rattle.distance.specs.Distance.{clamped, distance_of, cell_through, dist_at}
use Rattle.distance_columns.specs.Pair.{squared_at}
use Rattle.plusplus_pick.specs.Potentials.{first_over, pick_by}
use Rattle.plusplus_trials.specs.Trials.{best_trial}
use Rattle.plusplus.specs.Seeding.{seeding, centres_of}
use Rattle.lloyd_nearest.specs.Nearest.{nearest_to}
use Rattle.lloyd_pass.specs.Passes.{centroids_at, labels_at, converges_at, passes, lloyd_ended}
use Rattle.kmeans.specs.Clustering.{kmeans_of}
use Rattle.silhouette_scores.specs.Scores.{score_from}
use Rattle.silhouette_areas.specs.Scoring.{scores_of}
use Rattle.stats.specs.Average.{constant, exact_mean, variance_about, variance_of}
use Rattle.tstat.specs.Tstat.{ratio, tstat_of, plain_mean}
use Rattle.partition.specs.Partition.{State, groups_of}
use Rattle.quality.specs.Quality.{quality_of, qualities_of, weak, weak_count}
use Rattle.draws.specs.Counts.{seedings_of, count_of}
use Rattle.candidates.specs.Candidates.{Candidate, nothing, found, candidate_of, keep, tries_from, repeats_from, best_of}
use Rattle.base.specs.Base.{base_of}
use Rattle.round.specs.Round.{done, opening_of, after_opening, round_of}
use Rattle.refusals.specs.Table.{none}
use Rattle.onc_run.specs.Run.{Lists, Outcome, run_of, final_of}
use Rattle.onc.specs.Onc.{group_of}
use Rattle.onc.specs.Demands.{Within, two_names, example_draws}
use Rattle.onc.proofs.Calls.{within_ran}

-- the distances of the two names
x : ℕ → ℕ → Float
x = dist_at two_names 2 (0 ∷ 1 ∷ [])

-- each name becomes a centre
seeded : seeding (squared_at x 2) 2 2 0 example_draws ≡ drawn (0 ∷ 1 ∷ []) []
unfolding x dist_at distance_of clamped cell_through root squared_at seeding centres_of best_trial takes first_over pick_by first_to listed sum_to add sub mul div of_int lt is_nan
seeded = refl

centre : ℕ → ℕ
centre = numbers (0 ∷ 1 ∷ [])

-- the first pass gives each its own label, and the second changes none
first_labels : labels_at x 2 2 centre 1 ≡ 0 ∷ 1 ∷ []
unfolding x centre dist_at distance_of clamped cell_through root listed sum_to nearest_to centroids_at labels_at add sub mul div of_int lt is_nan
first_labels = refl

changes : first_to (converges_at x 2 2 centre) 1 ≡ 1
unfolding x centre dist_at distance_of clamped cell_through root listed sum_to all_to fold_if nearest_to centroids_at labels_at first_to add sub mul div of_int lt is_nan
changes = refl

rests : converges_at x 2 2 centre 1 ≡ true
unfolding x centre dist_at distance_of clamped cell_through root listed sum_to all_to fold_if nearest_to centroids_at labels_at add sub mul div of_int lt is_nan
rests = refl

one_pass : 1 ≡ passes x 2 2 centre
one_pass = first_found (converges_at x 2 2 centre) 1 300 changes rests (omega arith)

clustered : kmeans_of x 2 2 0 example_draws ≡ drawn (record { labels = 0 ∷ 1 ∷ []; ended = lloyd_ended x 2 2 centre }) []
unfolding kmeans_of centre
clustered =
    rw seeded
    (ap (λ (t : ℕ). drawn (record { labels = labels_at x 2 2 centre t; ended = lloyd_ended x 2 2 centre }) []) (sym one_pass)
    ∙ ap (λ (ls : List ℕ). drawn (record { labels = ls; ended = lloyd_ended x 2 2 centre }) []) first_labels)

abbrev best : Candidate
best = record { labels = 0 ∷ 1 ∷ []; scores = zero64 ∷ zero64 ∷ []; stat = zero64; mean = zero64 }

-- each name alone scores 0
scored : candidate_of x 2 (0 ∷ 1 ∷ []) ≡ best
unfolding scores_of listed fold_if score_from sum_to tstat_of exact_mean constant variance_about variance_of all_to ratio plain_mean root add sub mul div of_int of_bits to_bits lt le eq is_nan
scored = refl

searched : best_of x 2 1 0 example_draws ≡ drawn (found best) []
unfolding best_of repeats_from tries_from lt
searched = rw clustered (ap (λ (c : Candidate). drawn (keep c nothing) []) scored)

abbrev pair : State
pair = record { groups = (0 ∷ []) ∷ (1 ∷ []) ∷ []; scores = zero64 ∷ zero64 ∷ [] }

-- no group is weak, so the first round is the last
base : base_of 2 best ≡ pair
unfolding groups_of fold_if
base = refl

not_weak : weak_count (qualities_of pair.scores pair.groups) ≡ 0
unfolding fold_if weak quality_of sum_to tstat_of exact_mean constant variance_about variance_of all_to ratio plain_mean root add sub mul div of_int of_bits to_bits lt le eq is_nan
not_weak = refl

enough : count_of 2 ≡ 3
unfolding count_of seedings_of
enough = refl

both : listed (λ i. i) 2 ≡ 0 ∷ 1 ∷ []
unfolding listed
both = refl

run_apart : run_of two_names 2 1 example_draws ≡ done pair (2 ∷ []) 3 []
unfolding run_of round_of opening_of after_opening x fold_if groups_of
run_apart = rw (both, enough, searched, base, not_weak)

pub apart : (l : Lists) → Within two_names 2 1 l → (group_of two_names 2 2 1 example_draws l).answer ≡ record { refused = none; groups = 2; read = 3 }
apart l w = ap (λ (o : Outcome). o.answer) (within_ran two_names 2 1 example_draws l w) ∙ ap final_of run_apart
