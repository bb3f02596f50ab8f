-- Seedings of two names at the edges, worked out by the definition. These are laws computed in this crate; the starred examples stand in the
-- one table, crates/test_examples/specs/Starred.antt.
use mathlib.Core.Path.{◌≡◌, refl}
use mathlib.Core.Bool.{false}
use mathlib.Core.List.{List, [], ◌∷◌}
use lib.IntN.{pos}
use lib.Ieee.{Float, nan, fin, add, mul, div, of_int, lt, is_nan}
use Rattle.lists.specs.Sums.{sum_to, zero64}
use Rattle.lists.specs.Lists.{listed, first_to}
use Rattle.draws.specs.Draws.{drawn, refused, takes}
use Rattle.plusplus_pick.specs.Potentials.{first_over, pick_by}
use Rattle.plusplus_trials.specs.Trials.{best_trial, table}
use Rattle.plusplus.specs.Seeding.{seeding, centres_of}

one64 : Float
one64 = fin false 1 (pos 0)

apart : List Float
apart = zero64 ∷ one64 ∷ one64 ∷ zero64 ∷ []

alike : List Float
alike = zero64 ∷ zero64 ∷ zero64 ∷ zero64 ∷ []

unknown : List Float
unknown = nan ∷ nan ∷ nan ∷ nan ∷ []

-- a share of 0 passes over the centre, whose weight is 0
share_of_zero : seeding (table apart 2) 2 2 0 (0 ∷ 0 ∷ 4503599627370496 ∷ []) ≡ drawn (0 ∷ 1 ∷ []) []
unfolding apart one64 seeding centres_of best_trial takes first_over pick_by first_to listed sum_to add mul div of_int lt is_nan
share_of_zero = refl

-- no weight is left: index draws, and the first of two equal trials
no_weight : seeding (table alike 2) 2 2 0 (1 ∷ 1 ∷ 0 ∷ 7 ∷ []) ≡ drawn (1 ∷ 1 ∷ []) (7 ∷ [])
unfolding alike seeding centres_of best_trial takes first_over pick_by first_to listed sum_to add mul div of_int lt is_nan
no_weight = refl

all_unknown : seeding (table unknown 2) 2 2 0 (0 ∷ 0 ∷ 1 ∷ []) ≡ drawn (0 ∷ 0 ∷ []) []
unfolding unknown seeding centres_of best_trial takes first_over pick_by first_to listed sum_to add mul div of_int lt is_nan
all_unknown = refl

-- an index draw of 2, a share draw of 2 ^ 53, and an index draw of 2 in the second trial
bad_index : seeding (table alike 2) 2 2 0 (2 ∷ 0 ∷ 0 ∷ []) ≡ refused 0
unfolding alike seeding centres_of best_trial takes first_over pick_by first_to listed sum_to add mul div of_int lt is_nan
bad_index = refl

bad_share : seeding (table apart 2) 2 2 5 (0 ∷ 9007199254740992 ∷ 0 ∷ []) ≡ refused 6
unfolding apart one64 seeding centres_of best_trial takes first_over pick_by first_to listed sum_to add mul div of_int lt is_nan
bad_share = refl

bad_later : seeding (table alike 2) 2 2 5 (0 ∷ 1 ∷ 2 ∷ []) ≡ refused 7
unfolding alike seeding centres_of best_trial takes first_over pick_by first_to listed sum_to add mul div of_int lt is_nan
bad_later = refl
