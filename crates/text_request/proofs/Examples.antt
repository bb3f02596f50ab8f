-- A request of two names, computed. These are laws computed in this crate; the starred examples stand in the one table,
-- crates/test_examples/specs/Starred.antt. Assumes nothing.
use mathlib.Core.Path.{◌≡◌, refl}
use mathlib.Core.List.{List, [], ◌∷◌}
use Prim.Native.Nat.{ℕ}
use lib.Ieee.{nan, of_bits, of_int}
use Rattle.lists.specs.Lists.{listed}
use Rattle.lists.specs.Sums.{all_to, counted, zero64}
use Rattle.text_digits.specs.Digits.{digit_of, run_of, spelled}
use Rattle.text_layout.specs.Layout.{plain, small_at, head_of, start_of, field_ok, line_at, lists_of, layout_of}
use Rattle.refusals.specs.Table.{refused}
use Rattle.text_request.specs.Request.{kept_lists, read_as, request_of, sizes_read}

request : List ℕ
request = 50 ∷ 32 ∷ 49 ∷ 32 ∷ 51 ∷ 10 ∷ 51 ∷ 102 ∷ 102 ∷ 48 ∷ 48 ∷ 48 ∷ 48 ∷ 48 ∷ 48 ∷ 48 ∷ 48 ∷ 48 ∷ 48 ∷ 48 ∷ 48 ∷ 48 ∷ 32 ∷ 48 ∷ 48 ∷ 48 ∷ 48 ∷ 48 ∷ 48 ∷ 48 ∷ 48 ∷ 48 ∷ 48 ∷ 48 ∷ 48 ∷ 48 ∷ 48 ∷ 48 ∷ 48 ∷ 32 ∷ 48 ∷ 48 ∷ 48 ∷ 48 ∷ 48 ∷ 48 ∷ 48 ∷ 48 ∷ 48 ∷ 48 ∷ 48 ∷ 48 ∷ 48 ∷ 48 ∷ 48 ∷ 48 ∷ 32 ∷ 51 ∷ 102 ∷ 102 ∷ 48 ∷ 48 ∷ 48 ∷ 48 ∷ 48 ∷ 48 ∷ 48 ∷ 48 ∷ 48 ∷ 48 ∷ 48 ∷ 48 ∷ 48 ∷ 10 ∷ 48 ∷ 32 ∷ 48 ∷ 32 ∷ 52 ∷ 53 ∷ 48 ∷ 51 ∷ 53 ∷ 57 ∷ 57 ∷ 54 ∷ 50 ∷ 55 ∷ 51 ∷ 55 ∷ 48 ∷ 52 ∷ 57 ∷ 54 ∷ 10 ∷ []

request_read : request_of request (nan ∷ nan ∷ nan ∷ nan ∷ nan ∷ []) (7 ∷ 7 ∷ 7 ∷ 7 ∷ [])
    ≡ record { answer = sizes_read 2 1 3; cells = counted 1 ∷ zero64 ∷ zero64 ∷ counted 1 ∷ nan ∷ []; draws = 0 ∷ 0 ∷ 4503599627370496 ∷ 7 ∷ [] }
unfolding request request_of read_as layout_of lists_of head_of small_at plain run_of digit_of spelled line_at all_to field_ok start_of listed of_bits of_int
request_read = refl

-- with room for two draws only
request_short : request_of request (nan ∷ nan ∷ nan ∷ nan ∷ []) (7 ∷ 7 ∷ []) ≡ kept_lists (refused 6) (nan ∷ nan ∷ nan ∷ nan ∷ []) (7 ∷ 7 ∷ [])
unfolding request request_of read_as layout_of lists_of head_of small_at plain run_of digit_of spelled line_at all_to field_ok start_of
request_short = refl
