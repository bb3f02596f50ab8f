-- The five areas, in front of a list: what the first four have, the whole has.
use Prim.Native.Nat.{ℕ, ◌-◌, ◌*◌, ◌≤◌}
use mathlib.Core.Path.{◌≡◌, sym, ◌∙◌, ap}
use mathlib.Core.List.{List, ◌++◌}
use native.Mathlib.Omega.{arith}
use lib.ListN.{length, take, drop, length-append, length-drop}
use lib.Seq.{take-take, take_all, take_at, length-take-le}
use lib.Ieee.{Float}
use Rattle.plusplus_seeded.specs.declared.Source.{Source}
use Rattle.plusplus_seeded.specs.Sources.{MaySupply}
use Rattle.kmeans.specs.Steps.{MayCluster}
use Rattle.lists.specs.Lists.{cell_at, part, matrix_of}
use Rattle.lists.proofs.Parts.{front_less, part_front, part_length}
use Rattle.distance_columns.specs.Pair.{squared_at}
use Rattle.distance_columns.specs.Columns.{points_at}
use Rattle.areas.specs.Regions.{Area, Turned, Summed}
use Rattle.lloyd_table.specs.Area.{Held}

-- four areas and a fifth
module _ (m : ℕ) (front back : List Float) (t : Turned front m) (s : Summed front m) (l : length back ≡ m * m) where
  agree : take (4 * (m * m)) (front ++ back) ≡ take (4 * (m * m)) front
  agree = take_at front back (4 * (m * m)) t.four.size ∙ sym (take_all (4 * (m * m)) front (omega (arith, t.four.size)))

  pub points_front : take (m * m) (front ++ back) ≡ take (m * m) front
  points_front = front_less (4 * (m * m)) (m * m) (front ++ back) front (omega arith) agree

  pub held_front : Held (front ++ back) m
  held_front =
      record {
        some = t.four.some;
        few = t.four.few;
        size = length-append front back ∙ omega (arith, l, t.four.size);
        across =
            part_front (4 * (m * m)) (m * m) (m * m) (front ++ back) front (omega arith) agree ∙ t.across
            ∙ ap (λ (x : List Float). matrix_of (λ i j. cell_at x m j i) m) (sym points_front);
        squares =
            part_front (4 * (m * m)) (2 * (m * m)) (m * m) (front ++ back) front (omega arith) agree ∙ s.squares
            ∙ ap (λ (x : List Float). matrix_of (squared_at (cell_at x m) m) m) (sym points_front);
      }

-- the points have been copied to the front
module _ (m : ℕ) (points area : List Float) (two : 2 ≤ m) (few : m ≤ 256) (square : length points ≡ m * m) (size : length area ≡ 5 * (m * m)) {first : List Float} (e : first ≡ points) where
  abbrev copied : List Float
  copied = first ++ drop (m * m) area

  pub copied_length : length copied ≡ 5 * (m * m)
  copied_length =
      let f : length first ≡ m * m = ap length e ∙ square in
      let d : length (drop (m * m) area) ≡ 4 * (m * m) = simp length-drop (omega (arith, size)) in
      length-append first (drop (m * m) area) ∙ omega (arith, f, d)

  pub four_areas : Area (take (4 * (m * m)) copied) m
  four_areas = record { some = omega arith; few = few; size = length-take-le (4 * (m * m)) copied (omega (arith, copied_length)) }

  -- and the areas after it worked out
  module _ {front : List Float} (t : Turned front m) (s : Summed front m) (kept : take (m * m) front ≡ take (m * m) (take (4 * (m * m)) copied)) where
    back_length : length (drop (4 * (m * m)) copied) ≡ m * m
    back_length = simp length-drop (omega (arith, copied_length))

    pub prepared : Held (front ++ drop (4 * (m * m)) copied) m × (take (m * m) (front ++ drop (4 * (m * m)) copied) ≡ points)
    prepared =
        let f : length first ≡ m * m = ap length e ∙ square in (
          held_front m front (drop (4 * (m * m)) copied) t s back_length,
          points_front m front (drop (4 * (m * m)) copied) t s back_length ∙ kept ∙ take-take (m * m) (4 * (m * m)) copied (omega arith)
              ∙ take_at first (drop (m * m) area) (m * m) f ∙ e,
        )

-- the squared pair distances, as the third area shows them
module _ (area : List Float) (m : ℕ) (h : Held area m) where
  third_size : 3 * (m * m) - 2 * (m * m) ≡ m * m
  third_size = omega arith

  pub third_area : part (2 * (m * m)) (3 * (m * m) - 2 * (m * m)) area ≡ matrix_of (squared_at (points_at area m) m) m
  third_area = rw third_size h.squares

  -- a seeding may start from it
  pub third_supply : (k : ℕ) (draws : List ℕ) (src : Source) → MayCluster m k draws src → MaySupply (part (2 * (m * m)) (3 * (m * m) - 2 * (m * m)) area) m k draws src
  third_supply k draws src q =
      record {
        two = q.two;
        names = q.names;
        few = h.few;
        square = rw third_size (part_length (2 * (m * m)) (m * m) area (omega (arith, h.size)));
        supplies = q.supplies;
      }
