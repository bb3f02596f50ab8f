-- What a k-means leaf gives and leaves: refused before it starts, or started. Definitions only.
use Rattle.std.specs.Prelude.{ℕ, ◌-◌, ◌*◌, ◌≤◌, ◌≡◌, Bool, cond, ◌&&◌, ◌||◌, List, eqb, ltb, leb, length, Float}
use Rattle.refusals.specs.Table as table
use Rattle.refusals.specs.Table.{Refusal, none, whenever, or_else, refusal, work_doubles, wiped, work_numbers, wiped_numbers}
use Rattle.draws.specs.Draws.{Drawn, drawn, refused}

-- a matrix of points, of 2 to 256 items
pub record Points (points : List Float) (n : ℕ) : Type 0 where
  pub two : 2 ≤ n
  pub few : n ≤ 256
  pub square : length points ≡ n * n

-- The first row of the table that keeps every list, for n items with `cells` cells and k groups: 2, 4, 5, 6 as every call has them,
-- then 29, then 10 at the place `bad`, the first of `count` centres that is out of range, if it is below `count`.
unfoldable pub leaf_refusal : ℕ → ℕ → Bool → ℕ → ℕ → ℕ → Refusal
leaf_refusal cells n fits k bad count =
    or_else (refusal cells n n fits 0 0)
    (whenever (ltb k 2 || ltb n k) (table.refused 29) (whenever (ltb bad count) (record { number = 10; place = bad }) none))

-- an output list of `size` numbers, and both working lists at a run's lengths
abbrev pub lists_fit : ℕ → ℕ → ℕ → ℕ → ℕ → Bool
lists_fit n out size floats numbers = eqb out size && (leb (work_doubles n) floats && leb (work_numbers n) numbers)

-- what a leaf that has started answers, the draws it read, and its output list
pub record Ran : Type 0 where
  pub answer : Refusal
  pub read : ℕ
  pub out : List ℕ

-- a leaf that takes draws from the front of ds: 8 at the place of one out of range, with the old list; else the new one
abbrev pub took_of : List ℕ → Drawn (List ℕ) → List ℕ → Ran
took_of ds (drawn new rest) old = record { answer = none; read = length ds - length rest; out = new }
took_of ds (refused p) old = record { answer = record { number = 8; place = p }; read = 0; out = old }

-- the same, with 7 where ds has fewer draws than the leaf needs: none has been read then
unfoldable pub ran_of : ℕ → List ℕ → Drawn (List ℕ) → List ℕ → Ran
ran_of need ds d old = cond (ltb (length ds) need) (record { answer = table.refused 7; read = 0; out = old }) (took_of ds d old)

-- what a leaf answers, the draws it read, and what it leaves in its output list and in the two working lists
pub record Leaf : Type 0 where
  pub answer : Refusal
  pub read : ℕ
  pub out : List ℕ
  pub floats : List Float
  pub numbers : List ℕ

-- refused before it starts, with every list as it was; else, however it ends, the working lists are left zero at their fronts
unfoldable pub leaf_of : Refusal → ℕ → Ran → List ℕ → List Float → List ℕ → Leaf
leaf_of q n ran out floats numbers =
    cond (eqb q.number 0)
    (record { answer = ran.answer; read = ran.read; out = ran.out; floats = wiped n floats; numbers = wiped_numbers n numbers })
    (record { answer = q; read = 0; out = out; floats = floats; numbers = numbers })
