-- A trial of one centre more of k-means++ (Arthur and Vassilvitskii 2007): w i is item i's weight, its least squared distance to a centre,
-- q p i its squared distance to item p, and there are m items. Definitions only.
use Rattle.std.specs.Prelude.{ℕ, suc, ◌-◌, ◌≡◌, cond, List, ltb, length, Float}
use Rattle.std.specs.Float.Ieee.{lt, is_nan, mul}
use Rattle.std.specs.Float.{binary64}
use Rattle.lists.specs.Lists.{cells, listed, first_to}
use Rattle.lists.specs.Sums.{zero64, sum_to}
use Rattle.draws.specs.Draws.{shares, share}
use Rattle.plusplus_pick.specs.declared.Trial.{Trial}

-- the lesser of two; a NaN gives way to a number
abbrev pub lesser_number : Float → Float → Float
lesser_number a b = cond (lt b a) b (cond (is_nan a) b a)

-- the weights with p as a centre too
abbrev pub with : (ℕ → ℕ → Float) → (ℕ → Float) → ℕ → ℕ → Float
with q w p i = lesser_number (w i) (q p i)

-- the running weight of item i, the weights summed up to it
abbrev pub running : (ℕ → Float) → ℕ → Float
running w i = sum_to w (suc i)

-- the first of m places where f exceeds x, else the last
unfoldable pub first_over : (ℕ → Float) → Float → ℕ → ℕ
first_over f x m = cond (ltb (first_to (λ i. lt x (f i)) m) m) (first_to (λ i. lt x (f i)) m) (m - 1)

-- with a total above 0 a trial takes a share draw, else an index draw: what the draw must be below, and what it picks. A share picks the first item
-- whose running weight, f, exceeds share times total, else the last.
abbrev pub limit : Float → ℕ → ℕ
limit total m = cond (lt zero64 total) shares m

unfoldable pub pick_by : (ℕ → Float) → Float → ℕ → ℕ → ℕ
pick_by f total m d = cond (lt zero64 total) (first_over f (mul binary64 (share d) total) m) d

abbrev pub pick : (ℕ → Float) → Float → ℕ → ℕ → ℕ
pick w total m d = pick_by (running w) total m d

-- a pick with its potential, the total of the weights with it as a centre too
abbrev pub tried : (ℕ → ℕ → Float) → (ℕ → Float) → ℕ → ℕ → Trial
tried q w m p = record { potential = sum_to (with q w p) m; pick = p }

abbrev pub trial : (ℕ → ℕ → Float) → (ℕ → Float) → Float → ℕ → ℕ → Trial
trial q w total m d = tried q w m (pick w total m d)

-- a later trial wins only if its potential is strictly smaller
abbrev pub better : Trial → Trial → Trial
better b t = cond (lt t.potential b.potential) t b

-- the running weights of ws, in a list
abbrev pub RunningSums : List Float → List Float → Type 0
RunningSums sums ws = sums ≡ listed (running (cells ws)) (length ws)
