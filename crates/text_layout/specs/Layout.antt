-- The layout of a request: three lines of fields with single spaces between them, and nothing behind the third. Definitions only.
use Rattle.std.specs.Prelude.{ℕ, zero, suc, ◌+◌, ◌-◌, ◌*◌, ◌^◌, Bool, true, false, cond, ◌&&◌, List, leb, eqb, length, Option, Some, None, option_and_then}
use Rattle.lists.specs.Sums.{all_to}
use Rattle.text_digits.specs.Digits.{byte_at, run_of, spelled, space, newline, stop_of}
use Rattle.text_layout.specs.declared.Form.{Form}
use Rattle.text_layout.specs.declared.Small.{Small}
use Rattle.text_layout.specs.declared.Head.{Head}
use Rattle.text_layout.specs.declared.Layout.{Layout}

-- a step that may fail, and the steps behind it
infixl 10 ◌>>=◌
abbrev pub ◌>>=◌ : {A B : Type 0} → Option A → (A → Option B) → Option B
o >>= f = option_and_then f o

-- ---- the first line

-- k digits of which the first byte is `first`: at least one, and no zero in front
unfoldable pub plain : ℕ → ℕ → Bool
plain first k = cond (eqb k 0) false (cond (eqb first 48) (eqb k 1) true)

abbrev pub small_number : ℕ → ℕ → Option Small
small_number v e = Some (record { value = v; end = e })

-- a decimal number at place p, at most `bound`, with no zero in front, and right behind it the byte `stop`:
-- the number and the place behind that byte
unfoldable pub small_at : List ℕ → ℕ → ℕ → ℕ → Option Small
small_at s p bound stop =
    cond (plain (byte_at s p) (run_of 10 s p 19))
    (cond (leb (spelled 10 s p (run_of 10 s p 19)) bound)
    (cond (eqb (byte_at s (p + run_of 10 s p 19)) stop) (small_number (spelled 10 s p (run_of 10 s p 19)) (p + run_of 10 s p 19 + 1)) None)
    None)
    None

abbrev pub sizes : ℕ → ℕ → ℕ → ℕ → Option Head
sizes n r d e = Some (record { names = n; repeats = r; draws = d; end = e })

-- names, repeats and count of draws, and the place behind the line
unfoldable pub head_of : List ℕ → Option Head
head_of s = do
  n ← small_at s 0 12 space
  r ← small_at s n.end (2 ^ 32 - 1) space
  d ← small_at s r.end 1024 newline
  sizes n.value r.value d.value d.end

-- ---- the two lists

-- a cell: 16 digits in base 16. A draw: 1 to 19 digits in base 10
abbrev pub cell_form : Form
cell_form = record { base = 16; least = 16; most = 16 }

abbrev pub draw_form : Form
draw_form = record { base = 10; least = 1; most = 19 }

-- how many digits stand at q, at most as many as the form takes
abbrev pub digits_at : Form → List ℕ → ℕ → ℕ
digits_at f s q = run_of f.base s q f.most

-- where field t of a line starts, the line starting at p: right behind the byte that ends the field before
unfoldable pub start_of : Form → List ℕ → ℕ → ℕ → ℕ
start_of f s p zero = p
start_of f s p (suc t) = start_of f s p t + digits_at f s (start_of f s p t) + 1

-- field t of n is in its form, and ends as it should
unfoldable pub field_ok : Form → List ℕ → ℕ → ℕ → ℕ → Bool
field_ok f s p n t =
    leb f.least (digits_at f s (start_of f s p t)) && eqb (byte_at s (start_of f s p t + digits_at f s (start_of f s p t))) (stop_of t n)

-- the number in field t
abbrev pub value_of : Form → List ℕ → ℕ → ℕ → ℕ
value_of f s p t = spelled f.base s (start_of f s p t) (digits_at f s (start_of f s p t))

-- an empty line at p: the place behind it
abbrev pub empty_at : List ℕ → ℕ → Option ℕ
empty_at s p = cond (eqb (byte_at s p) newline) (Some (p + 1)) None

-- a line of n fields at p: the place behind it. An empty list is an empty line
unfoldable pub line_at : Form → List ℕ → ℕ → ℕ → Option ℕ
line_at f s p n =
    cond (eqb n 0) (empty_at s p) (cond (all_to (field_ok f s p n) n) (Some (start_of f s p n)) None)

-- ---- the three lines

abbrev pub layout_found : ℕ → ℕ → ℕ → ℕ → ℕ → Option Layout
layout_found n r d p q = Some (record { names = n; repeats = r; draws = d; cells_at = p; draws_at = q })

-- the two lists from p on, with nothing behind them
unfoldable pub lists_of : List ℕ → ℕ → ℕ → ℕ → ℕ → Option Layout
lists_of s n r d p = do
  q ← line_at cell_form s p (n * n)
  e ← line_at draw_form s q d
  cond (eqb e (length s)) (layout_found n r d p q) None

-- the sizes, and the places where the cells and the draws start
unfoldable pub layout_of : List ℕ → Option Layout
layout_of s = do
  h ← head_of s
  lists_of s h.names h.repeats h.draws h.end
