-- What a draw picks: the steps of the search, and that a pick is an item.
use Prim.Native.Nat.{ℕ, zero, suc, ◌-◌, ◌<◌}
use mathlib.Core.Path.{◌≡◌, refl, sym, ◌∙◌, ap}
use mathlib.Core.Bool.{Bool, true, false, cond}
use mathlib.Core.List.{List}
use mathlib.Core.Logic.{⊎_elim}
use native.Mathlib.Nat.{eq-or-lt_of_le, not-suc-le-zero}
use native.Mathlib.Omega.{arith}
use borrow.Author.Tests.{lt-ltb, le-ltb, ltb-true}
use lib.Dec.{ltb}
use lib.ListN.{length}
use lib.Ieee.{Float, nan, inf, fin, lt, eq, ne, is_nan, add, mul, binary64}
use Rattle.lists.specs.Sums.{zero64, lesser, sum_to}
use Rattle.lists.specs.Lists.{cells, first_to}
use Rattle.lists.proofs.First.{first_found, first-same}
use Rattle.lists.proofs.Listed.{length-listed, get_d_listed}
use Rattle.draws.specs.Draws.{shares, share}
use Rattle.lists.proofs.Tests.{impossible}
use Rattle.lists.proofs.Floats.{ne_self}
use Rattle.lists.proofs.Sums.{sum_same}
use Rattle.plusplus_pick.specs.Potentials.{running, first_over, limit, pick_by, pick, lesser_number, RunningSums}

module _ (f : ℕ → Float) (x : Float) where
  -- f exceeds x at place i
  abbrev pub over : ℕ → Bool
  over i = lt x (f i)

  pub reached_found : (i m : ℕ) → first_to over i ≡ i → lt x (f i) ≡ true → i < m → i ≡ first_over f x m
  unfolding first_over
  reached_found i m h e l = rw (← first_found over i m h e l, lt-ltb i m l)

  pub reached_none : (m : ℕ) → first_to over m ≡ m → m - 1 ≡ first_over f x m
  unfolding first_over
  reached_none m h = rw (h, le-ltb m m (omega arith))

  cond_below : (b : Bool) (i m : ℕ) → (b ≡ true → i < m) → 0 < m → cond b i (m - 1) < m
  cond_below true i m h z = h refl
  cond_below false i m h z = omega arith

  reached_below : (m : ℕ) → 0 < m → first_over f x m < m
  unfolding first_over
  reached_below m z = cond_below (ltb (first_to over m) m) (first_to over m) m (ltb-true (first_to over m) m) z

module _ (f : ℕ → Float) (total : Float) (m d : ℕ) where
  pick_cond : (b : Bool) (r : ℕ) → r < m → d < cond b shares m → cond b r d < m
  pick_cond true r h l = h
  pick_cond false r h l = l

  -- a pick is one of the items
  pub pick_below : 0 < m → d < limit total m → pick_by f total m d < m
  unfolding pick_by
  pick_below z l = pick_cond (lt zero64 total) (first_over f (mul binary64 (share d) total) m) (reached_below f (mul binary64 (share d) total) m z) l

-- there is one for each item
pub summed_length : (sums ws : List Float) → RunningSums sums ws → length sums ≡ length ws
summed_length sums ws e = ap length e ∙ length-listed (running (cells ws)) (length ws)

-- the pick by a list of the running weights
pub pick_summed : (sums ws : List Float) (total : Float) (d : ℕ) → RunningSums sums ws → pick_by (cells sums) total (length sums) d ≡ pick (cells ws) total (length ws) d
unfolding pick_by first_over
pick_summed sums ws total d e =
    let x = mul binary64 (share d) total in
    let s = first-same (over (cells sums) x) (over (running (cells ws)) x) (length ws) (λ k l. ap (lt x) (ap (λ (y : List Float). cells y k) e ∙ get_d_listed (running (cells ws)) (length ws) k nan l)) in
    rw (summed_length sums ws e, s)

-- one more running weight
pub running_more : (w : ℕ → Float) (i : ℕ) {s : Float} → s ≡ sum_to w i → add binary64 s (w i) ≡ running w i
unfolding sum_to
running_more w i e = rw e

-- where a sum is a number, so is each of its terms
added_numbers : (x y : Float) → is_nan (add binary64 x y) ≡ false → (is_nan x ≡ false) × (is_nan y ≡ false)
unfolding add is_nan
added_numbers nan y h = impossible (sym h)
added_numbers (inf s) nan h = impossible (sym h)
added_numbers (inf s) (inf t) h = (refl, refl)
added_numbers (inf s) (fin t n d) h = (refl, refl)
added_numbers (fin s m e) nan h = impossible (sym h)
added_numbers (fin s m e) (inf t) h = (refl, refl)
added_numbers (fin s m e) (fin t n d) h = (refl, refl)

terms_numbers : (w : ℕ → Float) (m : ℕ) → is_nan (sum_to w m) ≡ false → (i : ℕ) → i < m → is_nan (w i) ≡ false
unfolding sum_to
terms_numbers w zero h i l = absurd (not-suc-le-zero l)
terms_numbers w (suc m) h i l =
    let v = added_numbers (sum_to w m) (w m) h in
    ⊎_elim (λ q. rw q v.1) (λ q. terms_numbers w m v.0 i q) (eq-or-lt_of_le {n = i} {m = m} (omega arith))

lesser_number_lem : (a b : Float) → is_nan a ≡ false → lesser b a ≡ lesser_number a b
lesser_number_lem a b h = rw h

-- a number is its own equal
pub same_number : (x : Float) → eq x x ≡ true → ne x x ≡ false
unfolding ne
same_number x h = rw h

-- a potential where the total of the weights is a number
pub least_sum : (w q : ℕ → Float) (m : ℕ) {total x : Float} → total ≡ sum_to w m → ne total total ≡ false → x ≡ sum_to (λ i. lesser (q i) (w i)) m → x ≡ sum_to (λ i. lesser_number (w i) (q i)) m
least_sum w q m {total} e h s =
    let n : is_nan (sum_to w m) ≡ false = ap is_nan (sym e) ∙ sym (ne_self total) ∙ h in
    s ∙ sum_same (λ i. lesser (q i) (w i)) (λ i. lesser_number (w i) (q i)) m (λ i l. lesser_number_lem (w i) (q i) (terms_numbers w m n i l))
