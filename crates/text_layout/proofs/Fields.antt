-- What the tests of the readers tell of the definitions, over plain variables. Assumes nothing.
use Prim.Native.Nat.{◌*◌, ◌+◌, ◌-◌, ◌<◌, ◌^◌, ◌≤◌, ℕ}
use mathlib.Core.Path.{◌∙◌, ◌≡◌, refl, sym}
use mathlib.Core.Bool.{◌&&◌, cond, false, true}
use mathlib.Core.List.{List}
use native.Mathlib.Numerals.{add-one}
use borrow.Author.Tests.{eq-eqb, eqb-true, le-leb, lt-leb, ne_eqb}
use Rattle.std.specs.Prelude.{None, Some}
use lib.Dec.{eqb, leb}
use lib.ListN.{length}
use Rattle.text_digits.specs.Digits.{byte_at, newline, run_of, space, spelled, stop_of}
use Rattle.lists.specs.Sums.{all_to}
use Rattle.lists.proofs.Sums.{all_fails, all_true}
use Rattle.lists.proofs.Tests.{both}
use Rattle.text_digits.proofs.Scan.{in_text, stop_positive}
use Rattle.text_layout.specs.Layout.{cell_form, draw_form, field_ok, head_of, layout_found, line_at, lists_of, plain, sizes, small_at, small_number, start_of, value_of}
use Rattle.text_layout.specs.declared.Form.{Form}

-- a number of the first line: k digits at p with the number v, up to e
module _ (s : List ℕ) (p bound stop v k e : ℕ) (hv : v ≡ spelled 10 s p k) (hk : k ≡ run_of 10 s p 19) (he : e ≡ p + k) where
  small_is :
      cond (plain (byte_at s p) k) (cond (leb v bound) (cond (eqb (byte_at s e) stop) (small_number v (e + 1)) None) None) None ≡ small_at s p bound stop
  unfolding small_at
  small_is = rw (hv, he, hk)

  pub small_unplain : plain (byte_at s p) k ≡ false → None ≡ small_at s p bound stop
  small_unplain a = rw (← small_is, a)

  pub small_large : plain (byte_at s p) k ≡ true → bound < v → None ≡ small_at s p bound stop
  small_large a b = rw (← small_is, a, lt-leb v bound b)

  pub small_unended : plain (byte_at s p) k ≡ true → v ≤ bound → (byte_at s e ≡ stop → ⊥) → None ≡ small_at s p bound stop
  small_unended a b d = rw (← small_is, a, le-leb v bound b, ne_eqb (byte_at s e) stop d)

  pub small_read : plain (byte_at s p) k ≡ true → v ≤ bound → byte_at s e ≡ stop → small_number v (e + 1) ≡ small_at s p bound stop
  small_read a b d = rw (← small_is, a, le-leb v bound b, eq-eqb (byte_at s e) stop d)

-- field t of n: k digits from q to e
module _ (f : Form) (s : List ℕ) (p n t q k e : ℕ) (hq : q ≡ start_of f s p t) (hk : k ≡ run_of f.base s q f.most) (he : e ≡ q + k) where
  field_is : field_ok f s p n t ≡ leb f.least k && eqb (byte_at s e) (stop_of t n)
  unfolding field_ok
  field_is = rw (he, hk, hq)

  pub field_short : k < f.least → field_ok f s p n t ≡ false
  field_short h = rw (field_is, lt-leb f.least k h)

  pub field_unended : f.least ≤ k → (byte_at s e ≡ stop_of t n → ⊥) → field_ok f s p n t ≡ false
  field_unended h d = rw (field_is, le-leb f.least k h, ne_eqb (byte_at s e) (stop_of t n) d)

  pub field_right : f.least ≤ k → byte_at s e ≡ stop_of t n → field_ok f s p n t ≡ true
  field_right h d = rw (field_is, le-leb f.least k h, eq-eqb (byte_at s e) (stop_of t n) d)

  pub field_ends : field_ok f s p n t ≡ true → byte_at s e ≡ stop_of t n
  field_ends h = eqb-true (byte_at s e) (stop_of t n) (both (leb f.least k) (eqb (byte_at s e) (stop_of t n)) (sym field_is ∙ h)).1

  -- the byte that ends a field of a line that is right stands in the text
  pub field_inside : all_to (field_ok f s p n) n ≡ true → t < n → e < length s
  field_inside h l = in_text s e (rw (field_ends (all_true (field_ok f s p n) n h t l)) (stop_positive t n))

  pub start_more : e + 1 ≡ start_of f s p (t + 1)
  unfolding start_of
  start_more = rw (add-one t, ← hq, ← hk, he)

  pub value-is : (v : ℕ) → v ≡ spelled f.base s q k → v ≡ value_of f s p t
  value-is v h = h ∙ rw (hk, hq)

pub start_none : (f : Form) (s : List ℕ) (p : ℕ) → p ≡ start_of f s p 0
unfolding start_of
start_none f s p = refl

pub line_empty : (f : Form) (s : List ℕ) (p n : ℕ) → n ≡ 0 → cond (eqb (byte_at s p) 10) (Some (p + 1)) None ≡ line_at f s p n
unfolding line_at
line_empty f s p n h = rw (eq-eqb n 0 h)

pub no_line : (f : Form) (s : List ℕ) (p n t : ℕ) → (n ≡ 0 → ⊥) → t < n → field_ok f s p n t ≡ false → None ≡ line_at f s p n
unfolding line_at
no_line f s p n t h l e = rw (ne_eqb n 0 h, ← all_fails (field_ok f s p n) n t l e)

pub line_ends : (f : Form) (s : List ℕ) (p n t q : ℕ) → (n ≡ 0 → ⊥) → t ≡ n → q ≡ start_of f s p t → all_to (field_ok f s p n) t ≡ true → Some q ≡ line_at f s p n
unfolding line_at
line_ends f s p n t q h l e a = rw (e, l, ne_eqb n 0 h) (rw (rw l at a))

-- ---- the ends of the readers of the first line and of the two lists

module _ (s : List ℕ) where
  pub no_names : small_at s 0 12 space ≡ None → None ≡ head_of s
  unfolding head_of
  no_names a = rw a

  pub no_repeats : {n p : ℕ} → small_at s 0 12 space ≡ small_number n p → small_at s p (2 ^ 32 - 1) space ≡ None → None ≡ head_of s
  unfolding head_of
  no_repeats a b = rw (a, b)

  pub no_count : {n p r q : ℕ} → small_at s 0 12 space ≡ small_number n p → small_at s p (2 ^ 32 - 1) space ≡ small_number r q → small_at s q 1024 newline ≡ None → None ≡ head_of s
  unfolding head_of
  no_count a b c = rw (a, b, c)

  pub head_right : {n p r q d e : ℕ} → small_at s 0 12 space ≡ small_number n p → small_at s p (2 ^ 32 - 1) space ≡ small_number r q → small_at s q 1024 newline ≡ small_number d e → sizes n r d e ≡ head_of s
  unfolding head_of
  head_right a b c = rw (a, b, c)

module _ (s : List ℕ) (n r d p : ℕ) where
  pub no_cells : line_at cell_form s p (n * n) ≡ None → None ≡ lists_of s n r d p
  unfolding lists_of
  no_cells a = rw a

  pub no_draws_lem : {q : ℕ} → line_at cell_form s p (n * n) ≡ Some q → line_at draw_form s q d ≡ None → None ≡ lists_of s n r d p
  unfolding lists_of
  no_draws_lem a b = rw (a, b)

  pub lists_right : {q e : ℕ} → line_at cell_form s p (n * n) ≡ Some q → line_at draw_form s q d ≡ Some e → e ≡ length s → layout_found n r d p q ≡ lists_of s n r d p
  unfolding lists_of
  lists_right {q} {e} a b h = rw (a, b, eq-eqb e (length s) h)

  pub more_behind : {q e : ℕ} → line_at cell_form s p (n * n) ≡ Some q → line_at draw_form s q d ≡ Some e → (e ≡ length s → ⊥) → None ≡ lists_of s n r d p
  unfolding lists_of
  more_behind {q} {e} a b h = rw (a, b, ne_eqb e (length s) h)
