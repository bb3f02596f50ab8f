-- A text that is read is `request_text` of what was read: nothing else is taken. Assumes nothing.
use Prim.Native.Nat.{◌*◌, ◌+◌, ◌-◌, ◌<◌, ◌^◌, ◌≤◌, suc, zero, ℕ}
use mathlib.Core.Path.{◌∙◌, ◌≡◌, ap, refl, sym}
use mathlib.Core.Bool.{cond, true}
use mathlib.Core.List.{List, [], ◌++◌, ◌∷◌, append_assoc, append-nil}
use native.Mathlib.Numerals.{add-one}
use native.Mathlib.Nat.{add-zero}
use native.Mathlib.Decide.{ℕ_discrete}
use native.Mathlib.Omega.{arith}
use borrow.Author.Tests.{eq-eqb, eqb-true, leb-true, ne_eqb}
use Rattle.std.specs.Prelude.{None, Some}
use Rattle.std.proofs.lemmas.Option.{cond_some}
use lib.Dec.{eqb, leb}
use lib.ListN.{drop, length}
use lib.Seq.{drop-cons, drop-length}
use mathlib.Core.Logic.{by_cases}
use Rattle.text_digits.specs.Digits.{byte_at, digit_of, digits_of, newline, numeral, run_of, space, spelled, stop_of, width_of}
use Rattle.text_digits.specs.Lines.{fields_of, line_of}
use Rattle.lists.specs.Sums.{all_to}
use Rattle.lists.proofs.Sums.{all_true}
use Rattle.lists.proofs.Tests.{both, impossible}
use Rattle.text_digits.proofs.Scan.{in_text, run_digits, run_le, spelled_lt, stop_positive}
use Rattle.text_digits.proofs.Places.{one_place, places_exact, some_digit, spelled_low}
use Rattle.text_digits.proofs.RoundTrip.{run_off}
use Rattle.text_layout.specs.Layout.{cell_form, digits_at, draw_form, field_ok, layout_found, head_of, layout_of, line_at, small_number, plain, sizes, small_at, start_of, value_of}
use Rattle.text_request.specs.Written.{request_text}
use Rattle.text_layout.specs.declared.Form.{Form}
use Rattle.text_request.specs.Claim.{Limits}
use Rattle.text_layout.proofs.Fields.{field_ends}
use Rattle.text_layout.proofs.Found.{accepted, head_read, line_right, small_read_at, steps}

-- ---- a line

-- how many digits field t has
abbrev pub width_at : Form → List ℕ → ℕ → ℕ → ℕ
width_at f s p t = digits_at f s (start_of f s p t)

module _ (f : Form) (z : 0 < f.base) (h16 : f.base ≤ 16) (s : List ℕ) (p n : ℕ) where
  fields_off : (t : ℕ) → ((j : ℕ) → j < t → field_ok f s p n j ≡ true) → drop p s ≡ fields_of f.base (width_at f s p) (value_of f s p) n t ++ drop (start_of f s p t) s
  unfolding fields_of start_of
  fields_off zero h = refl
  fields_off (suc t) h =
      let q = start_of f s p t in
      let k = digits_at f s q in
      let e : byte_at s (q + k) ≡ stop_of t n = field_ends f s p n t q k (q + k) refl refl refl (h t (omega arith)) in
      let F = fields_of f.base (width_at f s p) (value_of f s p) n t in
      let D = digits_of f.base k (value_of f s p t) in
      fields_off t (λ j y. h j (omega arith))
      ∙ ap (λ (l : List ℕ). F ++ l) (run_off f.base z h16 s q f.most (stop_of t n) e (stop_positive t n))
      ∙ sym (append_assoc F (D ++ (stop_of t n ∷ [])) (drop (q + k + 1) s) ∙ ap (λ (l : List ℕ). F ++ l) (append_assoc D (stop_of t n ∷ []) (drop (q + k + 1) s)))

  pub line_off : (q : ℕ) → line_at f s p n ≡ Some q → drop p s ≡ line_of f.base (width_at f s p) (value_of f s p) n ++ drop q s
  unfolding line_of line_at
  line_off q e =
      by_cases (ℕ_discrete n 0)
      (λ y.
      let e' : cond (eqb (byte_at s p) newline) (Some (p + 1)) None ≡ Some q = rw (eq-eqb n 0 y) at e in
      let h = cond_some (eqb (byte_at s p) newline) (p + 1) q e' in
      let b = eqb-true (byte_at s p) newline h.0 in
      let l : p < length s = in_text s p (rw b (omega arith)) in
      drop-cons s p 0 l ∙ rw (eq-eqb n 0 y, b, ← h.1, add-one p))
      (λ y.
      let e' : cond (all_to (field_ok f s p n) n) (Some (start_of f s p n)) None ≡ Some q = rw (ne_eqb n 0 y) at e in
      let h = (cond_some (all_to (field_ok f s p n) n) (start_of f s p n) q e').1 in
      let a = line_right f s p n q e in
      fields_off n (λ j l. all_true (field_ok f s p n) n a j l) ∙ rw (ne_eqb n 0 y, h))

-- ---- a number of the first line

plain_some : (first : ℕ) → plain first 0 ≡ true → ⊥
unfolding plain
plain_some first e = impossible e

plain_zero : (first k : ℕ) → plain first (suc k) ≡ true → first ≡ 48 → k ≡ 0
unfolding plain
plain_zero first k e h =
    let q : eqb (suc k) 1 ≡ true = rw (ne_eqb (suc k) 0 (λ y. omega arith), eq-eqb first 48 h) at e in
    let w = eqb-true (suc k) 1 q in omega arith

width_exact : (s : List ℕ) (p k : ℕ) → k ≤ 19 → plain (byte_at s p) k ≡ true → ((j : ℕ) → j < k → digit_of (byte_at s (p + j)) < 10) → width_of 10 (spelled 10 s p k) ≡ k
unfolding width_of
width_exact s p zero h e f = absurd (plain_some (byte_at s p) e)
width_exact s p (suc k) h e f =
    let d : digit_of (byte_at s p) < 10 = rw add-zero at (f 0 (omega arith)) in
    let u = spelled_lt 10 s p (suc k) f in
    by_cases (ℕ_discrete (byte_at s p) 48)
    (λ y. let w : k ≡ 0 = plain_zero (byte_at s p) k e y in
    let u' : spelled 10 s p (suc k) < 10 = lt_ten k w u in
    one_place 19 (spelled 10 s p (suc k)) u' ∙ ap suc (sym w))
    (λ y. places_exact 20 k (spelled 10 s p (suc k)) (spelled_low s p k (some_digit (byte_at s p) (omega arith) y)) u (omega arith))
  where
    lt_ten : {x : ℕ} (k : ℕ) → k ≡ 0 → x < 10 ^ suc k → x < 10
    lt_ten k w h = let q = rw w at h in omega arith

pub small_off : (s : List ℕ) (p bound c v q : ℕ) → 0 < c → small_at s p bound c ≡ small_number v q → drop p s ≡ numeral 10 v ++ (c ∷ drop q s)
small_off s p bound c v q h e =
    let k = run_of 10 s p 19 in
    let a = small_read_at s p bound c v q e in
    let w = width_exact s p k (run_le 10 s p 19) a.form (run_digits 10 s p 19) in
    run_off 10 (omega arith) (omega arith) s p 19 c a.ended h ∙ rw (← a.value, ← a.end, w)

-- ---- a whole text

module _ (b : ℕ) (x : ℕ → ℕ) (n : ℕ) (k k' : ℕ → ℕ) where
  fields_same : (t : ℕ) → ((j : ℕ) → j < t → k j ≡ k' j) → fields_of b k x n t ≡ fields_of b k' x n t
  unfolding fields_of
  fields_same zero h = refl
  fields_same (suc t) h = rw (fields_same t (λ j l. h j (omega arith)), h t (omega arith))

  line_same : ((j : ℕ) → j < n → k j ≡ k' j) → line_of b k x n ≡ line_of b k' x n
  unfolding line_of
  line_same h = ap (cond (eqb n 0) (newline ∷ [])) (fields_same n h)

-- each field of a line that is right has the digits of its form, and its number that many
module _ (f : Form) (s : List ℕ) (p n : ℕ) (h : all_to (field_ok f s p n) n ≡ true) (j : ℕ) (l : j < n) where
  pub field_least : f.least ≤ width_at f s p j
  unfolding field_ok
  field_least =
      let k = width_at f s p j in
      leb-true f.least k (both (leb f.least k) (eqb (byte_at s (start_of f s p j + k)) (stop_of j n)) (all_true (field_ok f s p n) n h j l)).0

  pub field_most : width_at f s p j ≤ f.most
  field_most = run_le f.base s (start_of f s p j) f.most

  pub field_fits : value_of f s p j < f.base ^ width_at f s p j
  field_fits = spelled_lt f.base s (start_of f s p j) (width_at f s p j) (run_digits f.base s (start_of f s p j) f.most)

-- every cell has 16 digits
cells_wide : (s : List ℕ) (p n : ℕ) → all_to (field_ok cell_form s p n) n ≡ true → (j : ℕ) → j < n → width_at cell_form s p j ≡ 16
cells_wide s p n h j l = omega (arith, field_least cell_form s p n h j l, field_most cell_form s p n h j l)

-- the text of what was read
abbrev pub text_of : List ℕ → ℕ → ℕ → ℕ → ℕ → ℕ → List ℕ
text_of s n r d p q = request_text n r d (value_of cell_form s p) (width_at draw_form s q) (value_of draw_form s q)

lists_sound : (s : List ℕ) (n r d p q e : ℕ) → line_at cell_form s p (n * n) ≡ Some q → line_at draw_form s q d ≡ Some e → e ≡ length s
    → drop p s ≡ line_of 16 (λ t. 16) (value_of cell_form s p) (n * n) ++ line_of 10 (width_at draw_form s q) (value_of draw_form s q) d
lists_sound s n r d p q e a b h =
    let z : drop e s ≡ [] = rw h (drop-length s) in
    line_off cell_form (omega arith) (omega arith) s p (n * n) q a
    ∙ rw (
      line_off draw_form (omega arith) (omega arith) s q d e b,
      z,
      append-nil,
      line_same 16 (value_of cell_form s p) (n * n) (width_at cell_form s p) (λ t. 16) (cells_wide s p (n * n) (line_right cell_form s p (n * n) q a)),
    )

abbrev head_text : ℕ → ℕ → ℕ → List ℕ → List ℕ
head_text n r d l = numeral 10 n ++ (space ∷ (numeral 10 r ++ (space ∷ (numeral 10 d ++ (newline ∷ l)))))

head_sound : (s : List ℕ) (n r d p : ℕ) → head_of s ≡ sizes n r d p → s ≡ head_text n r d (drop p s)
head_sound s n r d p e =
    let h = head_read s n r d p e in
    small_off s 0 12 space n h.second (omega arith) h.names
    ∙ ap (λ (l : List ℕ). numeral 10 n ++ (space ∷ l))
    (small_off s h.second (2 ^ 32 - 1) space r h.third (omega arith) h.repeats
    ∙ ap (λ (l : List ℕ). numeral 10 r ++ (space ∷ l)) (small_off s h.third 1024 newline d p (omega arith) h.draws))

pub sound : (s : List ℕ) (n r d p q : ℕ) → layout_of s ≡ layout_found n r d p q → s ≡ text_of s n r d p q
unfolding request_text
sound s n r d p q e =
    let l = steps s (record { names = n; repeats = r; draws = d; cells_at = p; draws_at = q }) e in
    head_sound s n r d p l.head
    ∙ ap (head_text n r d) (lists_sound s n r d p q l.end l.cells l.draws l.last)

-- and what was read keeps to the limits
below : (x k : ℕ) → x < 16 ^ k → k ≡ 16 → x < 2 ^ 64
below x k h e = let y : x < 16 ^ 16 = rw e at h in omega arith

pub sound_limits : (s : List ℕ) (n r d p q : ℕ) → layout_of s ≡ layout_found n r d p q
    → Limits n r d (value_of cell_form s p) (width_at draw_form s q) (value_of draw_form s q)
sound_limits s n r d p q e =
    let a = accepted s n r d p q e in
    record {
      names = a.sizes.names;
      repeats = a.sizes.repeats;
      count = a.sizes.draws;
      bits = λ t h. below (value_of cell_form s p t) (width_at cell_form s p t) (field_fits cell_form s p (n * n) a.cells t h) (cells_wide s p (n * n) a.cells t h);
      least = λ t h. field_least draw_form s q d a.draws t h;
      most = λ t h. field_most draw_form s q d a.draws t h;
      fits = λ t h. field_fits draw_form s q d a.draws t h;
    }
