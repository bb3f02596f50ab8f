-- Every text of the layout is read, and as what it says: `request_text` of names, repeats, cells and draws within the limits. Assumes nothing.
use Prim.Native.Nat.{◌*◌, ◌+◌, ◌-◌, ◌<◌, ◌^◌, ◌≤◌, suc, zero, ℕ}
use mathlib.Core.Path.{◌∙◌, ◌≡◌, ap, refl, sym}
use mathlib.Core.Bool.{true}
use mathlib.Core.List.{List, [], ◌++◌, ◌∷◌, append_assoc, append-nil}
use mathlib.Core.Logic.{by_cases, ⊎_elim}
use native.Mathlib.Numerals.{add-one}
use native.Mathlib.Nat.{add-zero, eq-or-lt_of_le}
use native.Mathlib.Decide.{dec_lt, ℕ_discrete}
use native.Mathlib.Omega.{arith}
use borrow.Author.Tests.{eq-eqb, ne_eqb}
use Rattle.std.specs.Prelude.{Some}
use lib.ListN.{get_or, length, length-append}
use lib.Seq.{get_or-append_seam}
use lib.Ieee.{Float}
use Rattle.text_digits.specs.Digits.{byte_at, digit_of, digits_of, newline, numeral, places_to, run_of, space, spelled, stop_of}
use Rattle.text_digits.specs.Lines.{fields_of, line_of}
use Rattle.lists.specs.Sums.{all_to}
use Rattle.lists.proofs.Sums.{all_more}
use Rattle.text_digits.proofs.Numerals.{length_digits}
use Rattle.text_digits.proofs.Lines.{length_more}
use Rattle.text_digits.proofs.RoundTrip.{byte_behind, first_byte, number_back, run_back}
use Rattle.text_digits.proofs.Places.{first_some, one_place, places_hold, places_short, places_some, width_ten}
use Rattle.text_digits.proofs.Scan.{newline_no_digit, space_no_digit, stop_no_digit}
use Rattle.text_layout.specs.Layout.{cell_form, draw_form, field_ok, layout_found, head_of, layout_of, line_at, lists_of, small_number, plain, sizes, small_at, start_of, value_of}
use Rattle.text_request.specs.Request.{read_as, request_of}
use Rattle.text_request.specs.Written.{request_text}
use Rattle.text_layout.specs.declared.Form.{Form}
use Rattle.text_request.specs.Claim.{Limits}
use Rattle.text_layout.proofs.Fields.{field_right, line_empty, line_ends, small_read, start_more, value-is}
use Rattle.text_request.proofs.Gives.{as_same, found_gives}

-- ---- a line

-- the numbers x and the widths k keep to the form
pub record Keeps (f : Form) (k x : ℕ → ℕ) (t : ℕ) : Type 0 where
  pub least : f.least ≤ k t
  pub most : k t ≤ f.most
  pub fits : x t < f.base ^ k t

-- what reading the first t fields at the end of A finds
record FieldsRead (f : Form) (k x : ℕ → ℕ) (n : ℕ) (A s : List ℕ) (t : ℕ) : Type 0 where
  start : start_of f s (length A) t ≡ length A + length (fields_of f.base k x n t)
  right : all_to (field_ok f s (length A) n) t ≡ true
  value : (j : ℕ) → j < t → value_of f s (length A) j ≡ x j

module _ (f : Form) (z : 0 < f.base) (h16 : f.base ≤ 16) (k x : ℕ → ℕ) (n : ℕ) (keeps : (t : ℕ) → t < n → Keeps f k x t) (A s : List ℕ) where
  field_more : (t : ℕ) → t < n → (B : List ℕ) → s ≡ A ++ (fields_of f.base k x n t ++ (digits_of f.base (k t) (x t) ++ (stop_of t n ∷ B)))
      → FieldsRead f k x n A s t → FieldsRead f k x n A s (t + 1)
  field_more t l B e r =
      let F = fields_of f.base k x n t in
      let D = digits_of f.base (k t) (x t) in
      let c = stop_of t n in
      let e' : s ≡ (A ++ F) ++ (D ++ (c ∷ B)) = e ∙ sym (append_assoc A F (D ++ (c ∷ B))) in
      let q : length (A ++ F) ≡ start_of f s (length A) t = length-append A F ∙ sym r.start in
      let u : f.base ≤ digit_of c = rw (stop_no_digit t n) h16 in
      let a : k t ≡ run_of f.base s (length (A ++ F)) f.most = sym (run_back f.base z h16 (A ++ F) (k t) (x t) c B s e' f.most (keeps t l).most u) in
      let v = number_back f.base z h16 (A ++ F) (k t) (x t) c B s e' (keeps t l).fits in
      let w = byte_behind f.base z h16 (A ++ F) (k t) (x t) c B s e' in
      record {
        start =
            sym (start_more f s (length A) n t (length (A ++ F)) (k t) (length (A ++ F) + k t) q a refl)
            ∙ rw (add-one t, length_more f.base k x n t, length-append A F) (omega arith);
        right = all_more (field_ok f s (length A) n) t r.right (field_right f s (length A) n t (length (A ++ F)) (k t) (length (A ++ F) + k t) q a refl (keeps t l).least w);
        value = λ j h. ⊎_elim
            (λ y. rw y (sym (value-is f s (length A) n t (length (A ++ F)) (k t) (length (A ++ F) + k t) q a refl (x t) (sym v))))
            (λ y. r.value j y)
            (eq-or-lt_of_le {n = j} {m = t} (omega arith));
      }

  fields_read : (t : ℕ) → t ≤ n → (B : List ℕ) → s ≡ A ++ (fields_of f.base k x n t ++ B) → FieldsRead f k x n A s t
  unfolding fields_of start_of all_to
  fields_read zero h B e = record { start = sym (add-zero (length A)); right = refl; value = λ j l. absurd (omega arith) }
  fields_read (suc t) h B e =
      let F = fields_of f.base k x n t in
      let D = digits_of f.base (k t) (x t) in
      let c = stop_of t n in
      let e' : s ≡ A ++ (F ++ (D ++ (c ∷ B))) = e ∙ ap (λ (l : List ℕ). A ++ l) (append_assoc F (D ++ (c ∷ [])) B ∙ ap (λ (l : List ℕ). F ++ l) (append_assoc D (c ∷ []) B)) in
      rw add-one at (field_more t (omega arith) B e' (fields_read t (omega arith) (D ++ (c ∷ B)) e'))

  -- a line that is written is read
  pub line_back : (B : List ℕ) → s ≡ A ++ (line_of f.base k x n ++ B)
      → (line_at f s (length A) n ≡ Some (length A + length (line_of f.base k x n))) × ((j : ℕ) → j < n → value_of f s (length A) j ≡ x j)
  unfolding line_of
  line_back B e =
      by_cases (ℕ_discrete n 0)
      (λ y.
      let e' : s ≡ A ++ (10 ∷ B) = rw (eq-eqb n 0 y) at e in
      let b : byte_at s (length A) ≡ 10 = rw e' (get_or-append_seam A 10 B 0) in
      let l = line_empty f s (length A) n y in
      (sym l ∙ rw (eq-eqb (byte_at s (length A)) 10 b, eq-eqb n 0 y), λ j h. absurd (omega arith)))
      (λ y.
      let e' : s ≡ A ++ (fields_of f.base k x n n ++ B) = rw (ne_eqb n 0 y) at e in
      let r = fields_read n (omega arith) B e' in
      (sym (line_ends f s (length A) n n (length A + length (fields_of f.base k x n n)) y refl (sym r.start) r.right) ∙ rw (ne_eqb n 0 y), r.value))

-- ---- a number of the first line

plain_one : (first : ℕ) → plain first 1 ≡ true
unfolding plain
plain_one first = by_cases (ℕ_discrete first 48) (λ y. rw (eq-eqb first 48 y)) (λ x. rw (ne_eqb first 48 x))

plain_many : (first k : ℕ) → 0 < k → (first ≡ 48 → ⊥) → plain first k ≡ true
unfolding plain
plain_many first k h x = rw (ne_eqb k 0 (λ e. omega arith), ne_eqb first 48 x)

plain_numeral : (v : ℕ) → v < 10 ^ 20 → plain (get_or (digits_of 10 (places_to 20 v) v) 0 0) (places_to 20 v) ≡ true
plain_numeral v h =
    by_cases (dec_lt v 10)
    (λ y. ap (plain (get_or (digits_of 10 (places_to 20 v) v) 0 0)) (one_place 19 v y) ∙ plain_one (get_or (digits_of 10 (places_to 20 v) v) 0 0))
    (λ g. plain_many (get_or (digits_of 10 (places_to 20 v) v) 0 0) (places_to 20 v) (places_some 19 v) (first_some 20 v (omega arith) h))

-- a number that is written is read
pub small_back : (s A B : List ℕ) (v bound c q : ℕ) → s ≡ A ++ (numeral 10 v ++ (c ∷ B)) → v ≤ bound → bound < 10 ^ 19 → 10 ≤ digit_of c → q ≡ length A + length (numeral 10 v) + 1
    → small_at s (length A) bound c ≡ small_number v q
small_back s A B v bound c q e h l n w =
    let k = places_to 20 v in
    let e' : s ≡ A ++ (digits_of 10 k v ++ (c ∷ B)) = rw width_ten at e in
    let w' : q ≡ length A + k + 1 = w ∙ rw (width_ten, length_digits 10 k v) in
    let big : v < 10 ^ 20 = omega arith in
    let a : k ≡ run_of 10 s (length A) 19 = sym (run_back 10 (omega arith) (omega arith) A k v c B s e' 19 (places_short 20 18 v (omega arith) (omega arith)) n) in
    let x : v ≡ spelled 10 s (length A) k = sym (number_back 10 (omega arith) (omega arith) A k v c B s e' (places_hold 20 v big)) in
    let f : byte_at s (length A) ≡ get_or (digits_of 10 k v) 0 0 = first_byte 10 (omega arith) (omega arith) A k v c B s e' (places_some 19 v) in
    sym (small_read s (length A) bound c v k (length A + k) x a refl (rw f (plain_numeral v big)) h (byte_behind 10 (omega arith) (omega arith) A k v c B s e')) ∙ ap (small_number v) (sym w')

-- ---- a whole text

after_byte : (a b : List ℕ) (c : ℕ) → a ++ (c ∷ b) ≡ (a ++ (c ∷ [])) ++ b
after_byte a b c = sym (append_assoc a (c ∷ []) b)

after_field : (a n x : List ℕ) (c : ℕ) → a ++ (n ++ (c ∷ x)) ≡ (a ++ (n ++ (c ∷ []))) ++ x
after_field a n x c = ap (λ (l : List ℕ). a ++ l) (after_byte n x c) ∙ sym (append_assoc a (n ++ (c ∷ [])) x)

length_after : (a n : List ℕ) (c : ℕ) → length (a ++ (n ++ (c ∷ []))) ≡ length a + length n + 1
length_after a n c = length-append a (n ++ (c ∷ [])) ∙ rw (length-append n (c ∷ [])) (omega arith)

module _ (n r d : ℕ) (cell width draw : ℕ → ℕ) (limits : Limits n r d cell width draw) where
  pub complete : (cells : List Float) (draws : List ℕ) → request_of (request_text n r d cell width draw) cells draws ≡ read_as n r d cell draw cells draws
  unfolding request_text head_of layout_of lists_of
  complete cells draws =
      let s = request_text n r d cell width draw in
      let N = numeral 10 n in
      let P = numeral 10 r in
      let Q = numeral 10 d in
      let K = line_of 16 (λ t. 16) cell (n * n) in
      let L = line_of 10 width draw d in
      let A = N ++ (space ∷ []) in
      let B = A ++ (P ++ (space ∷ [])) in
      let C = B ++ (Q ++ (newline ∷ [])) in
      let D = C ++ K in
      let s₁ : s ≡ [] ++ (N ++ (space ∷ (P ++ (space ∷ (Q ++ (newline ∷ (K ++ L))))))) = refl in
      let s₂ : s ≡ A ++ (P ++ (space ∷ (Q ++ (newline ∷ (K ++ L))))) = after_byte N (P ++ (space ∷ (Q ++ (newline ∷ (K ++ L))))) space in
      let s₃ : s ≡ B ++ (Q ++ (newline ∷ (K ++ L))) = s₂ ∙ after_field A P (Q ++ (newline ∷ (K ++ L))) space in
      let s₄ : s ≡ C ++ (K ++ L) = s₃ ∙ after_field B Q (K ++ L) newline in
      let s₅ : s ≡ D ++ (L ++ []) = s₄ ∙ sym (append_assoc C K L) ∙ ap (λ (l : List ℕ). D ++ l) (sym (append-nil L)) in
      let no : 10 ≤ digit_of 32 = rw space_no_digit (omega arith) in
      let nl : 10 ≤ digit_of 10 = rw newline_no_digit (omega arith) in
      let repeats : r ≤ 2 ^ 32 - 1 = omega (arith, limits.repeats) in
      let a : small_at s 0 12 space ≡ small_number n (length A) =
      small_back s [] (P ++ (space ∷ (Q ++ (newline ∷ (K ++ L))))) n 12 space (length A) s₁ limits.names (omega arith) no (length_after [] N space) in
      let b : small_at s (length A) (2 ^ 32 - 1) space ≡ small_number r (length B) =
      small_back s A (Q ++ (newline ∷ (K ++ L))) r (2 ^ 32 - 1) space (length B) s₂ repeats (omega arith) no (length_after A P space) in
      let c : small_at s (length B) 1024 newline ≡ small_number d (length C) =
      small_back s B (K ++ L) d 1024 newline (length C) s₃ limits.count (omega arith) nl (length_after B Q newline) in
      let k = line_back cell_form (omega arith) (omega arith) (λ t. 16) cell (n * n) (λ t h. record { least = omega arith; most = omega arith; fits = limits.bits t h }) C s L s₄ in
      let l = line_back draw_form (omega arith) (omega arith) width draw d (λ t h. record { least = limits.least t h; most = limits.most t h; fits = limits.fits t h }) D s [] s₅ in
      let i : line_at cell_form s (length C) (n * n) ≡ Some (length D) = k.0 ∙ ap Some (sym (length-append C K)) in
      let end : length D + length L ≡ length s = sym (ap length (s₅ ∙ ap (λ (m : List ℕ). D ++ m) (append-nil L)) ∙ length-append D L) in
      let h : head_of s ≡ sizes n r d (length C) = rw (a, b, c) in
      let e : layout_of s ≡ layout_found n r d (length C) (length D) = rw (h, i, l.0, eq-eqb (length D + length L) (length s) end) in
      found_gives s cells draws n r d (length C) (length D) e
      ∙ as_same n r d (value_of cell_form s (length C)) cell (value_of draw_form s (length D)) draw k.1 l.1 cells draws
