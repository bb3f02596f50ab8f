-- Lines of numbers, and the loop that writes one.
use Prim.Native.Nat.{ℕ, zero, suc, ◌+◌, ◌*◌, ◌<◌, ◌≤◌}
use mathlib.Core.Path.{◌≡◌, refl, ap, ◌∙◌}
use mathlib.Core.List.{List, [], ◌∷◌, ◌++◌, map}
use native.Mathlib.Omega.{arith}
use lib.Ieee.{Float, nan}
use lib.ListN.{length, get_or, length-append}
use Rattle.bits.specs.Bits.{bits_of}
use Rattle.text_digits.specs.Digits.{numeral, stop_of, width_of}
use Rattle.text_digits.specs.Lines.{fields_of}
use Rattle.text_digits.proofs.Numerals.{length_numeral, width_le}
use Rattle.text_digits.proofs.Lines.{fields-more, fields_none, length_line, line_none, line_some}
use Rattle.text_writing.specs.Stores.{Wrote}
use Rattle.text_answer.specs.Answer.{line_text}
use Rattle.text_writing.proofs.Stores.{then, nothing, wrote_as, wrote_length}

-- the first t numbers of xs, each with the byte that ends it in a line of n
abbrev pub fields_text : ℕ → List ℕ → ℕ → ℕ → List ℕ
fields_text b xs = fields_of b (λ t. width_of b (get_or xs t 0)) (λ t. get_or xs t 0)

-- the line of no number, and the line when its last number is written
pub line_empty : (b : ℕ) (xs : List ℕ) → length xs ≡ 0 → 10 ∷ [] ≡ line_text b xs
unfolding line_text
line_empty b xs h = line_none b (λ t. width_of b (get_or xs t 0)) (λ t. get_or xs t 0) (length xs) h

line_full : (b : ℕ) (xs : List ℕ) → (length xs ≡ 0 → ⊥) → fields_text b xs (length xs) (length xs) ≡ line_text b xs
unfolding line_text
line_full b xs h = line_some b (λ t. width_of b (get_or xs t 0)) (λ t. get_or xs t 0) (length xs) h

-- a number and the byte behind it are at most 21 bytes
pub length_text : (b : ℕ) (xs : List ℕ) → length (line_text b xs) ≤ 21 * length xs + 1
unfolding line_text
length_text b xs = omega (arith, length_line b (λ t. width_of b (get_or xs t 0)) (λ t. get_or xs t 0) (length xs) 20 (λ j h. width_le b (get_or xs j 0)))

-- the number of a score
pub score_at_lem : (xs : List Float) (t : ℕ) → t < length xs → get_or (map bits_of xs) t 0 ≡ bits_of (get_or xs t nan)
score_at_lem [] t h = absurd (omega arith)
score_at_lem (x ∷ xs) zero h = refl
score_at_lem (x ∷ xs) (suc t) h = score_at_lem xs t (omega arith)

-- t of the n numbers of xs are written from place a on, up to place p
pub record Line (b : ℕ) (xs d d₁ : List ℕ) (a n t p : ℕ) : Type 0 where
  pub count : n ≡ length xs
  pub upto : t ≤ n
  pub same : length d₁ ≡ length d
  pub near : p ≤ a + 21 * t
  pub text : Wrote d d₁ a (fields_text b xs n t) p

-- nothing is written yet
pub line_starts : (b : ℕ) (xs d : List ℕ) (a n : ℕ) → n ≡ length xs → Line b xs d d a n 0 a
line_starts b xs d a n e =
    record { count = e; upto = omega arith; same = refl; near = omega arith; text = wrote_as _ (nothing d a) (fields_none b (λ t. width_of b (get_or xs t 0)) (λ t. get_or xs t 0) n) }

length_entry : (b x s : ℕ) → length (numeral b x ++ (s ∷ [])) ≤ 21
length_entry b x s = rw (length-append (numeral b x) (s ∷ [])) (omega (arith, length_numeral b x))

-- one number more
pub line_more : {b a n t p q x : ℕ} {xs d d₁ d₂ : List ℕ} → Line b xs d d₁ a n t p → t < n → x ≡ get_or xs t 0
    → Wrote d₁ d₂ p (numeral b x ++ (stop_of t n ∷ [])) q → Line b xs d d₂ a n (t + 1) q
line_more {b} {a} {n} {t} {p} {q} {x} {xs} {d} {d₁} {d₂} h l e w =
    let i = h.near in
    let j = length_entry b x (stop_of t n) in
    let k = w.end in
    record {
      count = h.count;
      upto = omega arith;
      same = wrote_length w ∙ h.same;
      near = omega arith;
      text = wrote_as _ (then h.text w) (ap (λ (y : ℕ). fields_text b xs n t ++ (numeral b y ++ (stop_of t n ∷ []))) e ∙ fields-more b (λ t. width_of b (get_or xs t 0)) (λ t. get_or xs t 0) n t);
    }

-- there is room for the next number
pub line_room : {b a n t p : ℕ} {xs d d₁ : List ℕ} → Line b xs d d₁ a n t p → t < n → a + 21 * n + 1 ≤ length d → p + 21 ≤ length d₁
line_room {b} {a} {n} {t} {p} {xs} {d} {d₁} h l r =
    let i = h.near in
    let j = h.same in
    omega arith

-- the last number is written
pub line_ends : {b a n t p : ℕ} {xs d d₁ : List ℕ} → Line b xs d d₁ a n t p → n ≤ t → (n ≡ 0 → ⊥) → Wrote d d₁ a (line_text b xs) p
line_ends {b} {a} {n} {t} {p} {xs} {d} {d₁} h l z =
    let e = h.count in
    let u = h.upto in
    let i : t ≡ length xs = omega arith in
    wrote_as _ h.text (rw (e, i) (line_full b xs (λ y. z (e ∙ y))))
