-- The cases of a file of recorded texts. Assumes nothing.
use Prim.Native.Nat.{ℕ, zero, suc, ◌+◌, ◌-◌, ◌≤◌}
use mathlib.Core.Path.{◌≡◌, refl, sym, ◌∙◌, ap}
use mathlib.Core.Bool.{Bool, true, false, ◌&&◌}
use mathlib.Core.List.{List, [], ◌∷◌}
use Rattle.std.proofs.Math.Dec.{eqb-suc-suc, eqb-suc-zero, eqb-zero-suc}
use native.Mathlib.Omega.{arith}
use lib.Dec.{eqb}
use lib.ListN.{length, take}
use lib.Pointwise.{pointwise}
use Rattle.lists.specs.Lists.{numbers, part}
use Rattle.lists.specs.Sums.{all_to}
use Rattle.lists.proofs.Parts.{tail_is}
use Rattle.test_words.specs.Words.{size_from}
use Rattle.text_written.specs.Answers.{Written, refusal_of, bytes_of}
use Rattle.text_answer.specs.Answer.{room, refusal_fits, Writing, written_of}
use Rattle.text_answer.proofs.Front.{in_front, refusal_fits_lem}
use Rattle.text_program.specs.Program.{program_of}
use Rattle.test_texts.specs.declared.Case.{Case}
use Rattle.test_texts.specs.Texts.{first_of, text_length, answer_length, case_at, same_bytes, right_text, right_case}

-- a case, by where its text starts and the two lengths that were read
pub case_is : (s : List ℕ) (at : ℕ) {first text answer : ℕ} → at ≤ length s → first ≡ first_of s at
    → text ≡ size_from (part at (length s - at) s) 0 0 (length s - first)
    → answer ≡ size_from (part at (length s - at) s) 0 1 (length s - first - text) → ◌≡◌ {A = Case} (record { first = first; text = text; answer = answer }) (case_at s at)
unfolding case_at text_length answer_length
case_is s at {first} {text} {answer} h f t a = rw (a, t, f, tail_is at s h)

-- ---- two texts

and_true : (a : Bool) → a ≡ a && true
and_true true = refl
and_true false = refl

and_later : (a b c : Bool) → (a && b) && c ≡ a && (b && c)
and_later true b c = refl
and_later false b c = refl

and_first : (a b c : Bool) → a && (b && c) ≡ b && (a && c)
and_first true true c = refl
and_first true false c = refl
and_first false true c = refl
and_first false false c = refl

-- a test at each place, the first place by itself
all_first : (p : ℕ → Bool) (n : ℕ) → all_to p (suc n) ≡ p 0 && all_to (λ i. p (suc i)) n
unfolding all_to
all_first p zero = and_true (p 0)
all_first p (suc n) = ap (λ (b : Bool). b && p (suc n)) (all_first p n) ∙ and_later (p 0) (all_to (λ i. p (suc i)) n) (p (suc n))

-- the library's test of two texts
pub same_is : (a b : List ℕ) → pointwise eqb a b ≡ same_bytes a b
unfolding same_bytes all_to
same_is [] [] = refl
same_is [] (y ∷ ys) = rw (eqb-zero-suc (length ys))
same_is (x ∷ xs) [] = rw (eqb-suc-zero (length xs))
same_is (x ∷ xs) (y ∷ ys) =
    ap (λ (b : Bool). eqb x y && b) (same_is xs ys)
    ∙ and_first (eqb x y) (eqb (length xs) (length ys)) (all_to (λ i. eqb (numbers xs i) (numbers ys i)) (length xs))
    ∙ ap (λ (b : Bool). b && (eqb x y && all_to (λ i. eqb (numbers xs i) (numbers ys i)) (length xs))) (sym (eqb-suc-suc (length xs) (length ys)))
    ∙ ap (λ (b : Bool). eqb (suc (length xs)) (suc (length ys)) && b) (sym (all_first (λ i. eqb (numbers (x ∷ xs) i) (numbers (y ∷ ys) i)) (length xs)))

-- ---- what is printed

-- what is printed for a text stands in front of a list with room for it
pub record Printed (n : ℕ) (out text : List ℕ) : Type 0 where
  pub within : n ≤ length out
  pub front : take n out ≡ program_of text

pub printed : (text old new : List ℕ) (w : Written) {n : ℕ} → room ≤ length old
    → ◌≡◌ {A = Writing} (record { refused = refusal_of w; count = bytes_of w; out = new }) (written_of (refusal_fits old) (program_of text) old) → n ≡ bytes_of w → Printed n new text
printed text old new w h e k =
    let i = in_front (refusal_of w) (bytes_of w) new (refusal_fits old) (program_of text) old e (refusal_fits_lem old h) in
    record { within = rw k i.within; front = rw k i.front }

pub right_text_lem : (text answer : List ℕ) {n : ℕ} {out : List ℕ} {r : Bool} → Printed n out text → r ≡ same_bytes (take n out) answer → r ≡ right_text text answer
unfolding right_text
right_text_lem text answer p e = e ∙ ap (λ (l : List ℕ). same_bytes l answer) p.front

-- the two parts of a case, by where they start and end
pub right_parts : (s : List ℕ) (c : Case) {r : Bool}
    → r ≡ right_text (part c.first (c.first + c.text - c.first) s) (part (c.first + c.text) (c.first + c.text + c.answer - (c.first + c.text)) s) → r ≡ right_case s c
unfolding right_case
right_parts s c e =
    let i : c.first + c.text - c.first ≡ c.text = omega arith in
    let j : c.first + c.text + c.answer - (c.first + c.text) ≡ c.answer = omega arith in
    rw (i, j) at e
