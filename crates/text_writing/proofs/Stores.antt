-- Bytes that are stored one after another: words, digits, numbers.
use Prim.Native.Nat.{ℕ, zero, suc, ◌+◌, ◌-◌, ◌/◌, ◌%◌, ◌<◌, ◌≤◌}
use mathlib.Core.Path.{◌≡◌, refl, sym, ap, ◌∙◌}
use mathlib.Core.List.{List, [], ◌∷◌, ◌++◌, append_assoc}
use native.Mathlib.Numerals.{sub-one}
use native.Mathlib.Nat.{add-zero, add-suc, suc-add, ne_of_lt}
use native.Mathlib.Omega.{arith}
use lib.ListN.{length, set, take, drop, length-append}
use Rattle.std.proofs.lemmas.List.Edits.{paste_all}
use lib.Seq.{paste, sets, sets-eq, set_comm, length-sets}
use Rattle.text_digits.specs.Digits.{digit_byte, digits_of, width_of, numeral}
use Rattle.text_digits.proofs.Numerals.{length_digits}
use Rattle.text_writing.specs.Stores.{Wrote}

-- two texts stored one behind the other are one text
pub sets_append : (l : List ℕ) (p : ℕ) (w v : List ℕ) → sets (sets l p w) (p + length w) v ≡ sets l p (w ++ v)
sets_append l p [] v = rw add-zero
sets_append l p (a ∷ w) v = rw (add-suc, ← suc-add) (sets_append (set l p a) (suc p) w v)

-- the last byte of a text can be stored first
pub sets_last : (l : List ℕ) (p : ℕ) (w : List ℕ) (c : ℕ) → sets l p (w ++ (c ∷ [])) ≡ sets (set l (p + length w) c) p w
sets_last l p [] c = rw add-zero
sets_last l p (a ∷ w) c =
    sets_last (set l p a) (suc p) w c
    ∙ ap (λ (x : List ℕ). sets x (suc p) w)
    (ap (λ (k : ℕ). set (set l p a) k c) (suc-add p (length w) ∙ sym (add-suc p (length w))) ∙ set_comm l p (p + suc (length w)) a c (ne_of_lt (omega arith)))

-- one text behind another
pub then : {d d₁ d₂ w v : List ℕ} {p q r : ℕ} → Wrote d d₁ p w q → Wrote d₁ d₂ q v r → Wrote d d₂ p (w ++ v) r
then {d} {d₁} {d₂} {w} {v} {p} {q} {r} a b =
    record {
      stored = b.stored ∙ rw (a.stored, a.end) (sets_append d p w v);
      end = b.end ∙ rw (a.end, length-append w v) (omega arith);
    }

-- no byte at all
pub nothing : (d : List ℕ) (p : ℕ) → Wrote d d p [] p
nothing d p = record { stored = refl; end = sym (add-zero p) }

-- a store keeps the length of the list
pub wrote_length : {d d' w : List ℕ} {p r : ℕ} → Wrote d d' p w r → length d' ≡ length d
wrote_length {d} {d'} {w} {p} {r} h = ap length h.stored ∙ length-sets d p w

-- the same text in another form
pub wrote_as : {d d' w : List ℕ} {p r : ℕ} (v : List ℕ) → Wrote d d' p w r → w ≡ v → Wrote d d' p v r
wrote_as v h e = rw (← e) h

-- a word that is copied is stored
pub pasted : (p : ℕ) (l w : List ℕ) → p + length w ≤ length l → paste l p w (length w) ≡ sets l p w
pasted p l w h =
    paste_all l p w (length w) refl
    ∙ sym (append_assoc (take p l) w (drop (p + length w) l))
    ∙ sym (sets-eq w l p h)

-- the loop that stores digits from the last one on: one is stored, the rest is to do
pub digit_stored : (b i rest p : ℕ) (l : List ℕ) {g : ℕ} → 0 < i → g ≡ digit_byte (rest % b)
    → sets l p (digits_of b i rest) ≡ sets (set l (p + (i - 1)) g) p (digits_of b (i - 1) (rest / b))
unfolding digits_of
digit_stored b zero rest p l h e = absurd (omega arith)
digit_stored b (suc i) rest p l h e =
    rw (sub-one, e) (sets_last l p (digits_of b i (rest / b)) (digit_byte (rest % b)) ∙ rw (length_digits b i (rest / b)))

pub no_digits : (b x p : ℕ) (l : List ℕ) → sets l p (digits_of b 0 x) ≡ l
unfolding digits_of
no_digits b x p l = refl

-- a number is its digits, as many as it is written with
pub number_wrote : (d d' : List ℕ) (p b x k : ℕ) → k ≡ width_of b x → d' ≡ sets d p (digits_of b k x) → Wrote d d' p (numeral b x) (p + k)
number_wrote d d' p b x k e h = record { stored = rw (← e) h; end = rw (length_digits b (width_of b x) x, e) }
