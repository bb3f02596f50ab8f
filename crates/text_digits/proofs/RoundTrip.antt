-- Digits that are written are read back as the number, and digits that are read are written back. Assumes nothing.
use Prim.Native.Nat.{ℕ, zero, suc, ◌+◌, ◌-◌, ◌*◌, ◌/◌, ◌%◌, ◌^◌, ◌<◌, ◌≤◌}
use mathlib.Core.Path.{◌≡◌, refl, sym, ap, ◌∙◌}
use mathlib.Core.List.{List, [], ◌∷◌, ◌++◌, append_assoc}
use mathlib.Core.Logic.{by_cases, ⊎_elim}
use native.Mathlib.Numerals.{add-one}
use native.Mathlib.Nat.{add-zero, zero-add, add_comm, pow-suc, pow-zero, mod-lt, mod-eq_of_lt, div-lt_iff_lt-mul, div-add-mod', add-mul-div_right, add-mul-mod_self_right, eq-or-lt_of_le}
use native.Mathlib.Decide.{dec_lt}
use native.Mathlib.Omega.{arith}
use borrow.Author.Tests.{lt-ltb, le-ltb}
use lib.ListN.{length, get_or, take, drop, take-append-drop, length-drop, get_or-append}
use lib.Seq.{get_or-append-add, get_or_at, take-suc, drop-cons, get_or-drop, drop-drop}
use Rattle.text_digits.specs.Digits.{byte_at, digit_of, digit_byte, run_of, spelled, digits_of}
use Rattle.text_digits.proofs.Numerals.{length_digits}
use Rattle.text_digits.proofs.Scan.{in_text, run_digits}

-- a digit is written and read back
pub digit_byte_digit : (d : ℕ) → d < 16 → digit_of (digit_byte d) ≡ d
unfolding digit_of digit_byte
digit_byte_digit d h =
    by_cases (dec_lt d 10)
    (λ l. rw (lt-ltb d 10 l, le-ltb (48 + d) 48 (omega arith), lt-ltb (48 + d) 58 (omega arith)) (omega arith))
    (λ g. let u : 10 ≤ d = omega arith in
    rw (le-ltb d 10 u, le-ltb (87 + d) 48 (omega arith), le-ltb (87 + d) 58 (omega arith), le-ltb (87 + d) 97 (omega arith), lt-ltb (87 + d) 103 (omega arith)) (omega arith))

module _ (b : ℕ) (z : 0 < b) (h16 : b ≤ 16) where
  last_digit : (x : ℕ) → digit_of (digit_byte (x % b)) ≡ x % b
  last_digit x = digit_byte_digit (x % b) (omega (arith, mod-lt x z))

  -- each byte of a number is a digit
  pub digits_at_lem : (k x j : ℕ) → j < k → digit_of (get_or (digits_of b k x) j 0) < b
  unfolding digits_of
  digits_at_lem zero x j h = absurd (omega arith)
  digits_at_lem (suc k) x j h =
      ⊎_elim
      (λ q. rw (get_or_at (digits_of b k (x / b)) (digit_byte (x % b)) [] 0 j (length_digits b k (x / b) ∙ sym q), last_digit x) (mod-lt x z))
      (λ q. rw (get_or-append (digits_of b k (x / b)) (digit_byte (x % b) ∷ []) 0 j (rw (length_digits b k (x / b)) q)) (digits_at_lem k (x / b) j q))
      (eq-or-lt_of_le {n = j} {m = k} (omega arith))

  -- k digits of x, wherever they stand in a text, spell x
  pub spelled_back : (k x : ℕ) (A C : List ℕ) → x < b ^ k → spelled b (A ++ (digits_of b k x ++ C)) (length A) k ≡ x
  unfolding spelled digits_of
  spelled_back zero x A C h = let q : x < 1 = rw pow-zero at h in omega arith
  spelled_back (suc k) x A C h =
      let g = digit_byte (x % b) in
      let W = digits_of b k (x / b) in
      let s = A ++ (W ++ (g ∷ C)) in
      let e : A ++ ((W ++ (g ∷ [])) ++ C) ≡ s = ap (λ (l : List ℕ). A ++ l) (append_assoc W (g ∷ []) C) in
      let m : x < b ^ k * b = rw pow-suc at h in
      let i : spelled b s (length A) k ≡ x / b = spelled_back k (x / b) A (g ∷ C) ((div-lt_iff_lt-mul {k = b} {x = x} {y = b ^ k} z).1 m) in
      let j : byte_at s (length A + k) ≡ g = get_or-append-add A (W ++ (g ∷ C)) k 0 ∙ get_or_at W g C 0 k (length_digits b k (x / b)) in
      let v : spelled b s (length A) k * b + digit_of (byte_at s (length A + k)) ≡ x = rw (i, j, last_digit x) (div-add-mod' x b) in
      ap (λ (l : List ℕ). spelled b l (length A) k * b + digit_of (byte_at l (length A + k))) e ∙ v

-- a run of exactly k digits
pub run_exact : (b : ℕ) (s : List ℕ) (k p m : ℕ) → k ≤ m → ((j : ℕ) → j < k → digit_of (byte_at s (p + j)) < b) → (k < m → b ≤ digit_of (byte_at s (p + k))) → run_of b s p m ≡ k
unfolding run_of
run_exact b s zero p zero h f g = refl
run_exact b s zero p (suc m) h f g =
    let q : b ≤ digit_of (byte_at s p) = rw add-zero at (g (omega arith)) in
    rw (le-ltb (digit_of (byte_at s p)) b q)
run_exact b s (suc k) p zero h f g = absurd (omega arith)
run_exact b s (suc k) p (suc m) h f g =
    let q : digit_of (byte_at s p) < b = rw add-zero at (f 0 (omega arith)) in
    let t : (j : ℕ) → suc p + j ≡ p + suc j = λ j. omega arith in
    rw (lt-ltb (digit_of (byte_at s p)) b q)
    (ap suc (run_exact b s k (suc p) m (omega arith) (λ j l. rw (t j) (f (suc j) (omega arith))) (λ l. rw (t k) (g (omega arith)))))

-- a number of k digits at A's end, with a byte c behind it that is no digit
module _ (b : ℕ) (z : 0 < b) (h16 : b ≤ 16) (A : List ℕ) (k x c : ℕ) (B : List ℕ) (s : List ℕ) (e : s ≡ A ++ (digits_of b k x ++ (c ∷ B))) where
  pub byte_behind : byte_at s (length A + k) ≡ c
  byte_behind = rw e (get_or-append-add A (digits_of b k x ++ (c ∷ B)) k 0 ∙ get_or_at (digits_of b k x) c B 0 k (length_digits b k x))

  byte_inside : (j : ℕ) → j < k → byte_at s (length A + j) ≡ get_or (digits_of b k x) j 0
  byte_inside j h = rw e (get_or-append-add A (digits_of b k x ++ (c ∷ B)) j 0 ∙ get_or-append (digits_of b k x) (c ∷ B) 0 j (rw (length_digits b k x) h))

  pub run_back : (m : ℕ) → k ≤ m → b ≤ digit_of c → run_of b s (length A) m ≡ k
  run_back m h n = run_exact b s k (length A) m h (λ j l. rw (byte_inside j l) (digits_at_lem b z h16 k x j l)) (λ l. rw byte_behind n)

  pub number_back : x < b ^ k → spelled b s (length A) k ≡ x
  number_back h = rw e (spelled_back b z h16 k x A (c ∷ B) h)

  pub first_byte : 0 < k → byte_at s (length A) ≡ get_or (digits_of b k x) 0 0
  first_byte h = rw add-zero at (byte_inside 0 h)

-- a digit is read and written back
pub digit_digit_byte : (c : ℕ) → digit_of c < 16 → digit_byte (digit_of c) ≡ c
unfolding digit_of digit_byte
digit_digit_byte c h =
    by_cases (dec_lt c 48) (λ y. let q : 16 < 16 = rw (lt-ltb c 48 y) at h in absurd (omega arith))
    (λ a. by_cases (dec_lt c 58)
    (λ y. rw (le-ltb c 48 (omega arith), lt-ltb c 58 y, lt-ltb (c - 48) 10 (omega arith)) (omega arith))
    (λ b. by_cases (dec_lt c 97)
    (λ y. let q : 16 < 16 = rw (le-ltb c 48 (omega arith), le-ltb c 58 (omega arith), lt-ltb c 97 y) at h in absurd (omega arith))
    (λ d. by_cases (dec_lt c 103)
    (λ y. rw (le-ltb c 48 (omega arith), le-ltb c 58 (omega arith), le-ltb c 97 (omega arith), lt-ltb c 103 y, le-ltb (c - 87) 10 (omega arith)) (omega arith))
    (λ e. let q : 16 < 16 = rw (le-ltb c 48 (omega arith), le-ltb c 58 (omega arith), le-ltb c 97 (omega arith), le-ltb c 103 (omega arith)) at h in absurd (omega arith)))))

module _ (b : ℕ) (z : 0 < b) (h16 : b ≤ 16) (s : List ℕ) (p : ℕ) where
  -- k digits are the digits of the number that they spell
  digits_back : (k : ℕ) → ((j : ℕ) → j < k → digit_of (byte_at s (p + j)) < b) → p + k ≤ length s → take k (drop p s) ≡ digits_of b k (spelled b s p k)
  unfolding digits_of spelled
  digits_back zero f h = refl
  digits_back (suc k) f h =
      let c = byte_at s (p + k) in
      let g : digit_of c < b = f k (omega arith) in
      let v = spelled b s p k in
      let e : (v * b + digit_of c) / b ≡ v = rw (add_comm (v * b) (digit_of c), add-mul-div_right (digit_of c) v z) (rw (small_div (digit_of c) g) (zero-add v)) in
      let m : (v * b + digit_of c) % b ≡ digit_of c = rw (add_comm (v * b) (digit_of c), add-mul-mod_self_right (digit_of c) v b) (mod-eq_of_lt g) in
      let l : k < length (drop p s) = rw (length-drop p s) (omega arith) in
      take-suc (drop p s) k 0 l
      ∙ rw (e, m, get_or-drop p s k 0, digit_digit_byte c (omega arith), digits_back k (λ j y. f j (omega arith)) (omega arith))
    where
      small_div : (d : ℕ) → d < b → d / b ≡ 0
      small_div d h = let q : d / b < 1 = (div-lt_iff_lt-mul {k = b} {x = d} {y = 1} z).1 (omega arith) in omega arith

  -- a run and the byte c behind it, taken off a text
  pub run_off : (m c : ℕ) → byte_at s (p + run_of b s p m) ≡ c → 0 < c
      → drop p s ≡ digits_of b (run_of b s p m) (spelled b s p (run_of b s p m)) ++ (c ∷ drop (p + run_of b s p m + 1) s)
  run_off m c e h =
      let k = run_of b s p m in
      let l : p + k < length s = in_text s (p + k) (rw e h) in
      sym (take-append-drop k (drop p s))
      ∙ rw (digits_back k (run_digits b s p m) (omega arith), drop-drop k p s, drop-cons s (p + k) 0 l, e, add-one (p + k))
