-- Lists of the values f k at the places k below n that pass a test, by rising place: members, groups and picked groups are such.
use Prim.Native.Nat.{ℕ, zero, suc, ◌+◌, ◌<◌, ◌≤◌}
use mathlib.Core.Path.{◌≡◌, refl, sym, ◌∙◌, ap}
use mathlib.Core.Bool.{Bool, true, false, cond}
use mathlib.Core.List.{List, [], ◌∷◌, ◌++◌}
use mathlib.Core.Logic.{⊎_elim}
use native.Mathlib.Omega.{arith}
use native.Mathlib.Nat.{eq-or-lt_of_le}
use lib.ListN.{length, get_or, length-append, get_or-append}
use lib.Seq.{get_or_at}
use Rattle.lists.specs.Sums.{fold_if, count_if}
use Rattle.lists.proofs.Sums.{count-le, fold_in}

cond_more : (b : Bool) (n : ℕ) → n ≤ cond b (n + 1) n
cond_more true n = omega arith
cond_more false n = omega arith

count_next : (p : ℕ → Bool) (n : ℕ) → count_if p n ≤ count_if p (suc n)
unfolding fold_if
count_next p n = cond_more (p n) (count_if p n)

-- further places take none away
pub count_more : (p : ℕ → Bool) (i n : ℕ) → i ≤ n → count_if p i ≤ count_if p n
count_more p i zero h = let z : i ≡ 0 = omega arith in rw z (omega arith)
count_more p i (suc n) h =
    ⊎_elim (λ q. rw q (omega arith)) (λ q. let r : i ≤ n = omega arith in omega (arith, count_more p i n r, count_next p n)) (eq-or-lt_of_le {n = i} {m = suc n} h)

module _ {A : Type 0} where
  -- f k for each k below n with p k
  abbrev pub collect : (ℕ → Bool) → (ℕ → A) → ℕ → List A
  collect p f n = fold_if p (λ out k. out ++ (f k ∷ [])) [] n

  length-cond : (b : Bool) (xs : List A) (x : A) (n : ℕ) → length xs ≡ n → length (cond b (xs ++ (x ∷ [])) xs) ≡ cond b (n + 1) n
  length-cond true xs x n e = length-append xs (x ∷ []) ∙ ap (λ k. k + 1) e
  length-cond false xs x n e = e

  -- as many as the places that pass
  pub collect_length : (p : ℕ → Bool) (f : ℕ → A) (n : ℕ) → length (collect p f n) ≡ count_if p n
  unfolding fold_if
  collect_length p f zero = refl
  collect_length p f (suc n) = length-cond (p n) (collect p f n) (f n) (count_if p n) (collect_length p f n)

  pub collect_few : (p : ℕ → Bool) (f : ℕ → A) (n : ℕ) → length (collect p f n) ≤ n
  collect_few p f n = omega (arith, collect_length p f n, count-le p n)

  pub collect_more : (p : ℕ → Bool) (f : ℕ → A) (i n : ℕ) → i ≤ n → length (collect p f i) ≤ length (collect p f n)
  collect_more p f i n h = omega (arith, collect_length p f i, collect_length p f n, count_more p i n h)

  -- a place that passes adds one
  pub collect_less : (p : ℕ → Bool) (f : ℕ → A) (i n : ℕ) → i < n → p i ≡ true → length (collect p f i) < length (collect p f n)
  collect_less p f i n h t =
      let one : length (collect p f (i + 1)) ≡ length (collect p f i) + 1 = ap length (fold_in p (λ out k. out ++ (f k ∷ [])) [] i t) ∙ length-append (collect p f i) (f i ∷ []) in
      omega (arith, collect_more p f (i + 1) n (omega arith))

  cond_at : (z : A) (b : Bool) (xs : List A) (x : A) (j : ℕ) → j < length xs → get_or (cond b (xs ++ (x ∷ [])) xs) j z ≡ get_or xs j z
  cond_at z true xs x j l = get_or-append xs (x ∷ []) z j l
  cond_at z false xs x j l = refl

  -- its value stands behind those of the places before it
  pub collect_at : (z : A) (p : ℕ → Bool) (f : ℕ → A) (n i : ℕ) → i < n → p i ≡ true → get_or (collect p f n) (length (collect p f i)) z ≡ f i
  unfolding fold_if
  collect_at z p f zero i h t = absurd (omega arith)
  collect_at z p f (suc n) i h t =
      ⊎_elim
      (λ q. rw (← q, t) (get_or_at (collect p f i) (f i) [] z (length (collect p f i)) refl))
      (λ q. cond_at z (p n) (collect p f n) (f n) (length (collect p f i)) (collect_less p f i n q t) ∙ collect_at z p f n i q t)
      (eq-or-lt_of_le {n = i} {m = n} (omega arith))

  -- an element of a list with one more behind it
  pub snoc_each : (P : A → Type 0) (z : A) (xs : List A) (x : A) → ((j : ℕ) → j < length xs → P (get_or xs j z)) → P x
      → (j : ℕ) → j < length (xs ++ (x ∷ [])) → P (get_or (xs ++ (x ∷ [])) j z)
  snoc_each P z xs x h q j l =
      let m : length (xs ++ (x ∷ [])) ≡ length xs + 1 = length-append xs (x ∷ []) in
      ⊎_elim
      (λ e. rw (get_or_at xs x [] z j (sym e)) q)
      (λ k. rw (get_or-append xs (x ∷ []) z j k) (h j k))
      (eq-or-lt_of_le {n = j} {m = length xs} (omega arith))

  cond_each : (P : A → Type 0) (z : A) (b : Bool) (xs : List A) (x : A) → ((j : ℕ) → j < length xs → P (get_or xs j z)) → (b ≡ true → P x)
      → (j : ℕ) → j < length (cond b (xs ++ (x ∷ [])) xs) → P (get_or (cond b (xs ++ (x ∷ [])) xs) j z)
  cond_each P z true xs x h q = snoc_each P z xs x h (q refl)
  cond_each P z false xs x h q = h

  -- what holds of f k at each place that passes holds of each element
  pub collect_each : (P : A → Type 0) (z : A) (p : ℕ → Bool) (f : ℕ → A) (n : ℕ) → ((k : ℕ) → k < n → p k ≡ true → P (f k))
      → (j : ℕ) → j < length (collect p f n) → P (get_or (collect p f n) j z)
  unfolding fold_if
  collect_each P z p f zero h = λ j l. absurd (omega arith)
  collect_each P z p f (suc n) h =
      cond_each P z (p n) (collect p f n) (f n) (collect_each P z p f n (λ k l t. h k (omega arith) t)) (h n (omega arith))
