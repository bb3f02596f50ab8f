-- Lists that a loop fills cell by cell, and lists that are given by their cells.
use Rattle.std.proofs.Common.{◌≡◌, ℕ, zero, suc, ◌+◌, ◌<◌, ◌≤◌, List, [], ◌∷◌, ◌++◌, map, length, get_or, drop, set, replicate, sym, refl, ap, ◌∙◌, ⊎_elim, append_assoc, eq-or-lt_of_le, ne_of_lt, add-one, arith, length-set, drop-cons, get_or-set_other, get_or-set_same, ext_get_or}
use mathlib.Core.Logic.{by_cases}
use native.Mathlib.Decide.{ℕ_discrete}
use lib.Seq.{set-get_or, set_at}
use Rattle.lists.specs.Lists.{listed}

module _ {A : Type 0} where
  pub length-listed : (f : ℕ → A) (n : ℕ) → length (listed f n) ≡ n
  unfolding listed
  length-listed f zero = refl
  length-listed f (suc n) = ap suc (length-listed (λ k. f (suc k)) n)

  pub get_d_listed : (f : ℕ → A) (n k : ℕ) (z : A) → k < n → get_or (listed f n) k z ≡ f k
  unfolding listed
  get_d_listed f zero k z h = absurd (omega arith)
  get_d_listed f (suc n) zero z h = refl
  get_d_listed f (suc n) (suc k) z h = get_d_listed (λ j. f (suc j)) n k z (omega arith)

  -- a list of n cells is given by them
  pub listed_of : (z : A) (f : ℕ → A) (n : ℕ) (xs : List A) → length xs ≡ n → ((k : ℕ) → k < n → get_or xs k z ≡ f k) → xs ≡ listed f n
  listed_of z f n xs e h =
      ext_get_or z xs (listed f n) (e ∙ sym (length-listed f n)) (λ k l. h k (omega arith) ∙ sym (get_d_listed f n k z (omega arith)))

  -- two index functions that agree below n
  pub listed_same : (z : A) (f g : ℕ → A) (n : ℕ) → ((k : ℕ) → k < n → f k ≡ g k) → listed f n ≡ listed g n
  listed_same z f g n h = listed_of z g n (listed f n) (length-listed f n) (λ k l. get_d_listed f n k z l ∙ h k l)

  -- a store into such a list: g has v at i, and f's cells elsewhere
  pub listed_set : (z : A) (f g : ℕ → A) (n i : ℕ) (v : A) → i < n → v ≡ g i → ((k : ℕ) → k < n → (k ≡ i → ⊥) → f k ≡ g k) → set (listed f n) i v ≡ listed g n
  listed_set z f g n i v l e h =
      listed_of z g n (set (listed f n) i v) (length-set (listed f n) i v ∙ length-listed f n)
      (λ k m. by_cases (ℕ_discrete k i)
      (λ q. rw q (get_or-set_same (listed f n) i v z (rw (length-listed f n) l) ∙ e))
      (λ q. get_or-set_other (listed f n) i k v z q ∙ get_d_listed f n k z m ∙ h k m q))

  -- d after the stores of f 0, .., f (n - 1) at 0, .., n - 1
  unfoldable pub writes : (ℕ → A) → ℕ → List A → List A
  writes f zero d = d
  writes f (suc n) d = set (writes f n d) n (f n)

  pub length_writes : (f : ℕ → A) (n : ℕ) (d : List A) → length (writes f n d) ≡ length d
  unfolding writes
  length_writes f zero d = refl
  length_writes f (suc n) d = length-set (writes f n d) n (f n) ∙ length_writes f n d

  -- one more store
  pub writes_more : (f : ℕ → A) (i : ℕ) {xs : List A} (d : List A) → xs ≡ writes f i d → set xs i (f i) ≡ writes f (i + 1) d
  unfolding writes
  writes_more f i d e = rw (add-one, e)

  pub writes_at : (f : ℕ → A) (n : ℕ) (d : List A) (k : ℕ) (z : A) → k < n → n ≤ length d → get_or (writes f n d) k z ≡ f k
  unfolding writes
  writes_at f zero d k z l h = absurd (omega arith)
  writes_at f (suc n) d k z l h =
      ⊎_elim
      (λ q. rw (← q) (get_or-set_same (writes f k d) k (f k) z (rw (length_writes f k d) (omega arith))))
      (λ q. get_or-set_other (writes f n d) n k (f n) z (ne_of_lt q) ∙ writes_at f n d k z q (omega arith))
      (eq-or-lt_of_le {n = k} {m = n} (omega arith))

  -- what is not stored yet is as it was
  pub writes_ahead : (f : ℕ → A) (n : ℕ) (d : List A) (k : ℕ) (z : A) → n ≤ k → get_or (writes f n d) k z ≡ get_or d k z
  unfolding writes
  writes_ahead f zero d k z h = refl
  writes_ahead f (suc n) d k z h =
      get_or-set_other (writes f n d) n k (f n) z (λ q. ne_of_lt h (sym q)) ∙ writes_ahead f n d k z (omega arith)

  -- one more store, of a value that is made from the cell that it goes to
  pub writes_step : (z : A) (u : A → ℕ → A) (i : ℕ) {xs : List A} (d : List A) → xs ≡ writes (λ k. u (get_or d k z) k) i d
      → set xs i (u (get_or xs i z) i) ≡ writes (λ k. u (get_or d k z) k) (i + 1) d
  writes_step z u i d e =
      ap (λ (x : List A). set x i (u (get_or x i z) i)) e
      ∙ ap (λ (x : A). set (writes (λ k. u (get_or d k z) k) i d) i (u x i)) (writes_ahead (λ k. u (get_or d k z) k) i d i z (omega arith))
      ∙ writes_more (λ k. u (get_or d k z) k) i d refl

  -- every cell is stored
  pub writes_all : (z : A) (f : ℕ → A) (n : ℕ) (d : List A) → length d ≡ n → writes f n d ≡ listed f n
  writes_all z f n d e = listed_of z f n (writes f n d) (length_writes f n d ∙ e) (λ k l. writes_at f n d k z l (omega arith))

  -- the loop that stores at each cell has ended
  pub writes_done : (z : A) (f : ℕ → A) (i n : ℕ) {xs : List A} (d : List A) → xs ≡ writes f i d → i ≡ n → length d ≡ n → xs ≡ listed f n
  writes_done z f i n d h e m = h ∙ rw e (writes_all z f n d m)

  pub listed_length : (f : ℕ → A) (n : ℕ) {xs : List A} → xs ≡ listed f n → length xs ≡ n
  listed_length f n h = ap length h ∙ length-listed f n

  -- a list is given by its cells
  pub listed_cells : (z : A) (xs : List A) → listed (λ k. get_or xs k z) (length xs) ≡ xs
  listed_cells z xs = sym (listed_of z (λ k. get_or xs k z) (length xs) xs refl (λ k l. refl))

  -- the same value in each cell
  pub listed_const : (x : A) (n : ℕ) → listed (λ k. x) n ≡ replicate n x
  unfolding listed
  listed_const x zero = refl
  listed_const x (suc n) = ap (λ (l : List A). x ∷ l) (listed_const x n)

  -- the next cell is as it was
  pub writes_next : (z : A) (f : ℕ → A) (i : ℕ) {xs : List A} (d : List A) → xs ≡ writes f i d → get_or xs i z ≡ get_or d i z
  writes_next z f i d e = ap (λ l. get_or l i z) e ∙ writes_ahead f i d i z (omega arith)

  -- one more store, of a value that equals f i
  pub writes_one : (f : ℕ → A) (i : ℕ) {xs : List A} {v : A} (d : List A) → xs ≡ writes f i d → v ≡ f i → set xs i v ≡ writes f (i + 1) d
  writes_one f i {xs} d e h = ap (set xs i) h ∙ writes_more f i d e

  -- no store, where f has what stands there
  pub writes_keep : (z : A) (f : ℕ → A) (i : ℕ) {xs : List A} (d : List A) → xs ≡ writes f i d → f i ≡ get_or d i z → xs ≡ writes f (i + 1) d
  writes_keep z f i {xs} d e h = sym (set-get_or xs i z) ∙ writes_one f i d e (writes_next z f i d e ∙ sym h)

  listed_snoc : (f : ℕ → A) (n : ℕ) → listed f (suc n) ≡ listed f n ++ (f n ∷ [])
  unfolding listed
  listed_snoc f zero = refl
  listed_snoc f (suc n) = ap (λ (l : List A). f 0 ∷ l) (listed_snoc (λ k. f (suc k)) n)

  listed_none : (f : ℕ → A) (d : List A) → d ≡ listed f 0 ++ drop 0 d
  unfolding listed
  listed_none f d = refl

  -- stores at the front of a list
  pub writes_front : (z : A) (f : ℕ → A) (n : ℕ) (d : List A) → n ≤ length d → writes f n d ≡ listed f n ++ drop n d
  unfolding writes
  writes_front z f zero d h = listed_none f d
  writes_front z f (suc n) d h =
      rw (writes_front z f n d (omega arith), drop-cons d n z h, listed_snoc f n)
      (set_at (listed f n) (get_or d n z) (drop (suc n) d) (f n) n (length-listed f n) ∙ sym (append_assoc (listed f n) (f n ∷ []) (drop (suc n) d)))

-- a function of each cell
pub listed_map : {A B : Type 0} (f : A → B) (z : A) (xs : List A) → listed (λ k. f (get_or xs k z)) (length xs) ≡ map f xs
unfolding listed
listed_map f z [] = refl
listed_map f z (x ∷ xs) = ap (λ l. f x ∷ l) (listed_map f z xs)
