-- Stores into one area of a list, while another area is read.
use Rattle.std.proofs.Common.{◌≡◌, ℕ, zero, suc, ◌+◌, ◌*◌, ◌<◌, ◌≤◌, List, ◌++◌, length, get_or, take, drop, set, sym, refl, ap, ◌∙◌, append_assoc, mul-le-mul_right, suc-mul, zero-mul, add-one, arith, length-drop, take-append-drop, drop-drop, take-add}
use lib.Seq.{take-set-le, drop-set-add}
use Rattle.lists.specs.Lists.{listed, part, put, flat}
use Rattle.lists.proofs.Listed.{writes, writes_front, length-listed, listed_same, listed_of}
use Rattle.lists.proofs.Matrix.{flat_at, listed-append}
use Rattle.lists.proofs.Parts.{put_length, put_take, put_part, put_drop, part_length, get_d_part}

module _ {A : Type 0} where
  -- d after the stores of f 0, .., f (n - 1) at b, .., b + n - 1
  unfoldable pub stores : ℕ → (ℕ → A) → ℕ → List A → List A
  stores b f zero d = d
  stores b f (suc n) d = set (stores b f n d) (b + n) (f n)

  pub stores_more : (b : ℕ) (f : ℕ → A) (i : ℕ) {xs : List A} (d : List A) → xs ≡ stores b f i d → set xs (b + i) (f i) ≡ stores b f (i + 1) d
  unfolding stores
  stores_more b f i d e = rw (add-one, e)

  -- one more store, of a value that equals f i
  pub stores_one : (b : ℕ) (f : ℕ → A) (i : ℕ) {xs : List A} {v : A} (d : List A) → xs ≡ stores b f i d → v ≡ f i → set xs (b + i) v ≡ stores b f (i + 1) d
  stores_one b f i {xs} d e h = ap (set xs (b + i)) h ∙ stores_more b f i d e

  -- what lies before the area is as it was
  pub stores_front : (b : ℕ) (f : ℕ → A) (n : ℕ) (d : List A) → take b (stores b f n d) ≡ take b d
  unfolding stores
  stores_front b f zero d = refl
  stores_front b f (suc n) d = take-set-le b (stores b f n d) (b + n) (f n) (omega arith) ∙ stores_front b f n d

  pub stores_kept : (b : ℕ) (f : ℕ → A) (n : ℕ) {xs : List A} (d : List A) → xs ≡ stores b f n d → take b xs ≡ take b d
  stores_kept b f n d e = rw e (stores_front b f n d)

  stores_back : (b : ℕ) (f : ℕ → A) (n : ℕ) (d : List A) → drop b (stores b f n d) ≡ writes f n (drop b d)
  unfolding stores writes
  stores_back b f zero d = refl
  stores_back b f (suc n) d = drop-set-add b (stores b f n d) n (f n) ∙ ap (λ l. set l n (f n)) (stores_back b f n d)

  -- the three areas after the loop
  pub stores_done : (z : A) (b : ℕ) (f : ℕ → A) (n : ℕ) {xs : List A} (d : List A) → xs ≡ stores b f n d → b + n ≤ length d → xs ≡ take b d ++ (listed f n ++ drop (b + n) d)
  stores_done z b f n d e h =
      e ∙ sym (take-append-drop b (stores b f n d))
      ∙ rw (stores_front b f n d, stores_back b f n d, writes_front z f n (drop b d) (simp length-drop (omega arith)), drop-drop n b d)

  -- the same three areas, as a part that was put
  pub stores_put : (z : A) (b : ℕ) (f : ℕ → A) (n : ℕ) {xs : List A} (d : List A) → xs ≡ stores b f n d → b + n ≤ length d → xs ≡ put b n d (listed f n)
  stores_put z b f n d e h = stores_done z b f n d e h ∙ rw (drop-drop n b d)

  -- the cells of a part, as the part
  pub listed_part : (z : A) (a k : ℕ) (d : List A) → a + k ≤ length d → listed (λ j. get_or d (a + j) z) k ≡ part a k d
  listed_part z a k d h = sym (listed_of z (λ j. get_or d (a + j) z) k (part a k d) (part_length a k d h) (λ j l. get_d_part a k d j z l))

  -- two parts that were put one behind the other, as one
  pub put_next : (a k j e : ℕ) (xs ys zs : List A) → e ≡ a + k → a + k ≤ length xs → length ys ≡ k → put e j (put a k xs ys) zs ≡ put a (k + j) xs (ys ++ zs)
  put_next a k j e xs ys zs s h l =
      let front : take (a + k) (put a k xs ys) ≡ take a xs ++ ys = take-add a k (put a k xs ys) ∙ rw (put_take a k xs ys h l a (omega arith), put_part a k xs ys h l) in
      let back : drop j (drop (a + k) (put a k xs ys)) ≡ drop (k + j) (drop a xs) = rw (put_drop a k xs ys h l (a + k) (omega arith), ← drop-drop k a xs, drop-drop j k (drop a xs)) in
      rw (s, front, back) (append_assoc (take a xs) ys (zs ++ drop (k + j) (drop a xs)) ∙ ap (λ (x : List A). take a xs ++ x) (sym (append_assoc ys zs (drop (k + j) (drop a xs)))))

  -- d after the first i rows of g have been put from b on
  abbrev pub area_to : ℕ → (ℕ → ℕ → A) → ℕ → ℕ → List A → List A
  area_to b g m i d = put b (i * m) d (listed (flat g m) (i * m))

  pub area_none : (b : ℕ) (g : ℕ → ℕ → A) (m : ℕ) (d : List A) → d ≡ area_to b g m 0 d
  unfolding listed
  area_none b g m d = rw (zero-mul m) (sym (take-append-drop b d))

  module _ (b : ℕ) (g : ℕ → ℕ → A) (m i : ℕ) (d : List A) where
    rows_fit : b + m * m ≤ length d → i ≤ m → b + i * m ≤ length d
    rows_fit h l = omega (arith, mul-le-mul_right m l)

    pub area_more : {xs ys : List A} → xs ≡ area_to b g m i d → b + m * m ≤ length d → i < m → ys ≡ listed (g i) m → put (b + i * m) m xs ys ≡ area_to b g m (i + 1) d
    area_more e h l q =
        let s : (i + 1) * m ≡ i * m + m = rw add-one (suc-mul i m) in
        let t : listed (g i) m ≡ listed (λ j. flat g m (i * m + j)) m = listed_same (g i 0) (g i) (λ j. flat g m (i * m + j)) m (λ j k. sym (flat_at g m i j k)) in
        rw (e, q, s, t)
        (put_next b (i * m) m (b + i * m) d (listed (flat g m) (i * m)) (listed (λ j. flat g m (i * m + j)) m) refl (rows_fit h (omega arith)) (length-listed (flat g m) (i * m))
        ∙ ap (λ (x : List A). put b (i * m + m) d x) (listed-append (flat g m) (i * m) m))

    -- what lies before the rows, the rows, and the length
    pub area_front : {xs : List A} → xs ≡ area_to b g m i d → b + m * m ≤ length d → i ≤ m → take b xs ≡ take b d
    area_front e h l = rw e (put_take b (i * m) d (listed (flat g m) (i * m)) (rows_fit h l) (length-listed (flat g m) (i * m)) b (omega arith))

    pub area_rows : {xs : List A} → xs ≡ area_to b g m i d → b + m * m ≤ length d → i ≤ m → part b (i * m) xs ≡ listed (flat g m) (i * m)
    area_rows e h l = rw e (put_part b (i * m) d (listed (flat g m) (i * m)) (rows_fit h l) (length-listed (flat g m) (i * m)))

    pub area_length : {xs : List A} → xs ≡ area_to b g m i d → b + m * m ≤ length d → i ≤ m → length xs ≡ length d
    area_length e h l = rw e (put_length b (i * m) d (listed (flat g m) (i * m)) (rows_fit h l) (length-listed (flat g m) (i * m)))
