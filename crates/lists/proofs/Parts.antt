-- Laws of parts of lists, lent and put back. `part a k l` is the k elements from a on. Assumes nothing.
use Rattle.std.proofs.Common.{◌≡◌, ℕ, zero, suc, ◌+◌, ◌-◌, ◌<◌, ◌≤◌, List, [], ◌∷◌, ◌++◌, length, get_or, take, drop, set, sym, refl, ap, ◌∙◌, append_assoc, append-nil, add-one, arith, length-append, length-drop, take-append-drop, drop_of_length-le, length-take, length-take-le, get_or-drop, take_all, drop-cons, get_or-take, take-take, drop-drop, take_at, take-add, drop_at}
use lib.Seq.{take-append-le, set_at}
use Rattle.lists.specs.Lists.{part, put}

module _ {A : Type 0} where
  -- lists that agree up to a place agree up to each place before it
  pub front_less : (k j : ℕ) (a b : List A) → j ≤ k → take k a ≡ take k b → take j a ≡ take j b
  front_less k j a b h e = sym (take-take j k a h) ∙ ap (λ (x : List A). take j x) e ∙ take-take j k b h

  -- a part that comes back, at its plain length and with what it holds
  pub put_same : (a k j : ℕ) (xs : List A) {ys zs : List A} → k ≡ j → ys ≡ zs → put a k xs ys ≡ put a j xs zs
  put_same a k j xs e f = rw (e, f)

module _ {A : Type 0} where
  pub part_length : (a k : ℕ) (l : List A) → a + k ≤ length l → length (part a k l) ≡ k
  part_length a k l h = length-take-le k (drop a l) (simp length-drop (omega arith))

  -- the front of a part
  pub take_part : (a k j : ℕ) (l : List A) → j ≤ k → take j (part a k l) ≡ part a j l
  take_part a k j l h = take-take j k (drop a l) h

  -- a part that starts within what `drop` leaves
  pub part_drop : (a b k : ℕ) (l : List A) → part b k (drop a l) ≡ part (a + b) k l
  part_drop a b k l = ap (λ (x : List A). take k x) (drop-drop b a l)

  -- lists that agree behind a place agree in each part behind it
  pub part_behind : (a b k : ℕ) (l m : List A) → a ≤ b → drop a l ≡ drop a m → part b k l ≡ part b k m
  part_behind a b k l m h e =
      let s : a + (b - a) ≡ b = omega arith in
      rw (← s, ← part_drop, e, part_drop) refl

  pub drop_behind : (a b : ℕ) (l m : List A) → a ≤ b → drop a l ≡ drop a m → drop b l ≡ drop b m
  drop_behind a b l m h e =
      let s : a + (b - a) ≡ b = omega arith in
      rw (← s, ← drop-drop, e, drop-drop) refl

  -- lists that agree up to a place agree in each part before it
  pub part_front : (a b k : ℕ) (l m : List A) → b + k ≤ a → take a l ≡ take a m → part b k l ≡ part b k m
  part_front a b k l m h e = cut a b k l h ∙ ap (λ (x : List A). part b k x) e ∙ sym (cut a b k m h)
    where
      cut : (a b k : ℕ) (l : List A) → b + k ≤ a → part b k l ≡ part b k (take a l)
      cut a zero k l h = sym (take-take k a l (omega arith))
      cut zero (suc b) k l h = let z : ⊥ = omega arith in absurd z
      cut (suc a) (suc b) k [] h = refl
      cut (suc a) (suc b) k (x ∷ l) h = cut a b k l (omega arith)

  module _ (a k : ℕ) (xs ys : List A) (fits : a + k ≤ length xs) (len : length ys ≡ k) where
    pub put_length : length (put a k xs ys) ≡ length xs
    put_length = simp (length-append, length-take, length-drop) (omega arith)

    put_front : length (take a xs) ≡ a
    put_front = length-take-le a xs (omega arith)

    pub put_take : (b : ℕ) → b ≤ a → take b (put a k xs ys) ≡ take b xs
    put_take b h = take-append-le b (take a xs) (ys ++ drop k (drop a xs)) (omega (arith, put_front)) ∙ take-take b a xs h

    pub put_rest : drop a (put a k xs ys) ≡ ys ++ drop k (drop a xs)
    put_rest = drop_at (take a xs) (ys ++ drop k (drop a xs)) a put_front

    pub put_part : part a k (put a k xs ys) ≡ ys
    put_part = ap (λ (x : List A). take k x) put_rest ∙ take_at ys (drop k (drop a xs)) k len

    put_end : drop (a + k) (put a k xs ys) ≡ drop (a + k) xs
    put_end = rw (← drop-drop k a (put a k xs ys), put_rest, drop_at ys (drop k (drop a xs)) k len, drop-drop k a xs) refl

    pub put_drop : (b : ℕ) → a + k ≤ b → drop b (put a k xs ys) ≡ drop b xs
    put_drop b h = drop_behind (a + k) b (put a k xs ys) xs h put_end

    pub put_after : (b j : ℕ) → a + k ≤ b → part b j (put a k xs ys) ≡ part b j xs
    put_after b j h = part_behind (a + k) b j (put a k xs ys) xs h put_end

    pub put_before : (b j : ℕ) → b + j ≤ a → part b j (put a k xs ys) ≡ part b j xs
    put_before b j h = part_front a b j (put a k xs ys) xs h (put_take a (omega arith))

-- a cell of a part
module _ {A : Type 0} (b k : ℕ) (l : List A) where
  pub get_d_part : (i : ℕ) (z : A) → i < k → get_or (part b k l) i z ≡ get_or l (b + i) z
  get_d_part i z h = get_or-take k (drop b l) i z h ∙ get_or-drop b l i z

module _ {A : Type 0} where
  pub get_d_behind : (a i : ℕ) (l m : List A) (z : A) → a ≤ i → drop a l ≡ drop a m → get_or l i z ≡ get_or m i z
  get_d_behind a i l m z h e =
      let s : a + (i - a) ≡ i = omega arith in
      let back : (x : List A) → get_or (drop a x) (i - a) z ≡ get_or x i z = λ x. get_or-drop a x (i - a) z ∙ ap (λ (j : ℕ). get_or x j z) s in
      sym (back l) ∙ ap (λ (x : List A). get_or x (i - a) z) e ∙ back m

  pub get_d_front : (a i : ℕ) (l m : List A) (z : A) → i < a → take a l ≡ take a m → get_or l i z ≡ get_or m i z
  get_d_front a i l m z h e = sym (get_or-take a l i z h) ∙ ap (λ (x : List A). get_or x i z) e ∙ get_or-take a m i z h

-- A part that runs to the end, `&mut l[a..]`.
module _ {A : Type 0} (a : ℕ) (xs : List A) (inside : a ≤ length xs) where
  pub tail_is : part a (length xs - a) xs ≡ drop a xs
  tail_is = take_all (length xs - a) (drop a xs) (simp length-drop (omega arith))

  module _ (ys : List A) (len : length ys ≡ length (part a (length xs - a) xs)) where
    tail_len : length ys ≡ length xs - a
    tail_len = len ∙ part_length a (length xs - a) xs (omega arith)

    pub tail_length : length (put a (length xs - a) xs ys) ≡ length xs
    tail_length = put_length a (length xs - a) xs ys (omega arith) tail_len

    pub tail_rest : drop a (put a (length xs - a) xs ys) ≡ ys
    tail_rest =
        let none : length (drop a xs) ≤ length xs - a = simp length-drop (omega arith) in
        put_rest a (length xs - a) xs ys (omega arith) tail_len ∙ rw (drop_of_length-le (drop a xs) none) (append-nil ys)

    pub tail_take : (b : ℕ) → b ≤ a → take b (put a (length xs - a) xs ys) ≡ take b xs
    tail_take = put_take a (length xs - a) xs ys (omega arith) tail_len

    pub tail_before : (b j : ℕ) → b + j ≤ a → part b j (put a (length xs - a) xs ys) ≡ part b j xs
    tail_before = put_before a (length xs - a) xs ys (omega arith) tail_len

    -- what the callee keeps behind place b of the part is kept behind a + b of the whole
    pub tail_behind : (b : ℕ) → drop b ys ≡ drop b (part a (length xs - a) xs) → drop (a + b) (put a (length xs - a) xs ys) ≡ drop (a + b) xs
    tail_behind b e =
        sym (drop-drop b a (put a (length xs - a) xs ys)) ∙ ap (λ (x : List A). drop b x) tail_rest ∙ e
        ∙ ap (λ (x : List A). drop b x) tail_is ∙ drop-drop b a xs

-- A part that was put at the front of what follows: what stands up to its end, one more element behind it, and no element at all.
module _ {A : Type 0} (a k : ℕ) (xs ys : List A) where
  pub put_to : a + k ≤ length xs → length ys ≡ k → take (a + k) (put a k xs ys) ≡ take a xs ++ ys
  put_to h e = take-add a k (put a k xs ys) ∙ rw (put_take a k xs ys h e a (omega arith), put_part a k xs ys h e)

  pub put_push : (v : A) → a + k < length xs → length ys ≡ k → set (put a k xs ys) (a + k) v ≡ put a (k + 1) xs (ys ++ (v ∷ []))
  put_push v h e =
      let inside : k < length (drop a xs) = simp length-drop (omega arith) in
      let rest = drop (suc k) (drop a xs) in
      let y = get_or (drop a xs) k v in
      let front : length (take a xs ++ ys) ≡ a + k = length-append (take a xs) ys ∙ rw (length-take-le a xs (omega arith), e) in
      let open_up : put a k xs ys ≡ (take a xs ++ ys) ++ (y ∷ rest) = rw (drop-cons (drop a xs) k v inside) (sym (append_assoc (take a xs) ys (y ∷ rest))) in
      ap (λ (l : List A). set l (a + k) v) open_up
      ∙ set_at (take a xs ++ ys) y rest v (a + k) front
      ∙ append_assoc (take a xs) ys (v ∷ rest)
      ∙ ap (λ (l : List A). take a xs ++ l) (sym (append_assoc ys (v ∷ []) rest))
      ∙ ap (λ (n : ℕ). take a xs ++ ((ys ++ (v ∷ [])) ++ drop n (drop a xs))) (sym (add-one k))

module _ {A : Type 0} where
  pub put_none : (a : ℕ) (xs : List A) → xs ≡ put a 0 xs []
  put_none a xs = sym (take-append-drop a xs)
