-- Four blocks in one list, one after the other.
use Rattle.std.proofs.Common.{◌≡◌, ℕ, ◌+◌, ◌*◌, ◌/◌, ◌%◌, ◌<◌, ◌≤◌, ◌⊎◌, List, length, sym, ap, ◌∙◌, inl, inr, ⊎_elim, lt_of_not-le, arith}
use native.Mathlib.Decide.{dec_le}
use Rattle.lists.specs.Lists.{numbers}
use Rattle.lists.proofs.Listed.{listed_of, listed_same}
use Rattle.rng_chacha.specs.Four.{four_of, Copied}

le-or-lt : (a b : ℕ) → (a ≤ b) ⊎ (b < a)
le-or-lt a b = elim (dec_le a b) [ yes h ↦ inl h | no f ↦ inr (lt_of_not-le f) ]

-- the blocks in front of block b are those of f
abbrev pub Blocks : (ℕ → List ℕ) → ℕ → List ℕ → Type 0
Blocks f b out = (i : ℕ) → i < 16 * b → numbers out i ≡ numbers (f (i / 16)) (i % 16)

pub blocks_more : (f : ℕ → List ℕ) (b : ℕ) (out out' : List ℕ) {words : List ℕ} → Blocks f b out → Copied b words out out' → words ≡ f b → Blocks f (b + 1) out'
blocks_more f b out out' {words} h c e i l =
    ⊎_elim
    (λ q.
    let d : i / 16 ≡ b = omega arith in
    let r : i ≡ 16 * b + i % 16 = omega arith in
    ap (numbers out') r ∙ c.block_is (i % 16) (omega arith) ∙ ap (λ x. numbers x (i % 16)) (e ∙ ap f (sym d)))
    (λ q. c.front_is i q ∙ h i q)
    (le-or-lt (16 * b) i)

pub blocks_done : (f : ℕ → List ℕ) (out : List ℕ) → Blocks f 4 out → length out ≡ 64 → out ≡ four_of f
unfolding four_of
blocks_done f out h e = listed_of 0 (λ i. numbers (f (i / 16)) (i % 16)) 64 out e (λ i l. h i (omega arith))

pub four_same : (f g : ℕ → List ℕ) → ((b : ℕ) → b < 4 → f b ≡ g b) → four_of f ≡ four_of g
unfolding four_of
four_same f g h =
    listed_same 0 (λ i. numbers (f (i / 16)) (i % 16)) (λ i. numbers (g (i / 16)) (i % 16)) 64
    (λ i l. ap (λ x. numbers x (i % 16)) (h (i / 16) (omega arith)))
