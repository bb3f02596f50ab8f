-- A draw by the words that it takes: the word of each call, and the generator behind it.
use Rattle.std.proofs.Common.{◌≡◌, ℕ, ◌+◌, ◌-◌, ◌*◌, ◌/◌, ◌%◌, ◌^◌, ◌<◌, ◌≤◌, true, false, leb, List, refl, ap, ◌∙◌, arith, le-leb}
use borrow.Author.Tests.{lt-leb}
use Rattle.rng_std.specs.Words.{word_of, index_from, share_from}
use Rattle.rng_std.specs.States.{key_in, Moved, DrawnBy}

-- two words were taken
pub moved_twice : (taken : ℕ) (rng rng₁ rng₂ : List ℕ) → Moved rng (taken + 1) rng₁ → Moved rng₁ (taken + 1 + 1) rng₂ → Moved rng (taken + 2) rng₂
moved_twice taken rng rng₁ rng₂ a b =
    let e : taken + 1 + 1 ≡ taken + 2 = omega arith in
    record { key_is = b.key_is ∙ a.key_is; holds = rw e at b.holds }

module _ (taken : ℕ) (rng rng₁ : List ℕ) {first : ℕ} (one : first ≡ word_of (key_in rng) taken) (a : Moved rng (taken + 1) rng₁) where
  pub index_one : (n : ℕ) → first * n % 2 ^ 32 ≤ 2 ^ 32 - n
      → DrawnBy (index_from (word_of (key_in rng)) n taken) (record { value = first * n / 2 ^ 32; taken = taken + 1 }) rng rng₁
  unfolding index_from
  index_one n h =
      let t : leb (word_of (key_in rng) taken * n % 2 ^ 32) (2 ^ 32 - n) ≡ true = le-leb _ _ (rw one at h) in
      rw t (record { value-is = ap (λ x. x * n / 2 ^ 32) one; taken_is = refl; moved = a })

  module _ (rng₂ : List ℕ) {second : ℕ} (two : second ≡ word_of (key_in rng₁) (taken + 1)) (b : Moved rng₁ (taken + 1 + 1) rng₂) where
    next_is : second ≡ word_of (key_in rng) (taken + 1)
    next_is = two ∙ ap (λ k. word_of k (taken + 1)) a.key_is

    pub index_two : (n : ℕ) {c : ℕ} → 2 ^ 32 - n < first * n % 2 ^ 32 → c ≡ (first * n % 2 ^ 32 + second * n / 2 ^ 32) / 2 ^ 32
        → DrawnBy (index_from (word_of (key_in rng)) n taken) (record { value = first * n / 2 ^ 32 + c; taken = taken + 2 }) rng rng₂
    unfolding index_from
    index_two n {c} h e =
        let t : leb (word_of (key_in rng) taken * n % 2 ^ 32) (2 ^ 32 - n) ≡ false = lt-leb _ _ (rw one at h) in
        rw t (record { value-is = ap (λ x. first * n / 2 ^ 32 + x) e ∙ rw (next_is, one) refl; taken_is = refl; moved = moved_twice taken rng rng₁ rng₂ a b })

    pub share_two : DrawnBy (share_from (word_of (key_in rng)) taken) (record { value = (second * 2 ^ 32 + first) / 2 ^ 11; taken = taken + 2 }) rng rng₂
    unfolding share_from
    share_two = record { value-is = rw (next_is, one) refl; taken_is = refl; moved = moved_twice taken rng rng₁ rng₂ a b }
