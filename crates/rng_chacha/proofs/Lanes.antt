-- Four states side by side: what a store does to each of them, and states that are made one after the other.
use Rattle.std.proofs.Common.{◌≡◌, ℕ, ◌+◌, ◌*◌, ◌<◌, ◌≤◌, List, length, set, sym, refl, ap, ◌∙◌, arith, length-set, get_or-set_other, get_or-set_same}
use mathlib.Core.Logic.{by_cases}
use native.Mathlib.Decide.{ℕ_discrete}
use Rattle.lists.specs.Lists.{listed, numbers}
use Rattle.lists.proofs.Listed.{listed_set, listed_same, length-listed, listed_cells, writes, writes_one, writes_done}
use Rattle.rng_chacha.specs.Four.{lane_of, Each, Stored}

-- a store in the place of word j of state b
pub lane_set : (s : List ℕ) (b j v : ℕ) → b < 4 → j < 16 → length s ≡ 64 → lane_of b (set s (b + 4 * j) v) ≡ set (lane_of b s) j v
unfolding lane_of
lane_set s b j v hb hj e =
    sym (listed_set 0 (λ k. numbers s (b + 4 * k)) (λ k. numbers (set s (b + 4 * j) v) (b + 4 * k)) 16 j v hj
    (sym (get_or-set_same s (b + 4 * j) v 0 (omega arith)))
    (λ k l n. sym (get_or-set_other s (b + 4 * j) (b + 4 * k) v 0 (λ q. n (omega arith)))))

pub lane_other : (s : List ℕ) (a b j v : ℕ) → a < 4 → b < 4 → (a ≡ b → ⊥) → lane_of a (set s (b + 4 * j) v) ≡ lane_of a s
unfolding lane_of
lane_other s a b j v ha hb n =
    listed_same 0 (λ k. numbers (set s (b + 4 * j) v) (a + 4 * k)) (λ k. numbers s (a + 4 * k)) 16
    (λ k l. get_or-set_other s (b + 4 * j) (a + 4 * k) v 0 (λ q. n (omega arith)))

-- one state more
pub each_more : (f : ℕ → List ℕ) (i : ℕ) (s s' : List ℕ) {t : List ℕ} → i < 4 → Each f i s → Stored i t s s' → t ≡ f i → Each f (i + 1) s'
each_more f i s s' h e m v b l =
    by_cases (ℕ_discrete b i)
    (λ q. rw q (m.state_is ∙ v))
    (λ q. m.others b (omega arith) q ∙ e b (omega arith))

-- those behind are as they were
pub behind_more : (i : ℕ) (s₀ s s' : List ℕ) {t : List ℕ} → ((b : ℕ) → i ≤ b → b < 4 → lane_of b s ≡ lane_of b s₀) → Stored i t s s'
    → (b : ℕ) → i + 1 ≤ b → b < 4 → lane_of b s' ≡ lane_of b s₀
behind_more i s₀ s s' e m b l k = m.others b k (λ q. omega arith) ∙ e b (omega arith) k

pub lane_long : (b : ℕ) (s : List ℕ) → length (lane_of b s) ≡ 16
unfolding lane_of
lane_long b s = length-listed (λ j. numbers s (b + 4 * j)) 16

-- the first j words of t are stored as state b
pub record Storing (b j : ℕ) (t s₀ s : List ℕ) : Type 0 where
  pub few : j ≤ 16
  pub small : b < 4
  pub long : length s ≡ 64
  pub words : length t ≡ 16
  pub so_far : lane_of b s ≡ writes (numbers t) j (lane_of b s₀)
  pub others : (a : ℕ) → a < 4 → (a ≡ b → ⊥) → lane_of a s ≡ lane_of a s₀

pub storing_none : (b : ℕ) (t s : List ℕ) → b < 4 → length s ≡ 64 → length t ≡ 16 → Storing b 0 t s s
unfolding writes
storing_none b t s h l k = record { few = omega arith; small = h; long = l; words = k; so_far = refl; others = λ a g n. refl }

pub storing_more : {b j : ℕ} {t s₀ s : List ℕ} → Storing b j t s₀ s → j < 16 → Storing b (j + 1) t s₀ (set s (b + 4 * j) (numbers t j))
storing_more {b} {j} {t} {s₀} {s} h l = record {
  few = omega arith;
  small = h.small;
  long = length-set s (b + 4 * j) (numbers t j) ∙ h.long;
  words = h.words;
  so_far = lane_set s b j (numbers t j) h.small l h.long ∙ writes_one (numbers t) j (lane_of b s₀) h.so_far refl;
  others = λ a g n. lane_other s a b j (numbers t j) g h.small n ∙ h.others a g n;
}

pub storing_done : {b j : ℕ} {t s₀ s : List ℕ} → Storing b j t s₀ s → 16 ≤ j → Stored b t s₀ s
storing_done {b} {j} {t} {s₀} {s} h l =
    let e : j ≡ 16 = omega (arith, h.few) in
    let w : listed (numbers t) 16 ≡ t = ap (listed (numbers t)) (sym h.words) ∙ listed_cells 0 t in
    record { state_is = writes_done 0 (numbers t) j 16 (lane_of b s₀) h.so_far e (lane_long b s₀) ∙ w; others = h.others }
