-- Groups with the same members have the same size and mean; distances to centroids that agree are the same.
use Prim.Native.Nat.{◌+◌, ◌<◌, ℕ}
use mathlib.Core.Path.{◌≡◌, ap, refl, sym}
use mathlib.Core.Logic.{by_cases}
use mathlib.Core.Bool.{Bool, beq, false, true}
use mathlib.Core.List.{List}
use native.Mathlib.Omega.{arith}
use native.Mathlib.Decide.{dec_lt}
use lib.Ieee.{Float, add, binary64, nan}
use Rattle.lists.specs.Sums.{square_from, zero64, group_size, in_group}
use Rattle.lists.specs.Lists.{numbers, first_to}
use Rattle.lists.proofs.First.{first-none, first_holds}
use Rattle.lists.proofs.Sums.{all_true, fold_none, fold_same, sum_same}
use Rattle.lists.proofs.Listed.{listed_same}
use Rattle.lloyd_members.specs.Members.{same_group}
use Rattle.lloyd_mean.specs.Groups.{distances, mean}
use Rattle.distance_columns.specs.Pair.{squared}

beq_eq : (a b : Bool) → beq a b ≡ true → a ≡ b
beq_eq true true h = refl
beq_eq true false h = sym h
beq_eq false true h = h
beq_eq false false h = refl

-- groups with the same members
module _ (old labels : List ℕ) (m l : ℕ) (s : same_group old labels m l ≡ true) where
  members : (i : ℕ) → i < m → in_group (numbers old) l i ≡ in_group (numbers labels) l i
  members i h =
      beq_eq (in_group (numbers old) l i) (in_group (numbers labels) l i)
      (all_true (λ i. beq (in_group (numbers old) l i) (in_group (numbers labels) l i)) m s i h)

  pub size_same : group_size (numbers old) m l ≡ group_size (numbers labels) m l
  size_same = fold_same (in_group (numbers old) l) (in_group (numbers labels) l) (λ c k. c + 1) (λ c k. c + 1) 0 m members (λ c k q. refl)

  pub mean_same : (x : ℕ → ℕ → Float) (c : ℕ) → mean x (numbers old) m l c ≡ mean x (numbers labels) m l c
  mean_same x c =
      rw (size_same, fold_same (in_group (numbers old) l) (in_group (numbers labels) l) (λ a k. add binary64 a (x k c)) (λ a k. add binary64 a (x k c)) zero64 m members (λ a k q. refl))

-- items, and centroids, that agree in each column
pub squared_agree : (a b f g : ℕ → Float) (m : ℕ) → ((c : ℕ) → c < m → a c ≡ b c) → ((c : ℕ) → c < m → f c ≡ g c) → squared a f m ≡ squared b g m
squared_agree a b f g m p q = sum_same (λ c. square_from (f c) (a c)) (λ c. square_from (g c) (b c)) m (λ c l. rw (p c l, q c l))

pub distances_agree : (x : ℕ → ℕ → Float) (m : ℕ) (f g : ℕ → Float) → ((c : ℕ) → c < m → f c ≡ g c) → distances x m f ≡ distances x m g
distances_agree x m f g h =
    listed_same nan (λ i. squared (x i) f m) (λ i. squared (x i) g m) m (λ i q. squared_agree (x i) (x i) f g m (λ c l. refl) h)

-- means of items that agree
pub mean_agree : (x y : ℕ → ℕ → Float) (label : ℕ → ℕ) (m l c : ℕ) → ((i : ℕ) → i < m → x i c ≡ y i c) → mean x label m l c ≡ mean y label m l c
mean_agree x y label m l c e =
    rw (fold_same (in_group label l) (in_group label l) (λ a k. add binary64 a (x k c)) (λ a k. add binary64 a (y k c)) zero64 m (λ k q. refl) (λ a k q. ap (add binary64 a) (e k q)))

-- a group with members has a first one
pub first_in : (label : ℕ → ℕ) (m l : ℕ) {j : ℕ} → j ≡ first_to (in_group label l) m → (group_size label m l ≡ 0 → ⊥) → (j < m) × (in_group label l j ≡ true)
first_in label m l {j} e some =
    let below : first_to (in_group label l) m < m =
    by_cases (dec_lt (first_to (in_group label l) m) m) (λ h. h)
    (λ h. absurd (some (fold_none (in_group label l) (λ n k. n + 1) 0 m (first-none (in_group label l) m (omega arith))))) in
    rw e (below, first_holds (in_group label l) m below)
