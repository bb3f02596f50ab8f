-- One law for each step of a loop, that the places found are below the count, and labels compared as whole lists.
use Prim.Native.Nat.{◌+◌, ◌<◌, ◌≤◌, suc, zero, ℕ}
use mathlib.Core.Path.{◌∙◌, ◌≡◌, ap, refl, sym}
use mathlib.Core.Bool.{Bool, ◌&&◌, cond, false, true}
use mathlib.Core.List.{List, [], ◌∷◌}
use native.Mathlib.Omega.{arith}
use native.Mathlib.Numerals.{add-one}
use lib.ListN.{length, replicate}
use lib.Dec.{eqb}
use lib.Pointwise.{pointwise}
use lib.Ieee.{Float, fin, inf, lt, nan}
use Rattle.lists.specs.Lists.{cells, listed, numbers}
use Rattle.lists.specs.Sums.{all_to}
use Rattle.lists.proofs.Tests.{and-true}
use Rattle.lists.proofs.Listed.{get_d_listed, listed_const, listed_same}
use Rattle.lloyd_nearest.specs.Nearest.{farther, farthest_to, nearest_to, same_labels}
use Rattle.lloyd_nearest.specs.declared.Best.{Best}

-- the start: no group, and so no distance below +infinity
pub dists_none : (f : ℕ → ℕ → Float) (m : ℕ) {n : ℕ} {ds : List Float} {x : Float} → ds ≡ replicate n x → x ≡ inf false → n ≡ m → ds ≡ listed (λ i. (nearest_to (f i) 0).value) m
unfolding nearest_to
dists_none f m e q h = e ∙ rw (q, h) (sym (listed_const (inf false) m))

pub labels_none : (f : ℕ → ℕ → Float) (m : ℕ) {ls : List ℕ} → ls ≡ replicate m 0 → ls ≡ listed (λ i. (nearest_to (f i) 0).at) m
unfolding nearest_to
labels_none f m e = e ∙ sym (listed_const 0 m)

-- one more group to be nearest to
value_of : (b : Bool) (x : Float) (l : ℕ) (o : Best) → cond b x o.value ≡ (cond b (record { value = x; at = l }) o).value
value_of true x l o = refl
value_of false x l o = refl

at_of : (b : Bool) (x : Float) (l : ℕ) (o : Best) → cond b l o.at ≡ (cond b (record { value = x; at = l }) o).at
at_of true x l o = refl
at_of false x l o = refl

module _ (f : ℕ → ℕ → Float) (l n : ℕ) {ds : List Float} (d : ds ≡ listed (λ i. (nearest_to (f i) l).value) n) where
  own : (i : ℕ) → i < n → cells ds i ≡ (nearest_to (f i) l).value
  own i h = ap (λ z. cells z i) d ∙ get_d_listed (λ i. (nearest_to (f i) l).value) n i nan h

  pub dists_more : listed (λ i. cond (lt (f i l) (cells ds i)) (f i l) (cells ds i)) n ≡ listed (λ i. (nearest_to (f i) (l + 1)).value) n
  unfolding nearest_to
  dists_more =
      listed_same nan (λ i. cond (lt (f i l) (cells ds i)) (f i l) (cells ds i)) (λ i. (nearest_to (f i) (l + 1)).value) n
      (λ i h. rw (add-one, own i h) (value_of (lt (f i l) (nearest_to (f i) l).value) (f i l) l (nearest_to (f i) l)))

  pub labels_more : {ls : List ℕ} → ls ≡ listed (λ i. (nearest_to (f i) l).at) n → listed (λ i. cond (lt (f i l) (cells ds i)) l (numbers ls i)) n ≡ listed (λ i. (nearest_to (f i) (l + 1)).at) n
  unfolding nearest_to
  labels_more {ls} e =
      listed_same 0 (λ i. cond (lt (f i l) (cells ds i)) l (numbers ls i)) (λ i. (nearest_to (f i) (l + 1)).at) n
      (λ i h.
      rw (add-one, own i h, ap (λ z. numbers z i) e ∙ get_d_listed (λ i. (nearest_to (f i) l).at) n i 0 h)
      (at_of (lt (f i l) (nearest_to (f i) l).value) (f i l) l (nearest_to (f i) l)))

-- the nearest, of distances that agree below k
pub nearest-same : (f g : ℕ → Float) (k : ℕ) → ((l : ℕ) → l < k → f l ≡ g l) → nearest_to f k ≡ nearest_to g k
unfolding nearest_to
nearest-same f g zero h = refl
nearest-same f g (suc k) h = rw (nearest-same f g k (λ l q. h l (omega arith)), h k (omega arith))

-- one more item to be the farthest, none being taken
pub farthest_more : (f : ℕ → Float) (i : ℕ) {b : Best} → b ≡ farthest_to (λ k. false) f i → farther b (f i) i ≡ farthest_to (λ k. false) f (i + 1)
unfolding farthest_to
farthest_more f i e = rw (add-one, e)

-- the farthest, of distances that agree below n
pub farthest_same : (t : ℕ → Bool) (f g : ℕ → Float) (n : ℕ) → ((i : ℕ) → i < n → f i ≡ g i) → farthest_to t f n ≡ farthest_to t g n
unfolding farthest_to
farthest_same t f g zero h = refl
farthest_same t f g (suc n) h = rw (farthest_same t f g n (λ i q. h i (omega arith)), h n (omega arith))

cond_below : (a : Bool) (x : Float) (i m : ℕ) (b : Best) → i < m → b.at < m → (cond a (record { value = x; at = i }) b).at < m
cond_below true x i m b p q = p
cond_below false x i m b p q = q

keep_below : (a : Bool) (x y : Best) (m : ℕ) → x.at < m → y.at < m → (cond a x y).at < m
keep_below true x y m p q = p
keep_below false x y m p q = q

pub farthest_below : (taken : ℕ → Bool) (f : ℕ → Float) (n m : ℕ) → n ≤ m → 0 < m → (farthest_to taken f n).at < m
unfolding farthest_to
farthest_below taken f zero m h s = s
farthest_below taken f (suc n) m h s =
    keep_below (taken n) (farthest_to taken f n) (farther (farthest_to taken f n) (f n) n) m (farthest_below taken f n m (omega arith) s)
    (cond_below (lt (farthest_to taken f n).value (f n)) (f n) n m (farthest_to taken f n) (omega arith) (farthest_below taken f n m (omega arith) s))

pub nearest_below : (f : ℕ → Float) (n k : ℕ) → n ≤ k → 0 < k → (nearest_to f n).at < k
unfolding nearest_to
nearest_below f zero k h s = s
nearest_below f (suc n) k h s =
    cond_below (lt (f n) (nearest_to f n).value) (f n) n k (nearest_to f n) (omega arith) (nearest_below f n k (omega arith) s)

-- nothing is farther than -infinity
none_farther : (x : Float) → lt x (inf true) ≡ false
unfolding lt
none_farther nan = refl
none_farther (inf true) = refl
none_farther (inf false) = refl
none_farther (fin s n e) = refl

-- so a taken item may stand among the others with that distance
module _ (t : ℕ → Bool) (f : ℕ → Float) where
  abbrev pub untaken : ℕ → Float
  untaken i = cond (t i) (inf true) (f i)

  one_left : (b : Bool) (o : Best) (x : Float) (i : ℕ) → farther o (cond b (inf true) x) i ≡ cond b o (farther o x i)
  one_left true o x i = rw (none_farther o.value)
  one_left false o x i = refl

  pub farthest_left : (n : ℕ) → farthest_to (λ i. false) untaken n ≡ farthest_to t f n
  unfolding farthest_to
  farthest_left zero = refl
  farthest_left (suc n) = rw (farthest_left n) (one_left (t n) (farthest_to t f n) (f n) n)

-- a test of each place, split behind the first
and_assoc : (p q r : Bool) → (p && q) && r ≡ p && (q && r)
and_assoc true q r = refl
and_assoc false q r = refl

all_front : (p : ℕ → Bool) (n : ℕ) → all_to p (suc n) ≡ p 0 && all_to (λ k. p (suc k)) n
unfolding all_to
all_front p zero = sym (and-true (p 0))
all_front p (suc n) = rw (all_front p n) (and_assoc (p 0) (all_to (λ k. p (suc k)) n) (p (suc n)))

-- labels that are compared as whole lists
pub labels_alike : (a b : List ℕ) → length a ≡ length b → pointwise eqb a b ≡ same_labels a b (length b)
unfolding all_to
labels_alike [] [] e = refl
labels_alike [] (y ∷ ys) e = absurd (omega arith)
labels_alike (x ∷ xs) [] e = absurd (omega arith)
labels_alike (x ∷ xs) (y ∷ ys) e =
    ap (λ (t : Bool). eqb x y && t) (labels_alike xs ys (omega arith)) ∙ sym (all_front (λ i. eqb (numbers (x ∷ xs) i) (numbers (y ∷ ys) i)) (length ys))
