-- A test of each element of a list is a test at each place.
use Rattle.std.proofs.Common.{◌≡◌, ℕ, zero, suc, Bool, true, false, ◌&&◌, List, [], ◌∷◌, get_or, length, refl, sym, ap, ◌∙◌}
use Rattle.std.specs.List.{list_all}
use Rattle.lists.specs.Sums.{all_to}

and_assoc : (a b c : Bool) → (a && b) && c ≡ a && (b && c)
and_assoc true b c = refl
and_assoc false b c = refl

and_true : (a : Bool) → a && true ≡ a
and_true true = refl
and_true false = refl

-- the first place, then those behind it
all_first : (p : ℕ → Bool) (n : ℕ) → all_to p (suc n) ≡ p 0 && all_to (λ j. p (suc j)) n
unfolding all_to
all_first p zero = sym (and_true (p 0))
all_first p (suc n) = ap (λ b. b && p (suc n)) (all_first p n) ∙ and_assoc (p 0) (all_to (λ j. p (suc j)) n) (p (suc n))

pub all_of : {A : Type 0} (p : A → Bool) (d : A) (xs : List A) → list_all p xs ≡ all_to (λ j. p (get_or xs j d)) (length xs)
unfolding all_to
all_of p d [] = refl
all_of p d (x ∷ xs) = ap (λ b. p x && b) (all_of p d xs) ∙ sym (all_first (λ j. p (get_or (x ∷ xs) j d)) (length xs))
