-- A function of the choice is the choice of its values.
use Prim.Native.Nat.{ℕ}
use mathlib.Core.Path.{◌≡◌, refl, ◌∙◌, ap}
use mathlib.Core.Bool.{Bool, true, false, cond}
use mathlib.Core.List.{List}
use denote.Ref.{Bor}
use lib.ListN.{length}
use lib.Ieee.{Float, lt}
use Rattle.choice.specs.Choice.{chosen}

by_bool : {A B : Type 0} (f : A → B) (t : Bool) (a b : A) → f (cond t a b) ≡ cond t (f a) (f b)
by_bool f true a b = refl
by_bool f false a b = refl

pub chosen_ap : {A B : Type 0} (f : A → B) (newMean oldMean : Float) (old new : A) → f (chosen newMean oldMean old new) ≡ chosen newMean oldMean (f old) (f new)
chosen_ap f newMean oldMean old new = by_bool f (lt oldMean newMean) new old

same_bool : {A : Type 0} (t : Bool) (a : A) → cond t a a ≡ a
same_bool true a = refl
same_bool false a = refl

-- both are the same
pub chosen_same : {A : Type 0} (newMean oldMean : Float) (a : A) → chosen newMean oldMean a a ≡ a
chosen_same newMean oldMean a = same_bool (lt oldMean newMean) a

-- the list that the choice hands back
module _ (new old : Float) (a b : Bor (List ℕ)) {r : Bor (List ℕ)} (e : r ≡ chosen new old a b) where
  pub kept_list : r.now ≡ chosen new old a.now b.now
  kept_list = ap (λ (x : Bor (List ℕ)). x.now) e ∙ chosen_ap (λ (x : Bor (List ℕ)). x.now) new old a b

  pub kept_length : {k : ℕ} → length a.now ≡ k → length b.now ≡ k → length r.now ≡ k
  kept_length {k} la lb = ap length kept_list ∙ chosen_ap (λ (x : List ℕ). length x) new old a.now b.now ∙ rw (la, lb) (chosen_same new old k)
