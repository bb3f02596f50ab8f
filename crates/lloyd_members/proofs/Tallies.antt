-- The sizes of all groups, and the groups that an item joins or leaves, item by item in a list with a place for each group.
use Prim.Native.Nat.{ℕ, ◌+◌, ◌≤◌, ◌<◌}
use mathlib.Core.Path.{◌≡◌, refl, sym, ap, ◌∙◌}
use mathlib.Core.Bool.{Bool, true, false, not, ◌&&◌, ◌||◌, beq}
use mathlib.Core.List.{List}
use mathlib.Core.Logic.{by_cases}
use native.Mathlib.Omega.{arith}
use native.Mathlib.Decide.{ℕ_discrete}
use native.Mathlib.Numerals.{add-one}
use borrow.Author.Tests.{eq-eqb, ne_eqb, eqb-true, eqb-false}
use lib.Dec.{eqb}
use lib.ListN.{length, set, length-set}
use lib.Seq.{get_or-set_same, get_or-set_other}
use Rattle.lists.specs.Lists.{listed, numbers}
use Rattle.lists.specs.Sums.{all_to, in_group, group_size}
use Rattle.lists.proofs.Sums.{fold_in, fold_out}
use Rattle.lists.proofs.Listed.{get_d_listed, listed_same, listed_set, listed_of}
use Rattle.lists.proofs.Tests.{and-false, and-true, impossible}
use Rattle.lloyd_members.specs.Members.{same_group, moved_mark, mark_at}

-- item i is in none of the k groups, or in one of them
pub size_skip : (label : ℕ → ℕ) (i k : ℕ) → k ≤ label i → listed (group_size label i) k ≡ listed (group_size label (i + 1)) k
size_skip label i k h = listed_same 0 (group_size label i) (group_size label (i + 1)) k (λ l q. sym (fold_out (in_group label l) _ _ i (ne_eqb (label i) l (λ e. absurd (omega arith)))))

pub size_add : (label : ℕ → ℕ) (i k : ℕ) {sizes : List ℕ} → sizes ≡ listed (group_size label i) k → label i < k → set sizes (label i) (numbers sizes (label i) + 1) ≡ listed (group_size label (i + 1)) k
size_add label i k {sizes} e h =
    let v : numbers sizes (label i) ≡ group_size label i (label i) = ap (λ (l : List ℕ). numbers l (label i)) e ∙ get_d_listed (group_size label i) k (label i) 0 h in
    rw (v, e)
    (listed_set 0 (group_size label i) (group_size label (i + 1)) k (label i) (group_size label i (label i) + 1) h
    (sym (fold_in (in_group label (label i)) _ _ i (eq-eqb (label i) (label i) refl)))
    (λ l q d. sym (fold_out (in_group label l) _ _ i (ne_eqb (label i) l (λ c. d (sym c))))))

-- an item that stays in its group
beq_same : (x : Bool) → beq x x ≡ true
beq_same true = refl
beq_same false = refl

module _ (old labels : List ℕ) (i k : ℕ) where
  -- the test of item i for group l
  abbrev stays : ℕ → Bool
  stays l = beq (eqb (numbers old i) l) (eqb (numbers labels i) l)

  same_next : (l : ℕ) → same_group old labels (i + 1) l ≡ (same_group old labels i l && stays l)
  unfolding all_to
  same_next l = rw add-one refl

  pub mark_skip : numbers old i ≡ numbers labels i → listed (moved_mark old labels i) k ≡ listed (moved_mark old labels (i + 1)) k
  mark_skip e =
      listed_same false (moved_mark old labels i) (moved_mark old labels (i + 1)) k
      (λ l q. rw (same_next l, e, beq_same (eqb (numbers labels i) l), and-true (same_group old labels i l)))

  -- the marks of the two groups that an item leaves and joins
  both : (l : ℕ) (p q s : Bool) → eqb l (numbers labels i) ≡ p → eqb l (numbers old i) ≡ q → (numbers old i ≡ numbers labels i → ⊥) → p || (q || not s) ≡ not (s && stays l)
  both l true q s a b d =
      let x : l ≡ numbers labels i = eqb-true l (numbers labels i) a in
      rw (eq-eqb (numbers labels i) l (sym x), ne_eqb (numbers old i) l (λ e. d (e ∙ x)), and-false s)
  both l false true s a b d =
      let x : l ≡ numbers old i = eqb-true l (numbers old i) b in
      rw (eq-eqb (numbers old i) l (sym x), ne_eqb (numbers labels i) l (λ e. d (sym x ∙ sym e)), and-false s)
  both l false false s a b d =
      rw (ne_eqb (numbers old i) l (λ e. eqb-false l (numbers old i) b (sym e)), ne_eqb (numbers labels i) l (λ e. eqb-false l (numbers labels i) a (sym e)), and-true s)

  pub mark_both : {marks : List Bool} → marks ≡ listed (moved_mark old labels i) k → (numbers old i ≡ numbers labels i → ⊥) → {first second : List Bool}
      → first ≡ listed (λ j. eqb j (numbers old i) || mark_at marks j) k → second ≡ listed (λ j. eqb j (numbers labels i) || mark_at first j) k
      → second ≡ listed (moved_mark old labels (i + 1)) k
  mark_both {marks} e d {first} f g =
      g ∙ listed_same false (λ j. eqb j (numbers labels i) || mark_at first j) (moved_mark old labels (i + 1)) k
      (λ l q.
      let v : mark_at marks l ≡ moved_mark old labels i l = ap (λ (x : List Bool). mark_at x l) e ∙ get_d_listed (moved_mark old labels i) k l false q in
      let w : mark_at first l ≡ (eqb l (numbers old i) || mark_at marks l) = ap (λ (x : List Bool). mark_at x l) f ∙ get_d_listed (λ j. eqb j (numbers old i) || mark_at marks j) k l false q in
      rw (w, v, same_next l) (both l (eqb l (numbers labels i)) (eqb l (numbers old i)) (same_group old labels i l) refl refl d))

-- a mark at place l of a list, and where there is no such place
pub marked : (xs : List Bool) (l : ℕ) → l < length xs → set xs l true ≡ listed (λ j. eqb j l || mark_at xs j) (length xs)
marked xs l h =
    listed_of false (λ j. eqb j l || mark_at xs j) (length xs) (set xs l true) (length-set xs l true)
    (λ j q. by_cases (ℕ_discrete j l)
    (λ e. rw e (get_or-set_same xs l true false h ∙ rw (eq-eqb l l refl)))
    (λ d. get_or-set_other xs l j true false d ∙ rw (ne_eqb j l d)))

pub not_marked : (xs : List Bool) (l : ℕ) → length xs ≤ l → xs ≡ listed (λ j. eqb j l || mark_at xs j) (length xs)
not_marked xs l h = listed_of false (λ j. eqb j l || mark_at xs j) (length xs) xs refl (λ j q. rw (ne_eqb j l (λ e. absurd (omega arith))) refl)

-- a group with members and without a mark has the same members as before
unmarked : (z s : Bool) → not z && not (not s) ≡ true → (z ≡ false) × (s ≡ true)
unmarked true s h = absurd (impossible h)
unmarked false true h = (refl, refl)
unmarked false false h = absurd (impossible h)

pub not_moved : (old labels : List ℕ) (m l : ℕ) {n : ℕ} {mark : Bool} → n ≡ group_size (numbers labels) m l → mark ≡ moved_mark old labels m l → not (eqb n 0) && not mark ≡ true
    → (group_size (numbers labels) m l ≡ 0 → ⊥) × (same_group old labels m l ≡ true)
not_moved old labels m l {n} {mark} e f h =
    let g : not (eqb (group_size (numbers labels) m l) 0) && not (moved_mark old labels m l) ≡ true = rw (← e, ← f) h in
    let u = unmarked (eqb (group_size (numbers labels) m l) 0) (same_group old labels m l) g in
    (eqb-false (group_size (numbers labels) m l) 0 u.0, u.1)
