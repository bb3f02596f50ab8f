-- One group more, and the scores after every group.
use Prim.Native.Nat.{ℕ, ◌+◌, ◌-◌, ◌<◌, ◌≤◌}
use mathlib.Core.Path.{◌≡◌, refl, sym, ◌∙◌, ap}
use mathlib.Core.Bool.{Bool, true, false, cond}
use mathlib.Core.List.{List}
use mathlib.Core.Logic.{by_cases}
use native.Mathlib.Omega.{arith}
use native.Mathlib.Decide.{ℕ_discrete, dec_lt}
use borrow.Author.Tests.{eq-eqb, ne_eqb, lt-ltb, le-ltb}
use lib.Dec.{eqb, ltb}
use lib.ListN.{length, replicate}
use lib.Ieee.{Float, nan, inf, div, binary64}
use Rattle.lists.specs.Lists.{listed, cells, numbers}
use Rattle.lists.specs.Sums.{zero64, counted, group_size, lesser}
use Rattle.lists.proofs.Listed.{listed_same, listed_const, listed_length, get_d_listed}
use Rattle.lists.proofs.Sums.{fold_none}
use Rattle.silhouette_scores.specs.Scores.{member, group_sum, group_count, least, score_of, score_from, silhouette}
use Rattle.silhouette_scores.specs.Groups.{distance, at_members, mark_of, own_mean, lone_below, least_below, Midway, scores_across}
use Rattle.silhouette_scores.proofs.Members.{size_in, size_out}
use Rattle.silhouette_scores.proofs.Least.{least_own, least_none, least_more, least_beyond, least_number, nan_over, lesser_nan, low_over, lesser_low, low_lesser, score_low}

above : (x l : ℕ) → (x ≡ l → ⊥) → (x < l → ⊥) → l + 1 ≤ x
above x l h q = by_cases (dec_lt l x) (λ r. omega arith) (λ r. let e : x ≡ l = omega arith in absurd (h e))

next_below : (x l : ℕ) → (x ≡ l → ⊥) → ltb x l ≡ ltb x (l + 1)
next_below x l h =
    by_cases (dec_lt x l)
    (λ q. lt-ltb x l q ∙ sym (lt-ltb x (l + 1) (omega arith)))
    (λ q. le-ltb x l (omega arith) ∙ sym (le-ltb x (l + 1) (above x l h q)))

apart : (x l : ℕ) → (x ≡ l → ⊥) → x < l + 1 → x < l
apart x l h q = by_cases (dec_lt x l) (λ r. r) (λ r. let e : x ≡ l = omega arith in absurd (h e))

one_fewer : (x : ℕ) → eqb (x + 1) 1 ≡ eqb x 0
one_fewer x =
    by_cases (ℕ_discrete x 0)
    (λ e. eq-eqb (x + 1) 1 (omega arith) ∙ sym (eq-eqb x 0 e))
    (λ h. ne_eqb (x + 1) 1 (λ q. h (omega arith)) ∙ sym (ne_eqb x 0 h))

-- Groups by rising label.
module _ (across : List Float) (labels : List ℕ) where
  abbrev n : ℕ
  n = length labels

  abbrev name : ℕ → ℕ
  name = numbers labels

  abbrev sum_of : ℕ → ℕ → Float
  sum_of i = group_sum (distance across n i) name n i

  abbrev count_of : ℕ → ℕ → ℕ
  count_of i = group_count name n i

  pub midway_none : {scores own : List Float} → scores ≡ replicate n (inf false) → length own ≡ n → Midway across labels 0 scores own
  unfolding least
  midway_none e h = record {
    leasts = e ∙ sym (listed_const (inf false) n) ∙ listed_same nan (λ i. inf false) (least_below across labels 0) n (λ i q. rw (le-ltb (name i) 0 (omega arith)));
    means = λ i q z. absurd (omega arith);
    means_length = h;
  }

  module _ (l : ℕ) {scores own : List Float} (before : Midway across labels l scores own) where
    pub midway_length : length scores ≡ n
    midway_length = listed_length (least_below across labels l) n before.leasts

    -- a group with no member changes nothing
    pub midway_skip : (count : ℕ) → count ≡ group_size name n l → count ≡ 0 → Midway across labels (l + 1) scores own
    midway_skip count c z =
        let none : group_size name n l ≡ 0 = sym c ∙ z in
        let outside : (i : ℕ) → i < n → name i ≡ l → ⊥ = λ i q e. omega (arith, size_in name i l n e q) in
        record {
          leasts = before.leasts ∙ listed_same nan (least_below across labels l) (least_below across labels (l + 1)) n
              (λ i q. rw (next_below (name i) l (outside i q), least_none (sum_of i) (count_of i) (name i) l (size_out name i l n (outside i q) ∙ none)));
          means = λ i q b. before.means i q (apart (name i) l (outside i q) b);
          means_length = before.means_length;
        }

    -- a group with members
    pub midway_more : (count : ℕ) {sums marked scores' own' : List Float} → count ≡ group_size name n l → (count ≡ 0 → ⊥) → sums ≡ listed (λ i. sum_of i l) n
        → own' ≡ listed (at_members name l (λ i. div binary64 (cells sums i) (counted (count - 1))) (cells own)) n
        → marked ≡ listed (at_members name l (λ i. mark_of count) (cells sums)) n
        → scores' ≡ listed (λ i. lesser (div binary64 (cells marked i) (counted count)) (cells scores i)) (length scores)
        → Midway across labels (l + 1) scores' own'
    midway_more count {sums} {marked} {scores'} {own'} c z s o k g =
        record {
          leasts = g ∙ ap (listed kept) midway_length ∙ listed_same nan kept (least_below across labels (l + 1)) n least_step;
          means = mean_step;
          means_length = listed_length (at_members name l (λ i. div binary64 (cells sums i) (counted (count - 1))) (cells own)) n o;
        }
      where
        kept : ℕ → Float
        kept i = lesser (div binary64 (cells marked i) (counted count)) (cells scores i)

        mark_at : (i : ℕ) → i < n → cells marked i ≡ at_members name l (λ i. mark_of count) (cells sums) i
        mark_at i q = ap (λ (x : List Float). cells x i) k ∙ get_d_listed (at_members name l (λ i. mark_of count) (cells sums)) n i nan q

        sum_at : (i : ℕ) → i < n → cells sums i ≡ sum_of i l
        sum_at i q = ap (λ (x : List Float). cells x i) s ∙ get_d_listed (λ i. sum_of i l) n i nan q

        score_at_lem : (i : ℕ) → i < n → cells scores i ≡ least_below across labels l i
        score_at_lem i q = ap (λ (x : List Float). cells x i) before.leasts ∙ get_d_listed (least_below across labels l) n i nan q

        others : (i : ℕ) → i < n → name i ≡ l → count ≡ count_of i (name i) + 1
        others i q e = c ∙ ap (λ (x : ℕ). group_size name n x) (sym e) ∙ size_in name i (name i) n refl q

        own_step : (i : ℕ) → lesser (div binary64 (mark_of count) (counted count)) (least (sum_of i) (count_of i) (name i) l) ≡ cond (eqb count 1) (inf true) (least (sum_of i) (count_of i) (name i) l)
        own_step i =
            by_cases (ℕ_discrete count 1)
            (λ e. rw (eq-eqb count 1 e, low_over count e) (lesser_low (least (sum_of i) (count_of i) (name i) l) (least_number (sum_of i) (count_of i) (name i) l)))
            (λ h. rw (ne_eqb count 1 h, nan_over (counted count)) (lesser_nan (least (sum_of i) (count_of i) (name i) l)))

        within : (i : ℕ) → i < n → name i ≡ l → kept i ≡ least_below across labels (l + 1) i
        within i q e =
            let last : eqb count 1 ≡ eqb (count_of i (name i)) 0 = ap (λ (x : ℕ). eqb x 1) (others i q e) ∙ one_fewer (count_of i (name i)) in
            let least_at : cells scores i ≡ least (sum_of i) (count_of i) (name i) l = score_at_lem i q ∙ rw (le-ltb (name i) l (omega arith)) in
            let mark : cells marked i ≡ mark_of count = mark_at i q ∙ rw (eq-eqb (name i) l e) in
            ap (λ (x : Float). lesser (div binary64 x (counted count)) (cells scores i)) mark
            ∙ ap (λ (x : Float). lesser (div binary64 (mark_of count) (counted count)) x) least_at
            ∙ own_step i
            ∙ rw (last, lt-ltb (name i) (l + 1) (omega arith), least_own (sum_of i) (count_of i) (name i) l (sym e))

        by_mark : (t : Bool) (x y : Float) → lesser x (cond t (inf true) y) ≡ cond t (inf true) (lesser x y)
        by_mark true x y = low_lesser x
        by_mark false x y = refl

        outside : (i : ℕ) → i < n → (name i ≡ l → ⊥) → kept i ≡ least_below across labels (l + 1) i
        outside i q h =
            let members : count ≡ count_of i l = c ∙ sym (size_out name i l n h) in
            let sum : cells marked i ≡ sum_of i l = mark_at i q ∙ rw (ne_eqb (name i) l h) (sum_at i q) in
            ap (λ (x : Float). lesser (div binary64 x (counted count)) (cells scores i)) sum
            ∙ rw (score_at_lem i q, members, ← next_below (name i) l h, ← least_more (sum_of i) (count_of i) (name i) l (λ e. h (sym e)) (λ e. z (members ∙ e)))
            (by_mark (lone_below labels l i) (div binary64 (sum_of i l) (counted (count_of i l))) (least (sum_of i) (count_of i) (name i) l))

        least_step : (i : ℕ) → i < n → kept i ≡ least_below across labels (l + 1) i
        least_step i q = by_cases (ℕ_discrete (name i) l) (within i q) (outside i q)

        mean_step : (i : ℕ) → i < n → name i < l + 1 → cells own' i ≡ own_mean across labels i
        mean_step i q b =
            ap (λ (x : List Float). cells x i) o ∙ get_d_listed (at_members name l (λ i. div binary64 (cells sums i) (counted (count - 1))) (cells own)) n i nan q
            ∙ by_cases (ℕ_discrete (name i) l)
            (λ e.
            let fewer : count - 1 ≡ count_of i (name i) = omega (arith, others i q e) in
            rw (eq-eqb (name i) l e, sum_at i q, fewer) (ap (λ (x : ℕ). div binary64 (sum_of i x) (counted (count_of i (name i)))) (sym e)))
            (λ h. rw (ne_eqb (name i) l h) (before.means i q (apart (name i) l h b)))

  by_lone : (t : Bool) (a b : Float) → score_of a (cond t (inf true) b) ≡ cond t zero64 (score_of a b)
  by_lone true a b = score_low a
  by_lone false a b = refl

  -- each label is below k: every group has been passed
  pub scores_done : (k : ℕ) {scores own out : List Float} → Midway across labels k scores own → ((i : ℕ) → i < n → name i < k) → k ≤ n
      → out ≡ listed (λ i. score_of (cells own i) (cells scores i)) (length scores) → out ≡ scores_across across labels
  unfolding score_from
  scores_done k {scores} {own} w below h e =
      e ∙ ap (listed (λ i. score_of (cells own i) (cells scores i))) (listed_length (least_below across labels k) n w.leasts)
      ∙ listed_same nan (λ i. score_of (cells own i) (cells scores i)) (λ i. silhouette (distance across n i) name n i) n score
    where
      nobody : (i l : ℕ) → k ≤ l → count_of i l ≡ 0
      nobody i l q = fold_none (member name i l) (λ c j. c + 1) 0 n (λ j b. rw (ne_eqb (name j) l (λ e. omega (arith, below j b))))

      score : (i : ℕ) → i < n → score_of (cells own i) (cells scores i) ≡ silhouette (distance across n i) name n i
      score i q =
          let least_at : cells scores i ≡ least_below across labels k i = ap (λ (x : List Float). cells x i) w.leasts ∙ get_d_listed (least_below across labels k) n i nan q in
          rw (w.means i q (below i q), least_at, lt-ltb (name i) k (below i q), least_beyond (sum_of i) (count_of i) (name i) k n (nobody i) h)
          (by_lone (eqb (count_of i (name i)) 0) (own_mean across labels i) (least (sum_of i) (count_of i) (name i) n))
