-- What the two calls answer and leave, for those who call them: from the equation of the contract, where the lists fit.
use Prim.Native.Nat.{ℕ, ◌+◌, ◌*◌, ◌≤◌}
use mathlib.Core.Path.{◌≡◌, refl, ap, ◌∙◌}
use mathlib.Core.Bool.{Bool, true, false}
use mathlib.Core.List.{List, ◌++◌, map}
use native.Mathlib.Nat.{zero-add}
use native.Mathlib.Omega.{arith}
use borrow.Author.Tests.{le-leb, eq-eqb, leb-true, eqb-true}
use lib.Ieee.{Float}
use lib.ListN.{length, take, drop, length-append}
use lib.Seq.{sets-eq, take_at}
use Rattle.lists.proofs.Tests.{both}
use Rattle.refusals.specs.Table.{Refusal, none, refused}
use Rattle.bits.specs.Bits.{bits_of}
use Rattle.text_writing.specs.Stores.{Wrote}
use Rattle.text_answer.specs.Answer.{line_text, sizes_text, grouped_text, Writing, written_of, room, most_names, grouping_fits, refusal_fits}
use Rattle.text_writing.proofs.Stores.{then, wrote_as, wrote_length}
use Rattle.text_answer.proofs.Lines.{length_text}
use Rattle.text_answer.proofs.Texts.{length_sizes, length_grouped, grouped_is}

-- a text that was stored from the front on, in a list that has room for it
pub written : {d d' w : List ℕ} {r : ℕ} (fits : Bool) → fits ≡ true → Wrote d d' 0 w r → length w ≤ length d
    → ◌≡◌ {A = Writing} (record { refused = none; count = r; out = d' }) (written_of fits w d)
unfolding written_of
written {d} {d'} {w} {r} fits e h l =
    let i : r ≡ length w = h.end ∙ zero-add (length w) in
    let j : d' ≡ w ++ drop (length w) d = h.stored ∙ sets-eq w d 0 (rw zero-add l) ∙ rw zero-add in
    rw (e, i, j)

-- nothing was stored
pub not_written : (fits : Bool) (w d : List ℕ) → fits ≡ false → ◌≡◌ {A = Writing} (record { refused = refused 6; count = 0; out = d }) (written_of fits w d)
unfolding written_of
not_written fits w d e = rw e

-- the lists of a call fit
pub grouping_fits_lem : (labels : List ℕ) (scores : List Float) (out : List ℕ) → length labels ≤ most_names → length scores ≡ length labels → room ≤ length out
    → grouping_fits labels scores out ≡ true
grouping_fits_lem labels scores out few same l = rw (le-leb (length labels) most_names few, eq-eqb (length scores) (length labels) same, le-leb room (length out) l)

pub refusal_fits_lem : (out : List ℕ) → room ≤ length out → refusal_fits out ≡ true
refusal_fits_lem out l = le-leb room (length out) l

-- and what it says that they do
pub record Fitting (labels : List ℕ) (scores : List Float) (out : List ℕ) : Type 0 where
  pub few : length labels ≤ most_names
  pub same : length scores ≡ length labels
  pub enough : room ≤ length out

pub fitting : (labels : List ℕ) (scores : List Float) (out : List ℕ) → grouping_fits labels scores out ≡ true → Fitting labels scores out
fitting labels scores out h =
    let a = both _ _ h in
    let b = both _ _ a.1 in
    record { few = leb-true _ _ a.0; same = eqb-true _ _ b.0; enough = leb-true _ _ b.1 }

-- the room that is left for the first, the second and the third line
pub sizes_room : (labels : List ℕ) (scores : List Float) (d : List ℕ) → grouping_fits labels scores d ≡ true → 82 ≤ length d
sizes_room labels scores d h =
    let i = (fitting labels scores d h).enough in
    omega arith

pub labels_room : {d d₁ : List ℕ} (labels : List ℕ) (scores : List Float) (g k : ℕ) {p : ℕ} → grouping_fits labels scores d ≡ true
    → Wrote d d₁ 0 (sizes_text (length labels) g k) p → p + 21 * length labels + 1 ≤ length d₁
labels_room {d} {d₁} labels scores g k {p} h x =
    let f = fitting labels scores d h in
    let i = f.enough in
    let j = f.few in
    rw (wrote_length x, x.end) (omega (arith, length_sizes (length labels) g k))

pub scores_room : {d d₁ d₂ : List ℕ} (labels : List ℕ) (scores : List Float) (g k : ℕ) {p q : ℕ} → grouping_fits labels scores d ≡ true
    → Wrote d d₁ 0 (sizes_text (length labels) g k) p → Wrote d₁ d₂ p (line_text 10 labels) q → q + 21 * length scores + 1 ≤ length d₂
scores_room {d} {d₁} {d₂} labels scores g k {p} {q} h x y =
    let f = fitting labels scores d h in
    let i = f.enough in
    let j = f.few in
    rw (f.same, wrote_length y, wrote_length x, y.end, x.end) (omega (arith, length_sizes (length labels) g k, length_text 10 labels))

-- the three lines one behind the other
pub grouping_wrote : {d d₁ d₂ d₃ : List ℕ} (labels : List ℕ) (scores : List Float) (g k : ℕ) {p q r : ℕ} → Wrote d d₁ 0 (sizes_text (length labels) g k) p
    → Wrote d₁ d₂ p (line_text 10 labels) q → Wrote d₂ d₃ q (line_text 16 (map bits_of scores)) r → Wrote d d₃ 0 (grouped_text g k labels scores) r
grouping_wrote labels scores g k x y z = wrote_as _ (then x (then y z)) (grouped_is g k labels scores)

-- the list has room for the whole text
pub grouped_room : (labels : List ℕ) (scores : List Float) (d : List ℕ) (g k : ℕ) → grouping_fits labels scores d ≡ true → length (grouped_text g k labels scores) ≤ length d
grouped_room labels scores d g k h =
    let f = fitting labels scores d h in
    let i = f.enough in
    let j = length_grouped g k labels scores f.few f.same in
    omega arith

-- where the lists fit: the number is 0, the count is the text's length, the text stands in front, and behind it the list is as it was
pub record InFront (n k : ℕ) (new text old : List ℕ) : Type 0 where
  pub number : n ≡ 0
  pub count : k ≡ length text
  pub whole : new ≡ text ++ drop (length text) old
  pub front : take k new ≡ text
  pub within : k ≤ length new

front_of : (n k : ℕ) (new text old : List ℕ) → n ≡ 0 → k ≡ length text → new ≡ text ++ drop (length text) old → InFront n k new text old
front_of n k new text old a b e =
    record {
      number = a;
      count = b;
      whole = e;
      front = rw (b, e) (take_at text (drop (length text) old) (length text) refl);
      within = rw (b, e, length-append text (drop (length text) old)) (omega arith);
    }

pub in_front : (q : Refusal) (k : ℕ) (new : List ℕ) (fits : Bool) (text old : List ℕ)
    → ◌≡◌ {A = Writing} (record { refused = q; count = k; out = new }) (written_of fits text old) → fits ≡ true → InFront q.number k new text old
unfolding written_of
in_front q k new fits text old h e =
    let g = rw e at h in
    front_of q.number k new text old (ap (λ (w : Writing). w.refused.number) g) (ap (λ (w : Writing). w.count) g) (ap (λ (w : Writing). w.out) g)
