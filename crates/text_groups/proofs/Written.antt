-- The text of a grouping, by the label of each name.
use Prim.Native.Nat.{ℕ, ◌≤◌}
use mathlib.Core.Path.{◌≡◌, refl, ◌∙◌, ap}
use mathlib.Core.List.{List}
use borrow.Author.Tests.{eq-eqb, le-leb}
use lib.ListN.{length}
use lib.Ieee.{Float}
use Rattle.lists.specs.Lists.{listed}
use Rattle.lists.proofs.Listed.{listed_length}
use Rattle.text_answer.specs.Answer.{grouped_text, grouping_fits, refusal_fits, Writing, written_of}

-- a grouping of at most 12 names, with as many scores, is written wherever a refusal is
pub grouping_written : (f : ℕ → ℕ) (groups draws n : ℕ) (labels : List ℕ) (scores : List Float) (out : List ℕ) {w : Writing}
    → w ≡ written_of (grouping_fits labels scores out) (grouped_text groups draws labels scores) out → labels ≡ listed f n → n ≤ 12 → length scores ≡ n
    → w ≡ written_of (refusal_fits out) (grouped_text groups draws (listed f n) scores) out
grouping_written f groups draws n labels scores out e h few long =
    let k : length labels ≡ n = listed_length f n h in
    e ∙ rw (k, long, le-leb n 12 few, eq-eqb n n refl) (ap (λ (x : List ℕ). written_of (refusal_fits out) (grouped_text groups draws x scores) out) h)
