-- The cases of a text, what a word is as a signed number, and the places of a book that is made in place. Assumes nothing.
use Prim.Native.Nat.{ℕ, zero, suc, ◌+◌, ◌-◌, ◌*◌, ◌≤◌, ◌<◌}
use mathlib.Core.Path.{◌≡◌, refl, sym, ◌∙◌, ap}
use mathlib.Core.Bool.{Bool}
use mathlib.Core.List.{List}
use native.Mathlib.Omega.{arith}
use native.Mathlib.Nat.{mul-le-mul, zero-add}
use borrow.Author.Tests.{lt-ltb, le-ltb, eq-eqb, ne_eqb}
use lib.IntN.{ℤ, pos, negsuc, ◌-ℤ◌}
use mir.Syntax.{w64}
use mir.Val.{SFits, of_z, to_z}
use mir.ValLaws.{to_z-of_z, to_z_pos}
use Rattle.refusals.specs.Table.{Refusal}
use Rattle.intake.specs.Intake.{million, intake_of}
use Rattle.test_intake.specs.declared.Case.{Case}
use Rattle.test_intake.specs.Cases.{signed_of, signed_from, same_answer, right_case, made_cell}

-- a word below 2 ^ 63, and one from there on
pub signed_low : (word : ℕ) → word < 0x8000_0000_0000_0000 → signed_of word ≡ pos word
unfolding signed_of
signed_low word h = rw (lt-ltb word 0x8000_0000_0000_0000 h)

signed_high : (word : ℕ) → 0x8000_0000_0000_0000 ≤ word → signed_of word ≡ negsuc (0xffff_ffff_ffff_ffff - word)
unfolding signed_of
signed_high word h = rw (le-ltb word 0x8000_0000_0000_0000 h)

minus_one : (k : ℕ) → negsuc 0 -ℤ pos k ≡ negsuc k
minus_one zero = refl
minus_one (suc k) = rw zero-add

module _ (word : ℕ) (h : 0x8000_0000_0000_0000 ≤ word) where
  -- -1 less what the word is below 2 ^ 64 - 1: it fits, and is the number
  high_is : negsuc 0 -ℤ to_z w64 (0xffff_ffff_ffff_ffff - word) ≡ negsuc (0xffff_ffff_ffff_ffff - word)
  high_is =
      let l : 0xffff_ffff_ffff_ffff - word < 0x8000_0000_0000_0000 = omega arith in
      ap (λ (z : ℤ). negsuc 0 -ℤ z) (to_z_pos w64 (0xffff_ffff_ffff_ffff - word) l) ∙ minus_one (0xffff_ffff_ffff_ffff - word)

  pub high_fits : SFits w64 (negsuc 0 -ℤ to_z w64 (0xffff_ffff_ffff_ffff - word))
  high_fits = let l : 0xffff_ffff_ffff_ffff - word < 0x8000_0000_0000_0000 = omega arith in rw high_is (record { sfits = l })

  pub high_signed : to_z w64 (of_z w64 (negsuc 0 -ℤ to_z w64 (0xffff_ffff_ffff_ffff - word))) ≡ signed_of word
  high_signed = to_z-of_z w64 (negsuc 0 -ℤ to_z w64 (0xffff_ffff_ffff_ffff - word)) high_fits ∙ high_is ∙ sym (signed_high word h)

-- a book was read from the text, and what it was answered was compared
pub was_read : (text : List ℕ) (at : ℕ) (c : Case) {cells : List ℤ} {q : Refusal} {r : Bool} → cells ≡ signed_from text (at + 3) c.cells → q ≡ intake_of cells c.rows c.cols
    → r ≡ same_answer text c.expected q → r ≡ right_case text at c
unfolding right_case
was_read text at c e h s = s ∙ rw (h, e)

-- a made cell on the diagonal, and elsewhere
pub made_one : (i j : ℕ) → i ≡ j → pos million ≡ made_cell i j
unfolding made_cell
made_one i j e = rw (eq-eqb i j e)

pub made_other : (i j : ℕ) → i ≤ 257 → j ≤ 257 → (i ≡ j → ⊥) → to_z w64 ((i + j) * 1000) ≡ made_cell i j
unfolding made_cell
made_other i j h l e =
    let s : (i + j) * 1000 < 0x8000_0000_0000_0000 = omega arith in
    rw (ne_eqb i j e) (to_z_pos w64 ((i + j) * 1000) s)

-- the cells of a book of at most 257 names
pub book_small : (n : ℕ) → n ≤ 257 → n * n ≤ 66049
book_small n h = omega (arith, mul-le-mul h h)
