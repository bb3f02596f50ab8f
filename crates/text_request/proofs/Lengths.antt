-- A text in the layout is short: a longer one is a fault. Assumes nothing.
use Prim.Native.Nat.{◌*◌, ◌+◌, ◌<◌, ◌^◌, ◌≤◌, suc, ℕ}
use mathlib.Core.Path.{◌≡◌, ap, refl}
use mathlib.Core.List.{List, ◌++◌, ◌∷◌}
use native.Mathlib.Omega.{arith}
use Rattle.std.specs.Prelude.{None, Option, Some}
use lib.ListN.{length, length-append}
use Rattle.text_digits.specs.Digits.{newline, numeral, space, width_of}
use Rattle.text_digits.specs.Lines.{line_of}
use Rattle.text_digits.proofs.Numerals.{length_digits}
use Rattle.text_digits.proofs.Places.{places_short, width_ten}
use Rattle.text_digits.proofs.Lines.{length_line}
use Rattle.text_layout.specs.Layout.{cell_form, draw_form, layout_of, value_of}
use Rattle.text_request.specs.Written.{request_text}
use Rattle.text_request.specs.Claim.{Limits}
use Rattle.text_layout.specs.declared.Layout.{Layout}
use Rattle.text_layout.proofs.Found.{few_cells}
use Rattle.text_request.proofs.Sound.{sound, sound_limits, width_at}

length_decimal : (j v : ℕ) → v < 10 ^ suc j → j < 20 → length (numeral 10 v) ≤ suc j
length_decimal j v h l = rw (length_digits 10 (width_of 10 v) v, width_ten v) (places_short 20 j v h l)

five : (a b c d e : List ℕ) (x y z : ℕ)
    → length (a ++ (x ∷ (b ++ (y ∷ (c ++ (z ∷ (d ++ e))))))) ≡ length a + length b + length c + length d + length e + 3
five a b c d e x y z =
    rw (length-append a (x ∷ (b ++ (y ∷ (c ++ (z ∷ (d ++ e)))))), length-append b (y ∷ (c ++ (z ∷ (d ++ e)))), length-append c (z ∷ (d ++ e)), length-append d e)
    (omega arith)

request_length : (n r d : ℕ) (cell width draw : ℕ → ℕ) → Limits n r d cell width draw → length (request_text n r d cell width draw) ≤ 22990
unfolding request_text
request_length n r d cell width draw h =
    let names = h.names in
    let count = h.count in
    let i = length_decimal 1 n (omega arith) (omega arith) in
    let j = length_decimal 9 r (omega (arith, h.repeats)) (omega arith) in
    let k = length_decimal 3 d (omega arith) (omega arith) in
    let l = length_line 16 (λ t. 16) cell (n * n) 16 (λ t y. omega arith) in
    let m = length_line 10 width draw d 19 h.most in
    rw (five (numeral 10 n) (numeral 10 r) (numeral 10 d) (line_of 16 (λ t. 16) cell (n * n)) (line_of 10 width draw d) space space newline)
    (omega (arith, few_cells n names))

long : (s : List ℕ) (l : Option Layout) → layout_of s ≡ l → 22990 < length s → l ≡ None
long s (Some l) e h =
    let i = ap length (sound s l.names l.repeats l.draws l.cells_at l.draws_at e) in
    let j = request_length l.names l.repeats l.draws (value_of cell_form s l.cells_at) (width_at draw_form s l.draws_at) (value_of draw_form s l.draws_at) (sound_limits s l.names l.repeats l.draws l.cells_at l.draws_at e) in
    absurd (omega arith)
long s None e h = refl

-- so a program that looks at the first 22,991 bytes of a text that is longer answers as for the whole
pub too_long : (s : List ℕ) → 22990 < length s → layout_of s ≡ None
too_long s h = long s (layout_of s) refl h
