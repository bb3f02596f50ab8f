-- Laws of the refusals before the run: that each is for its cause, that there is none exactly within the limits, and that they depend on lengths alone.
use Prim.Native.Nat.{ℕ, ◌*◌, ◌≤◌}
use mathlib.Core.Path.{◌≡◌, refl, sym}
use mathlib.Core.Bool.{Bool, true, false, ◌||◌}
use mathlib.Core.List.{List}
use native.Mathlib.Omega.{arith}
use borrow.Author.Tests.{le-ltb, le-leb, ltb-true, ltb-false, leb-true, eqb-true, eqb-false, eq-eqb, ne_eqb}
use lib.Dec.{eqb, ltb, leb}
use lib.ListN.{length}
use lib.Ieee.{Float}
use Rattle.lists.proofs.Tests.{impossible, both, neither}
use Rattle.refusals.specs.Table.{Refusal, none, refused, whenever, unless, refusal, work_doubles, work_numbers}
use Rattle.refusals.proofs.Laws.{when_none, unless_none, accepted, fits_asked}
use Rattle.onc_checks.specs.Checks.{lists_fit, shape_of}
use Rattle.onc_run.specs.Run.{Lists}
use Rattle.onc.specs.Onc.{shape}
use Rattle.onc.specs.Demands.{Within, Shaped, Limited, Cause, no_repeat, not_square, few_rows, many_rows, many_repeats, cell_count, list_length, AsLong}

-- what holds of the number of a refusal, if it is one
abbrev pub Of : (ℕ → Type 0) → Refusal → Type 0
Of P q = eqb q.number 0 ≡ false → P q.number

module _ (P : ℕ → Type 0) where
  when_of : (test : Bool) (q below : Refusal) → (test ≡ true → P q.number) → (test ≡ false → Of P below) → Of P (whenever test q below)
  unfolding whenever
  when_of true q below h k = λ e. h refl
  when_of false q below h k = k refl

  unless_of : (test : Bool) (q below : Refusal) → (test ≡ false → P q.number) → (test ≡ true → Of P below) → Of P (unless test q below)
  unfolding unless
  unless_of true q below h k = k refl
  unless_of false q below h k = λ e. h refl

  last_of : (q : Refusal) → Of P (whenever (ltb 0 0) q none)
  unfolding whenever
  last_of q e = impossible (sym e)

-- a row that gives no place, above rows that give none
when_place : (test : Bool) (q below : Refusal) → q.place ≡ 0 → below.place ≡ 0 → (whenever test q below).place ≡ 0
unfolding whenever
when_place true q below h k = h
when_place false q below h k = k

unless_place : (test : Bool) (q below : Refusal) → q.place ≡ 0 → below.place ≡ 0 → (unless test q below).place ≡ 0
unfolding unless
unless_place true q below h k = k
unless_place false q below h k = h

either : (b : Bool) → b || b ≡ true → b ≡ true
either true h = refl
either false h = h

module _ (book : List Float) (rows cols repeat : ℕ) (l : Lists) where
  -- each refusal is for its cause
  pub shape_cause : eqb (shape book rows cols repeat l).number 0 ≡ false → Cause book rows cols repeat l (shape book rows cols repeat l).number
  unfolding shape_of refusal
  shape_cause =
      when_of P (eqb repeat 0) (refused 1) _ (λ t. no_repeat (eqb-true repeat 0 t)) (λ t₁.
      unless_of P (eqb rows cols) (refused 2) _ (λ t. not_square (some t₁) (eqb-false rows cols t)) (λ t₂.
      when_of P (ltb rows 2) (refused 2) _ (λ t. few_rows (some t₁) (eqb-true rows cols t₂) (ltb-true rows 2 t)) (λ t₃.
      when_of P (ltb 64 repeat) (refused 4) _ (λ t. many_repeats (shaped t₁ t₂ t₃) (ltb-true 64 repeat t)) (λ t₄.
      when_of P (ltb rows 2 || ltb rows 2) (refused 2) _ (λ t. few_rows (some t₁) (eqb-true rows cols t₂) (ltb-true rows 2 (either (ltb rows 2) t))) (λ t₅.
      when_of P (ltb 256 rows || ltb 256 rows) (refused 4) _ (λ t. many_rows (shaped t₁ t₂ t₃) (ltb-true 256 rows (either (ltb 256 rows) t))) (λ t₆.
      unless_of P (eqb (length book) (rows * rows)) (refused 5) _ (λ t. cell_count (limited (shaped t₁ t₂ t₃) t₄ t₆) (eqb-false (length book) (rows * rows) t)) (λ t₇.
      unless_of P fits (refused 6) _ (λ t. list_length (limited (shaped t₁ t₂ t₃) t₄ t₆) (eqb-true (length book) (rows * rows) t₇) t) (λ t₈.
      last_of P (record { number = 10; place = 0 })))))))))
    where
      P : ℕ → Type 0
      P = Cause book rows cols repeat l

      fits : Bool
      fits = lists_fit rows (length l.order) (length l.sizes) (length l.scores) (length l.ordered) (length l.floats) (length l.numbers)

      some : eqb repeat 0 ≡ false → 1 ≤ repeat
      some t = let h : repeat ≡ 0 → ⊥ = eqb-false repeat 0 t in omega (arith, h)

      shaped : eqb repeat 0 ≡ false → eqb rows cols ≡ true → ltb rows 2 ≡ false → Shaped rows cols repeat
      shaped t₁ t₂ t₃ = record { some = some t₁; same = eqb-true rows cols t₂; two = ltb-false rows 2 t₃ }

      limited : Shaped rows cols repeat → ltb 64 repeat ≡ false → ltb 256 rows || ltb 256 rows ≡ false → Limited rows cols repeat
      limited s t₄ t₆ = record { shaped = s; few = ltb-false 256 rows (neither (ltb 256 rows) (ltb 256 rows) t₆).0; times = ltb-false 64 repeat t₄ }

  -- and has the place 0
  pub shape_place : (shape book rows cols repeat l).place ≡ 0
  unfolding shape_of refusal
  shape_place =
      when_place (eqb repeat 0) (refused 1) _ refl
      (unless_place (eqb rows cols) (refused 2) _ refl
      (when_place (ltb rows 2) (refused 2) _ refl
      (when_place (ltb 64 repeat) (refused 4) _ refl
      (when_place (ltb rows 2 || ltb rows 2) (refused 2) _ refl
      (when_place (ltb 256 rows || ltb 256 rows) (refused 4) _ refl
      (unless_place (eqb (length book) (rows * rows)) (refused 5) _ refl
      (unless_place _ (refused 6) _ refl
      (when_place (ltb 0 0) (record { number = 10; place = 0 }) none refl refl))))))))

  -- what is not refused is within the limits
  pub shape_within : eqb (shape book rows cols repeat l).number 0 ≡ true → (rows ≡ cols) × Within book rows repeat l
  unfolding shape_of
  shape_within h =
      let fits = lists_fit rows (length l.order) (length l.sizes) (length l.scores) (length l.ordered) (length l.floats) (length l.numbers) in
      let a = when_none (eqb repeat 0) (refused 1) _ refl h in
      let b = unless_none (eqb rows cols) (refused 2) _ refl a.1 in
      let c = when_none (ltb rows 2) (refused 2) _ refl b.1 in
      let d = when_none (ltb 64 repeat) (refused 4) _ refl c.1 in
      let k = accepted (length book) rows rows fits 0 0 d.1 in
      let f₁ = both (eqb (length l.order) rows) _ k.fitting in
      let f₂ = both (eqb (length l.sizes) rows) _ f₁.1 in
      let f₃ = both (eqb (length l.scores) rows) _ f₂.1 in
      let f₄ = both (eqb (length l.ordered) (rows * rows)) _ f₃.1 in
      let f₅ = both (leb (work_doubles rows) (length l.floats)) (leb (work_numbers rows) (length l.numbers)) f₄.1 in
      let some : repeat ≡ 0 → ⊥ = eqb-false repeat 0 a.0 in (
        eqb-true rows cols b.0,
        record {
          limits = record {
            two = k.two;
            few = k.few;
            some = omega (arith, some);
            times = ltb-false 64 repeat d.0;
            square = k.square;
            order_long = eqb-true (length l.order) rows f₁.0;
            sizes_long = eqb-true (length l.sizes) rows f₂.0;
            scores_long = eqb-true (length l.scores) rows f₃.0;
            floats_long = leb-true (work_doubles rows) (length l.floats) f₅.0;
            numbers_long = leb-true (work_numbers rows) (length l.numbers) f₅.1;
          };
          ordered_long = eqb-true (length l.ordered) (rows * rows) f₄.0;
        },
      )

-- and what is within them is not refused
pub within_shape : (book : List Float) (n repeat : ℕ) (l : Lists) → Within book n repeat l → shape book n n repeat l ≡ none
unfolding shape_of refusal whenever unless
within_shape book n repeat l w =
    let some : repeat ≡ 0 → ⊥ = λ e. let y : ⊥ = omega (arith, w.limits.some) in y in
    rw (
      ne_eqb repeat 0 some,
      eq-eqb n n refl,
      le-ltb n 2 w.limits.two,
      le-ltb 64 repeat w.limits.times,
      le-ltb 256 n w.limits.few,
      eq-eqb (length book) (n * n) w.limits.square,
      eq-eqb (length l.order) n w.limits.order_long,
      eq-eqb (length l.sizes) n w.limits.sizes_long,
      eq-eqb (length l.scores) n w.limits.scores_long,
      eq-eqb (length l.ordered) (n * n) w.ordered_long,
      le-leb (work_doubles n) (length l.floats) w.limits.floats_long,
      le-leb (work_numbers n) (length l.numbers) w.limits.numbers_long,
    )

-- lists of other contents are refused alike
pub shape_same : (book : List Float) (rows cols repeat : ℕ) (l l' : Lists) → AsLong l l' → shape book rows cols repeat l' ≡ shape book rows cols repeat l
shape_same book rows cols repeat l l' h = rw (h.order, h.sizes, h.scores, h.ordered, h.floats, h.numbers)

-- whether the lists fit is asked of at most 256 names alone
pub shape_asked : (repeat rows cols cells : ℕ) (f g : Bool) → (rows ≤ 256 → f ≡ g) → shape_of repeat rows cols cells f ≡ shape_of repeat rows cols cells g
unfolding shape_of
shape_asked repeat rows cols cells f g e = rw (fits_asked cells rows rows f g 0 0 e)
