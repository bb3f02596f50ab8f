-- What is answered: for a layout that is found, for a fault, and at each end of `read_request`. Assumes nothing.
use Prim.Native.Nat.{◌*◌, ◌<◌, ◌≤◌, ℕ}
use mathlib.Core.Path.{◌∙◌, ◌≡◌, ap, refl, sym}
use mathlib.Core.Bool.{true}
use mathlib.Core.List.{List, ◌++◌}
use native.Mathlib.Omega.{arith}
use native.Mathlib.Decide.{dec_lt}
use borrow.Author.Tests.{le-ltb, lt-ltb}
use Rattle.std.specs.Prelude.{None, Option, Some}
use lib.Dec.{ltb}
use lib.ListN.{drop, length, take}
use lib.Ieee.{Float, nan}
use lib.Seq.{length-take-le}
use mathlib.Core.Logic.{by_cases}
use Rattle.lists.specs.Sums.{all_to}
use Rattle.lists.specs.Lists.{listed}
use Rattle.bits.specs.Bits.{double_of}
use Rattle.lists.proofs.Listed.{listed_same}
use Rattle.lists.proofs.Tests.{or-true}
use Rattle.text_layout.specs.Layout.{cell_form, draw_form, field_ok, layout_found, layout_of, value_of}
use Rattle.refusals.specs.Table.{refused}
use Rattle.text_request.specs.Request.{Answer, Requested, kept_lists, read_as, refusing, request_of, sizes_read}
use Rattle.text_layout.specs.declared.Form.{Form}
use Rattle.text_layout.specs.declared.Layout.{Layout}
use Rattle.text_layout.proofs.Found.{Within, accepted}

-- ---- what is answered

-- values that agree are answered alike
pub as_same : (n r d : ℕ) (c c' w w' : ℕ → ℕ) → ((t : ℕ) → t < n * n → c t ≡ c' t) → ((t : ℕ) → t < d → w t ≡ w' t)
    → (cells : List Float) (draws : List ℕ) → read_as n r d c w cells draws ≡ read_as n r d c' w' cells draws
unfolding read_as
as_same n r d c c' w w' e f cells draws =
    rw (listed_same nan (λ t. double_of (c t)) (λ t. double_of (c' t)) (n * n) (λ t h. ap double_of (e t h)), listed_same 0 w w' d f)

-- the doubles and the draws in front of the lists
abbrev pub filled_of : ℕ → ℕ → ℕ → (ℕ → ℕ) → (ℕ → ℕ) → List Float → List ℕ → Requested
filled_of n r d c w cells draws =
    record { answer = sizes_read n r d; cells = listed (λ t. double_of (c t)) (n * n) ++ drop (n * n) cells; draws = listed w d ++ drop d draws }

module _ (n r d : ℕ) (c w : ℕ → ℕ) (cells : List Float) (draws : List ℕ) where
  pub as_few_cells : length cells < n * n → read_as n r d c w cells draws ≡ kept_lists (refused 6) cells draws
  unfolding read_as
  as_few_cells h = rw (lt-ltb (length cells) (n * n) h)

  pub as_few_draws : length draws < d → read_as n r d c w cells draws ≡ kept_lists (refused 6) cells draws
  unfolding read_as
  as_few_draws h = rw (lt-ltb (length draws) d h, or-true (ltb (length cells) (n * n)))

  pub as_filled : n * n ≤ length cells → d ≤ length draws → read_as n r d c w cells draws ≡ filled_of n r d c w cells draws
  unfolding read_as
  as_filled h l = rw (le-ltb (length cells) (n * n) h, le-ltb (length draws) d l)

module _ (s : List ℕ) (cells : List Float) (draws : List ℕ) where
  pub fault_gives : layout_of s ≡ None → request_of s cells draws ≡ kept_lists (refused 11) cells draws
  unfolding request_of
  fault_gives e = rw e

  pub found_gives : (n r d p q : ℕ) → layout_of s ≡ layout_found n r d p q
      → request_of s cells draws ≡ read_as n r d (value_of cell_form s p) (value_of draw_form s q) cells draws
  unfolding request_of
  found_gives n r d p q e = rw e

-- a request that was read: its layout, its sizes within their limits, room in both lists, and what they hold
pub record ReadFrom (s : List ℕ) (cells : List Float) (draws : List ℕ) (n r d : ℕ) : Type 0 where
  pub p : ℕ
  pub q : ℕ
  pub found : layout_of s ≡ layout_found n r d p q
  pub sizes : Within n r d
  pub cells_fit : n * n ≤ length cells
  pub draws_fit : d ≤ length draws
  pub gives : request_of s cells draws ≡ filled_of n r d (value_of cell_form s p) (value_of draw_form s q) cells draws

-- a refusal is no request that was read
not_read : {X : Type 0} (k n r d : ℕ) → 0 < k → refusing (refused k) ≡ sizes_read n r d → X
not_read k n r d h e =
    let z : k ≡ 0 = ap (λ (a : Answer). a.refused.number) e in
    let y : ⊥ = omega arith in
    absurd y

moved_read : (s : List ℕ) (cells : List Float) (draws : List ℕ) (n r d n' r' d' : ℕ) → sizes_read n r d ≡ sizes_read n' r' d'
    → ReadFrom s cells draws n r d → ReadFrom s cells draws n' r' d'
moved_read s cells draws n r d n' r' d' e h =
    let x : n ≡ n' = ap (λ (a : Answer). a.names) e in
    let y : r ≡ r' = ap (λ (a : Answer). a.repeats) e in
    let z : d ≡ d' = ap (λ (a : Answer). a.count) e in
    rw (← x, ← y, ← z) h

module _ (s : List ℕ) (cells : List Float) (draws : List ℕ) (n r d : ℕ) (h : (request_of s cells draws).answer ≡ sizes_read n r d) where
  answers : (x : Requested) → request_of s cells draws ≡ x → x.answer ≡ sizes_read n r d
  answers x e = sym (ap (λ (y : Requested). y.answer) e) ∙ h

  read_cases : (l : Option Layout) → layout_of s ≡ l → ReadFrom s cells draws n r d
  read_cases (Some l) e =
      let n' = l.names in
      let r' = l.repeats in
      let d' = l.draws in
      let p = l.cells_at in
      let q = l.draws_at in
      let c = value_of cell_form s p in
      let w = value_of draw_form s q in
      let g = found_gives s cells draws n' r' d' p q e in
      by_cases (dec_lt (length cells) (n' * n'))
      (λ y. not_read 6 n r d (omega arith) (answers (kept_lists (refused 6) cells draws) (g ∙ as_few_cells n' r' d' c w cells draws y)))
      (λ y. by_cases (dec_lt (length draws) d')
      (λ z. not_read 6 n r d (omega arith) (answers (kept_lists (refused 6) cells draws) (g ∙ as_few_draws n' r' d' c w cells draws z)))
      (λ z.
      let i : n' * n' ≤ length cells = omega arith in
      let j : d' ≤ length draws = omega arith in
      let k = g ∙ as_filled n' r' d' c w cells draws i j in
      moved_read s cells draws n' r' d' n r d (answers (filled_of n' r' d' c w cells draws) k)
      (record { p = p; q = q; found = e; sizes = (accepted s n' r' d' p q e).sizes; cells_fit = i; draws_fit = j; gives = k })))
  read_cases None e = not_read 11 n r d (omega arith) (answers (kept_lists (refused 11) cells draws) (fault_gives s cells draws e))

  pub read_from : ReadFrom s cells draws n r d
  read_from = read_cases (layout_of s) refl

  pub read_within : Within n r d
  read_within = read_from.sizes

-- ---- the promise of `read_request`, for each of its ends

-- as many fields as a lent front part takes
pub as_lent : {A : Type 0} (f : Form) (s : List ℕ) (l : List A) (p n : ℕ) → n ≤ length l → all_to (field_ok f s p n) n ≡ true
    → all_to (field_ok f s p (length (take n l))) (length (take n l)) ≡ true
as_lent f s l p n h e = rw (length-take-le n l h) e

pub read_all : (s : List ℕ) (cells : List Float) (draws : List ℕ) (n r d p q : ℕ) → layout_of s ≡ layout_found n r d p q → n * n ≤ length cells → d ≤ length draws
    → (cs : List Float) (ds : List ℕ) → cs ≡ listed (λ t. double_of (value_of cell_form s p t)) (length (take (n * n) cells))
    → ds ≡ listed (value_of draw_form s q) (length (take d draws))
    → record { answer = sizes_read n r d; cells = cs ++ drop (n * n) cells; draws = ds ++ drop d draws } ≡ request_of s cells draws
read_all s cells draws n r d p q e hc hd cs ds ec ed =
    rw (ec, ed, length-take-le (n * n) cells hc, length-take-le d draws hd)
    (sym (found_gives s cells draws n r d p q e ∙ as_filled n r d (value_of cell_form s p) (value_of draw_form s q) cells draws hc hd))
