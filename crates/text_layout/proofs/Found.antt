-- What a layout that is found says: its sizes are within their limits, and each field is in its form. Assumes nothing.
use Prim.Native.Nat.{◌*◌, ◌+◌, ◌-◌, ◌<◌, ◌^◌, ◌≤◌, ℕ}
use mathlib.Core.Path.{◌≡◌, refl, sym}
use mathlib.Core.Bool.{Bool, cond, false, true}
use mathlib.Core.List.{List}
use native.Mathlib.Omega.{arith}
use native.Mathlib.Decide.{ℕ_discrete}
use native.Mathlib.Nat.{mul-le-mul}
use borrow.Author.Tests.{eqb-true, leb-true, ne_eqb}
use Rattle.std.specs.Prelude.{None, Option, Some, option_and_then}
use Rattle.std.proofs.lemmas.Option.{cond_some, none-some, same_Some}
use Rattle.std.proofs.lemmas.Bool.{false≢true}
use lib.Dec.{eqb, leb}
use lib.ListN.{length}
use mathlib.Core.Logic.{by_cases}
use Rattle.text_digits.specs.Digits.{byte_at, newline, run_of, space, spelled}
use Rattle.lists.specs.Sums.{all_to}
use Rattle.text_layout.specs.Layout.{cell_form, draw_form, empty_at, field_ok, head_of, layout_of, line_at, lists_of, small_number, plain, small_at, sizes, layout_found, start_of}
use Rattle.text_layout.specs.declared.Form.{Form}
use Rattle.text_layout.specs.declared.Small.{Small}
use Rattle.text_layout.specs.declared.Head.{Head}
use Rattle.text_layout.specs.declared.Layout.{Layout}

-- a test that has to hold for a value to be given
pub cond_both : {A : Type 0} (b : Bool) (x : Option A) (y : A) → cond b x None ≡ Some y → (b ≡ true) × (x ≡ Some y)
cond_both true x y e = (refl, e)
cond_both false x y e = absurd (none-some y e)

-- ---- a step of the definitions that succeeded

pub record Taken (A B : Type 0) (x : Option A) (f : A → Option B) (h : B) : Type 0 where
  pub v : A
  pub is : x ≡ Some v
  pub next : f v ≡ Some h

pub taken : {A B : Type 0} (x : Option A) (f : A → Option B) (h : B) → option_and_then f x ≡ Some h → Taken A B x f h
taken (Some v) f h e = record { v = v; is = refl; next = e }
taken None f h e = absurd (none-some h e)

-- ---- the first line

-- a number that is found at p
pub record SmallRead (s : List ℕ) (p bound stop v q : ℕ) : Type 0 where
  pub form : plain (byte_at s p) (run_of 10 s p 19) ≡ true
  pub most : v ≤ bound
  pub ended : byte_at s (p + run_of 10 s p 19) ≡ stop
  pub value : spelled 10 s p (run_of 10 s p 19) ≡ v
  pub end : p + run_of 10 s p 19 + 1 ≡ q

pub small_taken : (s : List ℕ) (p bound stop : ℕ) (a : Small) → small_at s p bound stop ≡ Some a → SmallRead s p bound stop a.value a.end
unfolding small_at
small_taken s p bound stop a e =
    let k = run_of 10 s p 19 in
    let w = spelled 10 s p k in
    let c = cond_both (plain (byte_at s p) k) _ a e in
    let h = cond_both (leb w bound) _ a c.1 in
    let i = cond_some (eqb (byte_at s (p + k)) stop) _ a h.1 in
    rw (← i.1) (record { form = c.0; most = leb-true w bound h.0; ended = eqb-true (byte_at s (p + k)) stop i.0; value = refl; end = refl })

pub small_read_at : (s : List ℕ) (p bound stop v q : ℕ) → small_at s p bound stop ≡ small_number v q → SmallRead s p bound stop v q
small_read_at s p bound stop v q e = small_taken s p bound stop (record { value = v; end = q }) e

-- the first line: the places behind its first two numbers, and its numbers
pub record HeadRead (s : List ℕ) (n r d p : ℕ) : Type 0 where
  pub second : ℕ
  pub third : ℕ
  pub names : small_at s 0 12 space ≡ small_number n second
  pub repeats : small_at s second (2 ^ 32 - 1) space ≡ small_number r third
  pub draws : small_at s third 1024 newline ≡ small_number d p

pub head_taken : (s : List ℕ) (h : Head) → head_of s ≡ Some h → HeadRead s h.names h.repeats h.draws h.end
unfolding head_of
head_taken s h e =
    let a = taken (small_at s 0 12 space) _ h e in
    let b = taken (small_at s a.v.end (2 ^ 32 - 1) space) _ h a.next in
    let c = taken (small_at s b.v.end 1024 newline) _ h b.next in
    rw (← same_Some _ _ c.next) (record { second = a.v.end; third = b.v.end; names = a.is; repeats = b.is; draws = c.is })

pub head_read : (s : List ℕ) (n r d p : ℕ) → head_of s ≡ sizes n r d p → HeadRead s n r d p
head_read s n r d p e = head_taken s (record { names = n; repeats = r; draws = d; end = p }) e

pub record Within (n r d : ℕ) : Type 0 where
  pub names : n ≤ 12
  pub repeats : r < 2 ^ 32
  pub draws : d ≤ 1024

pub head_within : (s : List ℕ) (n r d p : ℕ) → head_of s ≡ sizes n r d p → Within n r d
head_within s n r d p e =
    let h = head_read s n r d p e in
    let a = small_read_at s 0 12 space n h.second h.names in
    let b = small_read_at s h.second (2 ^ 32 - 1) space r h.third h.repeats in
    let c = small_read_at s h.third 1024 newline d p h.draws in
    record { names = a.most; repeats = omega (arith, b.most); draws = c.most }

-- what `lists_of` asks
pub head_names : (s : List ℕ) (h : Head) → head_of s ≡ Some h → h.names ≤ 12
head_names s h e = (head_within s h.names h.repeats h.draws h.end e).names

-- ---- the two lists

line_cond : (a b : Bool) (x : Option ℕ) (y q : ℕ) → cond a x (cond b (Some y) None) ≡ Some q → a ≡ false → b ≡ true
line_cond true b x y q e h = absurd (false≢true (sym h))
line_cond false b x y q e h = (cond_some b y q e).0

pub line_right : (f : Form) (s : List ℕ) (p n q : ℕ) → line_at f s p n ≡ Some q → all_to (field_ok f s p n) n ≡ true
unfolding line_at all_to
line_right f s p n q e =
    by_cases (ℕ_discrete n 0) (λ z. rw z)
    (λ z. line_cond (eqb n 0) (all_to (field_ok f s p n) n) (empty_at s p) (start_of f s p n) q e (ne_eqb n 0 z))

pub record Accepted (s : List ℕ) (n r d p q : ℕ) : Type 0 where
  pub sizes : Within n r d
  pub cells : all_to (field_ok cell_form s p (n * n)) (n * n) ≡ true
  pub draws : all_to (field_ok draw_form s q d) d ≡ true

-- the steps of a layout that is found: the first line, the place behind the cells, and that behind the draws, where the text ends
pub record Steps (s : List ℕ) (l : Layout) : Type 0 where
  pub head : head_of s ≡ sizes l.names l.repeats l.draws l.cells_at
  pub cells : line_at cell_form s l.cells_at (l.names * l.names) ≡ Some l.draws_at
  pub end : ℕ
  pub draws : line_at draw_form s l.draws_at l.draws ≡ Some end
  pub last : end ≡ length s

pub steps : (s : List ℕ) (l : Layout) → layout_of s ≡ Some l → Steps s l
unfolding layout_of lists_of
steps s l e =
    let h = taken (head_of s) _ l e in
    let a = taken (line_at cell_form s h.v.end (h.v.names * h.v.names)) _ l h.next in
    let b = taken (line_at draw_form s a.v h.v.draws) _ l a.next in
    let c = cond_some (eqb b.v (length s)) _ l b.next in
    rw (← c.1) (record { head = h.is; cells = a.is; end = b.v; draws = b.is; last = eqb-true b.v (length s) c.0 })

pub accepted : (s : List ℕ) (n r d p q : ℕ) → layout_of s ≡ layout_found n r d p q → Accepted s n r d p q
accepted s n r d p q e =
    let l = steps s (record { names = n; repeats = r; draws = d; cells_at = p; draws_at = q }) e in
    record {
      sizes = head_within s n r d p l.head;
      cells = line_right cell_form s p (n * n) q l.cells;
      draws = line_right draw_form s q d l.end l.draws;
    }

-- the cells of a layout that is found fit the list for them
pub few_cells : (n : ℕ) → n ≤ 12 → n * n ≤ 144
few_cells n h = mul-le-mul h h
