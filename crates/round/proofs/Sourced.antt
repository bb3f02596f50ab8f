-- A round by the draws of a source: how it starts, by the draws of its candidates alone, is how it starts by those of the whole round; and where the source stands behind them.
use Prim.Native.Nat.{ℕ, suc, ◌+◌, ◌-◌, ◌*◌, ◌<◌, ◌≤◌}
use mathlib.Core.Path.{◌≡◌, sym, ◌∙◌, ap, subst}
use mathlib.Core.Bool.{Bool, true, false, cond}
use mathlib.Core.List.{List, [], ◌++◌}
use native.Mathlib.Nat.{suc-mul}
use native.Mathlib.Omega.{arith}
use borrow.Author.Tests.{lt-leb}
use lib.ListN.{length, drop, length-drop}
use lib.Seq.{drop-drop}
use lib.Ieee.{Float}
use Rattle.draws.specs.Draws.{drawn}
use Rattle.draws.specs.declared.Stop.{Stop}
use Rattle.distance.specs.Distance.{dist_at}
use Rattle.partition.specs.Partition.{State}
use Rattle.rng_std.specs.Seeds.{key_of}
use Rattle.rng_std.proofs.Ranges.{word_below}
use Rattle.plusplus_seeded.specs.declared.Source.{Source}
use Rattle.plusplus_seeded.specs.Sources.{words_by, given}
use Rattle.plusplus_seeded.proofs.Fine.{append_none}
use Rattle.candidates.specs.Candidates.{Best, nothing, found}
use Rattle.candidates.specs.Made.{Stretch}
use Rattle.candidates.proofs.Sourced.{repeats_words}
use Rattle.base.specs.Base.{base_of}
use Rattle.row_numbers.specs.Rows.{rows_of}
use Rattle.improve_merge.specs.Merging.{weak_items}
use Rattle.round.specs.Round.{Opening, started, unstarted, of_best, opening_of, need_of}
use Rattle.round.specs.Made.{no_draws, inner_made, own_made, round_made, own_given, own_moved, round_given}
use Rattle.round.specs.Steps.{Stood}
use Rattle.round.proofs.Runs.{weak_in, OpeningTook, opening_took}
use Rattle.round.proofs.Made.{opening_made}
use Rattle.round.proofs.Openings.{need_fits}

-- the start by a best candidate, whatever draws remain
best_started : (m : ℕ) (u : Best) (base : State) (rest more : List ℕ) → of_best m (drawn u []) ≡ started base rest → of_best m (drawn u more) ≡ started base more
best_started m nothing base rest more e = let z : ◌≡◌ {A = ℕ} 0 1 = cc in absurd (omega arith)
best_started m (found c) base rest more e = let z : base_of m c ≡ base = cc in ap (λ (s : State). started s more) z

best_unstarted : (m : ℕ) (u : Best) (s : Stop) (ms more : List ℕ) → of_best m (drawn u []) ≡ unstarted s ms → of_best m (drawn u more) ≡ unstarted s ms
best_unstarted m nothing s ms more e = e
best_unstarted m (found c) s ms more e = let z : ◌≡◌ {A = ℕ} 0 1 = cc in absurd (omega arith)

module _ (book : List Float) (n repeats left : ℕ) (rows : List ℕ) (two : 2 ≤ length rows) (src : Source) (draws : List ℕ) where
  abbrev own : ℕ → Stretch
  own i = own_made (words_by src) book n repeats rows i

  -- the draws behind the start of the round
  abbrev pub later_made : Opening → ℕ → List ℕ
  later_made O i = (inner_made (round_made (words_by src) book n repeats left) rows O i).draws

  best : ℕ → Best
  best i = (opening_made (words_by src) (word_below (key_of src.seed)) book n repeats rows two i).0

  by_best : (i read : ℕ) (rest : List ℕ) → opening_of book n repeats rows read ((own i).draws ++ rest) ≡ of_best (length rows) (drawn (best i) rest)
  unfolding best
  by_best i = (opening_made (words_by src) (word_below (key_of src.seed)) book n repeats rows two i).1

  alone : (i read : ℕ) → opening_of book n repeats rows read (own i).draws ≡ of_best (length rows) (drawn (best i) [])
  alone i read = ap (opening_of book n repeats rows read) (sym (append_none (own i).draws)) ∙ by_best i read []

  whole_round : (i read : ℕ) → opening_of book n repeats rows read (round_made (words_by src) book n repeats (suc left) rows i).draws
      ≡ of_best (length rows) (drawn (best i) (later_made (opening_of book n repeats rows 0 (own i).draws) (own i).next))
  unfolding round_made
  whole_round i read = by_best i read (later_made (opening_of book n repeats rows 0 (own i).draws) (own i).next)

  started_by : (t : Bool) (base : State) (rest : List ℕ) → opening_of book n repeats rows src.at (cond t (own src.taken).draws (drop src.at draws)) ≡ started base rest
      → opening_of book n repeats rows src.at (cond t (round_made (words_by src) book n repeats (suc left) rows src.taken).draws (drop src.at draws))
      ≡ started base (cond t (later_made (started base []) (cond t (own src.taken).next src.taken)) (drop (src.at + need_of repeats (length rows)) draws))
  started_by true base rest e =
      let i = src.taken in
      let m = length rows in
      let f : of_best (length rows) (drawn (best src.taken) []) ≡ started base rest = sym (alone src.taken src.at) ∙ e in
      let g : opening_of book n repeats rows 0 (own src.taken).draws ≡ started base [] = alone src.taken 0 ∙ best_started (length rows) (best src.taken) base rest [] f in
      whole_round i src.at ∙ ap (λ (O : Opening). of_best m (drawn (best i) (later_made O (own i).next))) g
      ∙ best_started m (best i) base rest (later_made (started base []) (own i).next) f
  started_by false base rest e =
      let ds = drop src.at draws in
      let h = subst (OpeningTook (need_of repeats (length rows)) ds (length rows)) e (opening_took book n repeats rows src.at ds two) in
      e ∙ ap (started base) (h.2 ∙ drop-drop (need_of repeats (length rows)) src.at draws)

  -- a round that starts by the draws of its candidates starts so by those of the whole round
  pub source_started : (base : State) (rest : List ℕ) → opening_of book n repeats rows src.at (own_given src draws book n repeats rows) ≡ started base rest
      → opening_of book n repeats rows src.at (round_given src draws book n repeats (suc left) rows)
      ≡ started base (given (own_moved src book n repeats rows) draws (later_made (started base [])))
  source_started base rest e = started_by src.seeded base rest e

  unstarted_by : (t : Bool) (s : Stop) (ms : List ℕ) → opening_of book n repeats rows src.at (cond t (own src.taken).draws (drop src.at draws)) ≡ unstarted s ms
      → opening_of book n repeats rows src.at (cond t (round_made (words_by src) book n repeats (suc left) rows src.taken).draws (drop src.at draws)) ≡ unstarted s ms
  unstarted_by true s ms e =
      let i = src.taken in
      whole_round i src.at
      ∙ best_unstarted (length rows) (best i) s ms (later_made (opening_of book n repeats rows 0 (own i).draws) (own i).next) (sym (alone i src.at) ∙ e)
  unstarted_by false s ms e = e

  -- and one that does not start does not start
  pub source_unstarted : (s : Stop) (ms : List ℕ) → opening_of book n repeats rows src.at (own_given src draws book n repeats rows) ≡ unstarted s ms
      → opening_of book n repeats rows src.at (round_given src draws book n repeats (suc left) rows) ≡ unstarted s ms
  source_unstarted s ms e = unstarted_by src.seeded s ms e

  -- the draws behind the start, where more than two groups are weak: those of the whole round on the weak rows
  pub later_again : (base : State) → 2 < weak_in base
      → given (own_moved src book n repeats rows) draws (later_made (started base [])) ≡ round_given (own_moved src book n repeats rows) draws book n repeats left (rows_of rows (weak_items base))
  later_again base h =
      ap (λ (t : Bool). given (own_moved src book n repeats rows) draws (λ i. (cond t (no_draws i) (round_made (words_by src) book n repeats left (rows_of rows (weak_items base)) i)).draws))
      (lt-leb (weak_in base) 2 h)

-- where a source stands behind the draws of a round, with one round fewer left
module _ (book : List Float) (n repeats : ℕ) (rows : List ℕ) (src : Source) (draws : List ℕ) (left : ℕ) (h : Stood src draws left) where
  behind_list : (t : Bool) → t ≡ false → src.at ≤ length draws → need_of repeats (length rows) ≤ length (cond t (own_made (words_by src) book n repeats rows src.taken).draws (drop src.at draws))
      → src.at + need_of repeats (length rows) ≤ length draws
  behind_list true e l k = let z : ◌≡◌ {A = ℕ} 0 1 = cc in absurd (omega arith)
  behind_list false e l k = omega (arith, k, length-drop src.at draws)

  words_by_lem : (t : Bool) (i next need most : ℕ) → next ≤ i + 2 * need → i + 2 * need ≤ most → cond t next i ≤ most
  words_by_lem true i next need most a b = omega (arith, a, b)
  words_by_lem false i next need most a b = omega (arith, b)

  pub stood_behind : 1 ≤ left → left ≤ 32 → 0 < length rows → length rows ≤ 256 → repeats ≤ 64 → need_of repeats (length rows) ≤ length (own_given src draws book n repeats rows)
      → Stood (own_moved src book n repeats rows) draws (left - 1)
  stood_behind some level z few times enough =
      let most : need_of repeats (length rows) ≤ 13723392 = need_fits repeats (length rows) times few in
      let e : 32 - (left - 1) ≡ suc (32 - left) = omega arith in
      let f : (32 - (left - 1)) * 13723392 ≡ (32 - left) * 13723392 + 13723392 = ap (λ (x : ℕ). x * 13723392) e ∙ suc-mul (32 - left) 13723392 in
      record {
        there = λ q. behind_list src.seeded q (h.there q) enough;
        passed = λ q. omega (arith, h.passed q, f, most);
        words =
            words_by_lem src.seeded src.taken (own_made (words_by src) book n repeats rows src.taken).next (need_of repeats (length rows)) (2 * ((32 - (left - 1)) * 13723392))
            (repeats_words (words_by src) (word_below (key_of src.seed)) (dist_at book n rows) (length rows) z repeats src.taken) (omega (arith, h.words, f, most));
      }
