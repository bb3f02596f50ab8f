-- What `seed_by` answers, by either kind of source, and the generator that it leaves.
use Rattle.std.specs.Prelude.{Ok, Err}
use mathlib.Core.Path.{◌≡◌, refl, ◌∙◌, sym, ap, subst}
use mathlib.Core.Bool.{Bool, true, false, cond}
use mathlib.Core.List.{List, []}
use Prim.Native.Nat.{ℕ, ◌+◌, ◌<◌}
use native.Mathlib.Omega.{arith}
use lib.ListN.{drop}
use lib.Ieee.{Float}
use Rattle.draws.specs.Counts.{seeding_of}
use Rattle.draws.specs.Draws.{Drawn, drawn, refused}
use Rattle.draws.specs.declared.Stop.{Stop}
use Rattle.draws.specs.declared.Stop.TheVariants.{DrawOutOfRange}
use Rattle.plusplus.specs.Seeding.{seeding, SeededBy}
use Rattle.rng_std.specs.Seeds.{key_of}
use Rattle.rng_std.proofs.Ranges.{word_below}
use Rattle.plusplus_seeded.specs.Seeded.{seed_made}
use Rattle.plusplus_seeded.specs.declared.Source.{Source}
use Rattle.rng_std.specs.Words.{word_of}
use Rattle.rng_std.specs.States.{key_in, Holds, Moved}
use Rattle.plusplus_seeded.specs.Sources.{words_by, given, moved_on, RngOf, seed_draws, seed_next, SuppliedBy}
use Rattle.plusplus_seeded.proofs.Fine.{append_none}
use Rattle.plusplus_seeded.proofs.Made.{seed_made_lem}

-- what an answer with a source says
done_by : (R : Drawn (List ℕ)) (next n : Source) (cs rest : List ℕ) → R ≡ drawn cs rest → n ≡ next → SuppliedBy R next (Ok n) cs
done_by R next n cs rest e h = record { answer_is = rw (e, h) refl; centres_are = rw e refl }

stopped_by : (R : Drawn (List ℕ)) (next : Source) (cs : List ℕ) (s : Stop) (p : ℕ) → R ≡ refused p → s ≡ DrawOutOfRange p → SuppliedBy R next (Err s) cs
stopped_by R next cs s p e h = record { answer_is = rw (e, h) refl; centres_are = rw e tt }

-- by a list, what `seed` answered
list_done : (R : Drawn (List ℕ)) {nx n : ℕ} {cs : List ℕ} → SeededBy R nx (Ok n) cs → (n ≡ nx) × ((rest : List ℕ) × (R ≡ drawn cs rest))
list_done (drawn c rest) {nx} {n} {cs} s =
    let a : Ok n ≡ Ok nx = s.answer_is in
    let e : n ≡ nx = cc in
    (e, (rest, ap (λ (x : List ℕ). drawn x rest) (sym s.centres_are)))
list_done (refused p) {nx} {n} {cs} s =
    let a : Ok n ≡ Err (DrawOutOfRange p) = s.answer_is in
    let z : ◌≡◌ {A = ℕ} 0 1 = cc in
    absurd (omega arith)

list_stopped : (R : Drawn (List ℕ)) {nx : ℕ} {w : Stop} {cs : List ℕ} → SeededBy R nx (Err w) cs → (p : ℕ) × (R ≡ refused p) × (w ≡ DrawOutOfRange p)
list_stopped (drawn c rest) {nx} {w} {cs} s =
    let a : Err w ≡ Ok nx = s.answer_is in
    let z : ◌≡◌ {A = ℕ} 0 1 = cc in
    absurd (omega arith)
list_stopped (refused p) {nx} {w} {cs} s =
    let a : Err w ≡ Err (DrawOutOfRange p) = s.answer_is in
    let e : w ≡ DrawOutOfRange p = cc in
    (p, refl, e)

module _ (src : Source) (draws : List ℕ) (q : ℕ → ℕ → Float) (m k : ℕ) where
  -- the draws of the source for one seeding, by its kind
  by_words : src.seeded ≡ true → given src draws (seed_draws src q m k) ≡ (seed_made (words_by src) q m k src.taken).draws
  by_words h = ap (λ (t : Bool). cond t (seed_made (words_by src) q m k src.taken).draws (drop src.at draws)) h

  by_list : src.seeded ≡ false → given src draws (seed_draws src q m k) ≡ drop src.at draws
  by_list h = ap (λ (t : Bool). cond t (seed_made (words_by src) q m k src.taken).draws (drop src.at draws)) h

  next_words : src.seeded ≡ true → moved_on src (seeding_of k) (seed_next src q m k) ≡ record { at = src.at + seeding_of k; seeded = true; seed = src.seed; taken = (seed_made (words_by src) q m k src.taken).next }
  next_words h = ap (λ (t : Bool). record { at = src.at + seeding_of k; seeded = t; seed = src.seed; taken = cond t (seed_made (words_by src) q m k src.taken).next src.taken }) h

  next_list : src.seeded ≡ false → moved_on src (seeding_of k) (seed_next src q m k) ≡ record { at = src.at + seeding_of k; seeded = false; seed = src.seed; taken = src.taken }
  next_list h = ap (λ (t : Bool). record { at = src.at + seeding_of k; seeded = t; seed = src.seed; taken = cond t (seed_made (words_by src) q m k src.taken).next src.taken }) h

  -- the seeding by a generator, on the draws that it made
  pub seeding_made : 0 < m → src.seeded ≡ true → seeding q m k src.at (given src draws (seed_draws src q m k)) ≡ drawn (seed_made (words_by src) q m k src.taken).centres []
  seeding_made z h =
      ap (seeding q m k src.at) (by_words h ∙ sym (append_none (seed_made (words_by src) q m k src.taken).draws))
      ∙ seed_made_lem (words_by src) (word_below (key_of src.seed)) q m k z src.taken src.at []

  pub by_seed : {count taken : ℕ} {cs : List ℕ} → 0 < m → src.seeded ≡ true → count ≡ seeding_of k
      → cs ≡ (seed_made (words_by src) q m k src.taken).centres → taken ≡ (seed_made (words_by src) q m k src.taken).next
      → SuppliedBy (seeding q m k src.at (given src draws (seed_draws src q m k))) (moved_on src (seeding_of k) (seed_next src q m k))
      (Ok (record { at = src.at + count; seeded = true; seed = src.seed; taken = taken })) cs
  by_seed {count} {taken} {cs} z h n e t =
      done_by _ _ _ cs [] (seeding_made z h ∙ ap (λ (x : List ℕ). drawn x []) (sym e)) (rw (n, t) (sym (next_words h)))

  pub listed_done : {n : ℕ} {cs : List ℕ} → src.seeded ≡ false → SeededBy (seeding q m k src.at (drop src.at draws)) (src.at + seeding_of k) (Ok n) cs
      → SuppliedBy (seeding q m k src.at (given src draws (seed_draws src q m k))) (moved_on src (seeding_of k) (seed_next src q m k))
      (Ok (record { at = n; seeded = false; seed = src.seed; taken = src.taken })) cs
  listed_done {n} {cs} h s =
      let v = list_done (seeding q m k src.at (drop src.at draws)) s in
      done_by _ _ _ cs v.1.0 (ap (seeding q m k src.at) (by_list h) ∙ v.1.1) (rw v.0 (sym (next_list h)))

  pub listed_stopped : {w : Stop} {cs : List ℕ} → src.seeded ≡ false → SeededBy (seeding q m k src.at (drop src.at draws)) (src.at + seeding_of k) (Err w) cs
      → SuppliedBy (seeding q m k src.at (given src draws (seed_draws src q m k))) (moved_on src (seeding_of k) (seed_next src q m k)) (Err w) cs
  listed_stopped {w} {cs} h s =
      let v = list_stopped (seeding q m k src.at (drop src.at draws)) s in
      stopped_by _ _ cs w v.0 (ap (seeding q m k src.at) (by_list h) ∙ v.1) v.2

  -- the generator behind a seeding by it; a source of draws in a list has none
  pub rng_moved : {taken : ℕ} {rng rng' : List ℕ} → src.seeded ≡ true → key_in rng ≡ key_of src.seed → taken ≡ (seed_made (word_of (key_in rng)) q m k src.taken).next
      → Moved rng taken rng' → RngOf (moved_on src (seeding_of k) (seed_next src q m k)) rng'
  rng_moved {taken} {rng} {rng'} h key t v =
      let n : taken ≡ (moved_on src (seeding_of k) (seed_next src q m k)).taken =
      t ∙ ap (λ (x : List ℕ). (seed_made (word_of x) q m k src.taken).next) key ∙ sym (ap (λ (u : Source). u.taken) (next_words h)) in
      λ e. (v.key_is ∙ key, subst (λ (i : ℕ). Holds i rng') n v.holds)

  pub rng_none : {rng : List ℕ} → src.seeded ≡ false → RngOf (moved_on src (seeding_of k) (seed_next src q m k)) rng
  rng_none h =
      λ e.
      let a : true ≡ false = sym e ∙ h in
      let z : ◌≡◌ {A = ℕ} 0 1 = cc in
      absurd (omega arith)
