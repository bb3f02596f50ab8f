-- What the answer of a call says of the definition, and the other way.
use Rattle.std.specs.Prelude.{Option, Some, None, Err}
use Prim.Native.Nat.{ℕ}
use mathlib.Core.Path.{◌≡◌, refl, ap}
use mathlib.Core.List.{List}
use native.Mathlib.Omega.{arith}
use lib.Ieee.{Float}
use Rattle.draws.specs.Draws.{Drawn, drawn, refused}
use Rattle.draws.specs.declared.Stop.{Stop}
use Rattle.draws.specs.declared.Stop.TheVariants.{DrawOutOfRange}
use Rattle.plusplus_seeded.specs.declared.Source.{Source}
use Rattle.choice.specs.declared.Kept.{Kept}
use Rattle.candidates.specs.Candidates.{Best, nothing, found}
use Rattle.candidates.specs.Candidates as candidates
use Rattle.candidates.specs.declared.Searched.{Searched}
use Rattle.candidates.specs.declared.Tried.{Tried}
use Rattle.candidates.specs.Steps.{searched, made, kept_by, kept_of, best_from, Holds, SearchedBy, TriedBy}

-- what is kept, with its lists, is the best
best_is : (b : Best) (kept : Option Kept) (l : List ℕ) (s : List Float) → kept ≡ kept_of b → Holds b l s → b ≡ best_from kept l s
best_is nothing kept l s e h = rw e refl
best_is (found c) kept l s e h = rw (e, h.0, h.1) refl

kept_is : (kept : Option Kept) (l : List ℕ) (s : List Float) → kept ≡ kept_of (best_from kept l s)
kept_is None l s = refl
kept_is (Some k) l s = refl

lists_are : (kept : Option Kept) (l : List ℕ) (s : List Float) → Holds (best_from kept l s) l s
lists_are None l s = tt
lists_are (Some k) l s = (refl, refl)

-- what two equal answers have in common
searched_parts : (n m : Source) (k j : Option Kept) → searched n k ≡ searched m j → (n ≡ m) × (k ≡ j)
searched_parts n m k j e =
    let r : ◌≡◌ {A = Searched} (record { source = n; kept = k }) (record { source = m; kept = j }) = cc in
    (ap (λ (x : Searched). x.source) r, ap (λ (x : Searched). x.kept) r)

made_parts : (n m : Source) (a b c d : Float) → made n a b ≡ made m c d → (n ≡ m) × (a ≡ c) × (b ≡ d)
made_parts n m a b c d e =
    let r : ◌≡◌ {A = Tried} (record { source = n; stat = a; mean = b }) (record { source = m; stat = c; mean = d }) = cc in
    (ap (λ (x : Tried). x.source) r, ap (λ (x : Tried). x.stat) r, ap (λ (x : Tried). x.mean) r)

-- the best that an answer tells
pub searched_done : (D : Drawn Best) {next n : Source} {kept : Option Kept} {l : List ℕ} {s : List Float} → SearchedBy D next (searched n kept) l s
    → (rest : List ℕ) × (n ≡ next) × (D ≡ drawn (best_from kept l s) rest)
searched_done (drawn b rest) {next} {n} {kept} {l} {s} h =
    let p = searched_parts n next kept (kept_of b) h.answer_is in
    (rest, p.0, ap (λ (x : Best). drawn x rest) (best_is b kept l s p.1 h.leaves))
searched_done (refused p) {next} {n} {kept} {l} {s} h =
    let a : searched n kept ≡ Err (DrawOutOfRange p) = h.answer_is in
    let z : ◌≡◌ {A = ℕ} 0 1 = cc in
    absurd (omega arith)

pub searched_stopped : (D : Drawn Best) {next : Source} {w : Stop} {l : List ℕ} {s : List Float} → SearchedBy D next (Err w) l s
    → (p : ℕ) × (D ≡ refused p) × (w ≡ DrawOutOfRange p)
searched_stopped (drawn b rest) {next} {w} {l} {s} h =
    let a : Err w ≡ searched next (kept_of b) = h.answer_is in
    let z : ◌≡◌ {A = ℕ} 0 1 = cc in
    absurd (omega arith)
searched_stopped (refused p) {next} {w} {l} {s} h =
    let a : Err w ≡ Err (DrawOutOfRange p) = h.answer_is in
    let e : w ≡ DrawOutOfRange p = cc in
    (p, refl, e)

-- the same, by whether there is a best
pub searched_nothing : (D : Drawn Best) {next n : Source} {l : List ℕ} {s : List Float} → SearchedBy D next (searched n None) l s
    → (rest : List ℕ) × (D ≡ drawn nothing rest) × (n ≡ next)
searched_nothing D h = let v = searched_done D h in (v.0, v.2, v.1)

pub searched_found : (D : Drawn Best) {next n : Source} {a b : Float} {l : List ℕ} {s : List Float} → SearchedBy D next (searched n (kept_by a b)) l s
    → (c : candidates.Candidate) × (rest : List ℕ) × (D ≡ drawn (found c) rest) × (l ≡ c.labels) × (s ≡ c.scores) × (n ≡ next)
searched_found D {next} {n} {a} {b} {l} {s} h =
    let v = searched_done D h in
    (record { labels = l; scores = s; stat = a; mean = b }, v.0, v.2, refl, refl, v.1)

-- an answer with the best, and one that ends the run
pub done_by : (D : Drawn Best) (next n : Source) (kept : Option Kept) (l : List ℕ) (s : List Float) (rest : List ℕ) → D ≡ drawn (best_from kept l s) rest → n ≡ next → SearchedBy D next (searched n kept) l s
done_by D next n kept l s rest e q = record { answer_is = rw (e, q) (ap (searched next) (kept_is kept l s)); leaves = rw e (lists_are kept l s) }

pub stopped_by : (D : Drawn Best) (next : Source) (w : Stop) (l : List ℕ) (s : List Float) (p : ℕ) → D ≡ refused p → w ≡ DrawOutOfRange p → SearchedBy D next (Err w) l s
stopped_by D next w l s p e q = record { answer_is = rw (e, q) refl; leaves = rw e tt }

-- what the answer on one candidate says of it
pub tried_made : (D : Drawn candidates.Candidate) {next n : Source} {a b : Float} {l : List ℕ} {s : List Float} → TriedBy D next (made n a b) l s
    → (rest : List ℕ) × (n ≡ next) × (D ≡ drawn (record { labels = l; scores = s; stat = a; mean = b }) rest)
tried_made (drawn c rest) {next} {n} {a} {b} {l} {s} h =
    let p = made_parts n next a b c.stat c.mean h.answer_is in
    (rest, p.0, rw (p.1, p.2, h.written.0, h.written.1))
tried_made (refused p) {next} {n} {a} {b} {l} {s} h =
    let q : made n a b ≡ Err (DrawOutOfRange p) = h.answer_is in
    let z : ◌≡◌ {A = ℕ} 0 1 = cc in
    absurd (omega arith)

pub tried_refused : (D : Drawn candidates.Candidate) {next : Source} {w : Stop} {l : List ℕ} {s : List Float} → TriedBy D next (Err w) l s
    → (p : ℕ) × (D ≡ refused p) × (w ≡ DrawOutOfRange p)
tried_refused (drawn c rest) {next} {w} {l} {s} h =
    let q : Err w ≡ made next c.stat c.mean = h.answer_is in
    let z : ◌≡◌ {A = ℕ} 0 1 = cc in
    absurd (omega arith)
tried_refused (refused p) {next} {w} {l} {s} h =
    let q : Err w ≡ Err (DrawOutOfRange p) = h.answer_is in
    let e : w ≡ DrawOutOfRange p = cc in
    (p, refl, e)

pub refused_by : (D : Drawn candidates.Candidate) (next : Source) (w : Stop) (l : List ℕ) (s : List Float) (p : ℕ) → D ≡ refused p → w ≡ DrawOutOfRange p → TriedBy D next (Err w) l s
refused_by D next w l s p e q = record { answer_is = rw (e, q) refl; written = rw e tt }
