-- What is printed, by what a text of the layout says. Assumes nothing.
use Prim.Native.Nat.{ℕ, ◌*◌, ◌≤◌}
use mathlib.Core.Path.{◌≡◌, refl, ◌∙◌, ap}
use mathlib.Core.List.{List, ◌++◌}
use native.Mathlib.Nat.{mul-le-mul}
use native.Mathlib.Omega.{arith}
use lib.ListN.{length, take, drop, replicate, length-replicate}
use lib.Seq.{take_at}
use lib.Ieee.{Float}
use Rattle.lists.specs.Lists.{listed}
use Rattle.lists.specs.Sums.{zero64}
use Rattle.lists.proofs.Listed.{listed_length}
use Rattle.bits.specs.Bits.{double_of}
use Rattle.text_request.specs.Request.{request_of}
use Rattle.text_request.specs.Written.{request_text}
use Rattle.text_request.specs.Claim.{Limits, InLayout}
use Rattle.text_request.proofs.Gives.{filled_of, as_filled}
use Rattle.text_request.proofs.Claim.{layout_claim}
use Rattle.text_answer.specs.Answer.{refused_text}
use Rattle.text_program.specs.Program.{book_text, text_of, program_of}
use Rattle.text_program.specs.Claim.{ProgramClaim}
use Rattle.text_program.proofs.Answers.{called}

-- the front of a list of which the first n places were filled
front : {A : Type 0} (f : ℕ → A) (n : ℕ) (l : List A) → take n (listed f n ++ drop n l) ≡ listed f n
front f n l = take_at (listed f n) (drop n l) n (listed_length f n refl)

module _ (n r d : ℕ) (cell width draw : ℕ → ℕ) (limits : Limits n r d cell width draw) where
  cells_fit : n * n ≤ length (replicate 144 zero64)
  cells_fit =
      let l = length-replicate {A = Float} 144 zero64 in omega (arith, l, mul-le-mul limits.names limits.names)

  draws_fit : d ≤ length {A = ℕ} (replicate 1024 0)
  draws_fit = let l = length-replicate {A = ℕ} 1024 0 in omega (arith, l, limits.count)

  is_read : request_of (request_text n r d cell width draw) (replicate 144 zero64) (replicate 1024 0) ≡ filled_of n r d cell draw (replicate 144 zero64) (replicate 1024 0)
  is_read =
      layout_claim.complete n r d cell width draw limits (replicate 144 zero64) (replicate 1024 0)
      ∙ as_filled n r d cell draw (replicate 144 zero64) (replicate 1024 0) cells_fit draws_fit

  proper : program_of (request_text n r d cell width draw) ≡ book_text n r (listed (λ t. double_of (cell t)) (n * n)) (listed draw d)
  unfolding program_of
  proper = ap text_of is_read ∙ rw (front (λ t. double_of (cell t)) (n * n) (replicate 144 zero64), front draw d (replicate 1024 0))

other : (s : List ℕ) → (InLayout s → ⊥) → program_of s ≡ refused_text 11 0
unfolding program_of
other s h = ap text_of (layout_claim.other s h (replicate 144 zero64) (replicate 1024 0))

pub program_claim : ProgramClaim
program_claim = record { proper = proper; other = other; called = called }
