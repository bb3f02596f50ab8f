-- What is printed, by the answer and the lists of a request that was read. Assumes nothing.
use Prim.Native.Nat.{ℕ, ◌*◌, ◌≤◌}
use mathlib.Core.Path.{◌≡◌, sym, ◌∙◌, ap}
use mathlib.Core.List.{List}
use native.Mathlib.Nat.{mul-le-mul}
use native.Mathlib.Omega.{arith}
use lib.ListN.{length, take, replicate, length-replicate}
use lib.Ieee.{Float}
use Rattle.std.specs.Prelude.{Err, Ok, Result}
use Rattle.lists.specs.Sums.{zero64}
use Rattle.text_request.specs.Request.{Requested, answer_of, request_of}
use Rattle.text_request.specs.declared.Request.{Request}
use Rattle.text_request.specs.declared.RequestError.{RequestError}
use Rattle.text_request.specs.declared.RequestError.TheVariants.{ListLength, Fault}
use Rattle.text_layout.proofs.Found.{Within}
use Rattle.text_request.proofs.Gives.{read_within}
use Rattle.text_answer.specs.Answer.{refused_text}
use Rattle.text_program.specs.Program.{book_text, text_for, text_of, program_of}

module _ (s : List ℕ) {cells cells' : List Float} {draws draws' : List ℕ} (c : cells ≡ replicate 144 zero64) (d : draws ≡ replicate 1024 0) (a : Result Request RequestError)
    (is : ◌≡◌ {A = Requested} (record { answer = answer_of a; cells = cells'; draws = draws' }) (request_of s cells draws)) where
  printed : text_for (answer_of a) cells' draws' ≡ program_of s
  unfolding program_of
  printed = ap text_of is ∙ rw (c, d)

  pub fault_text : a ≡ Err Fault → refused_text 11 0 ≡ program_of s
  fault_text e = rw e at printed

  pub short_text : a ≡ Err ListLength → refused_text 6 0 ≡ program_of s
  short_text e = rw e at printed

  module _ (r : Request) (e : a ≡ Ok r) where
    pub book_text_lem : book_text r.names r.repeats (take (r.names * r.names) cells') (take r.draws draws') ≡ program_of s
    book_text_lem = rw e at printed

    -- the sizes that were read are within the limits of the layout
    pub within : Within r.names r.repeats r.draws
    within = read_within s cells draws r.names r.repeats r.draws (sym (ap (λ (q : Requested). q.answer) is) ∙ ap answer_of e)

    pub cells_fit : length cells' ≡ length cells → r.names * r.names ≤ length cells'
    cells_fit k =
        let l : length cells ≡ 144 = ap length c ∙ length-replicate {A = Float} 144 zero64 in
        omega (arith, k, l, mul-le-mul within.names within.names)

    pub draws_fit : length draws' ≡ length draws → r.draws ≤ length draws'
    draws_fit k =
        let l : length draws ≡ 1024 = ap length d ∙ length-replicate {A = ℕ} 1024 0 in
        omega (arith, k, l, within.draws)
