-- What is printed, by what a text of the layout says: `program_claim` of proofs/Claim proves it. Definitions only.
use Rattle.std.specs.Prelude.{ℕ, ◌*◌, ◌≡◌, Bool, true, cond, List, eqb, length, Float}
use Rattle.lists.specs.Lists.{listed}
use Rattle.bits.specs.Bits.{double_of}
use Rattle.partition.specs.Partition.{label_of}
use Rattle.partition.specs.Orders.{cut}
use Rattle.onc_checks.specs.Checks.{lists_fit}
use Rattle.onc_run.specs.Run.{Lists, Outcome}
use Rattle.onc.specs.Onc.{group_of}
use Rattle.text_request.specs.Written.{request_text}
use Rattle.text_request.specs.Claim.{Limits, InLayout}
use Rattle.text_answer.specs.Answer.{grouped_text, refused_text}
use Rattle.text_program.specs.Program.{book_text, program_of}

-- what a call of the grouping answers and leaves, as a text: the label of each name from the order and the sizes of the groups
abbrev pub outcome_text : ℕ → Outcome → List ℕ
outcome_text n o =
    cond (eqb o.answer.refused.number 0)
    (grouped_text o.answer.groups o.answer.read (listed (label_of (cut o.answer.groups o.lists.sizes o.lists.order)) n) o.lists.scores)
    (refused_text o.answer.refused.number o.answer.refused.place)

-- outputs of the lengths for n names, and lists to work in of at least theirs
abbrev pub lent_for : ℕ → Lists → Bool
lent_for n l = lists_fit n (length l.order) (length l.sizes) (length l.scores) (length l.ordered) (length l.floats) (length l.numbers)

pub record ProgramClaim : Type 0 where
  -- a text of the layout: the grouping of the book whose cells have these bits, by these draws
  pub proper : (n r d : ℕ) (cell width draw : ℕ → ℕ) → Limits n r d cell width draw
      → program_of (request_text n r d cell width draw) ≡ book_text n r (listed (λ t. double_of (cell t)) (n * n)) (listed draw d)
  -- every other text: refused with 11, whatever else could be said of it
  pub other : (s : List ℕ) → (InLayout s → ⊥) → program_of s ≡ refused_text 11 0
  -- the grouping of a book is that of the public call, with any lists of the right lengths
  pub called : (n repeats : ℕ) (book : List Float) (draws : List ℕ) (l : Lists)
      → lent_for n l ≡ true
      → book_text n repeats book draws ≡ outcome_text n (group_of book n n repeats draws l)
