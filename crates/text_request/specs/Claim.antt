-- The layout both ways, for `layout_claim` of proofs/Claim: every text that is written in it is read as what it says, and nothing else is read. Definitions only.
use Rattle.std.specs.Prelude.{ℕ, ◌*◌, ◌^◌, ◌<◌, ◌≤◌, ◌≡◌, List, length, Float}
use Rattle.refusals.specs.Table.{refused}
use Rattle.text_request.specs.Request.{kept_lists, read_as, request_of}
use Rattle.text_request.specs.Written.{request_text}

-- what a text of the layout may say: n names, r repeats, d draws, the bits of the cells, and draw t with width t digits
pub record Limits (n r d : ℕ) (cell width draw : ℕ → ℕ) : Type 0 where
  pub names : n ≤ 12
  pub repeats : r < 2 ^ 32
  pub count : d ≤ 1024
  pub bits : (t : ℕ) → t < n * n → cell t < 2 ^ 64
  pub least : (t : ℕ) → t < d → 1 ≤ width t
  pub most : (t : ℕ) → t < d → width t ≤ 19
  pub fits : (t : ℕ) → t < d → draw t < 10 ^ width t

-- s is a text of the layout: what it says
pub record InLayout (s : List ℕ) : Type 0 where
  pub n : ℕ
  pub r : ℕ
  pub d : ℕ
  pub cell : ℕ → ℕ
  pub width : ℕ → ℕ
  pub draw : ℕ → ℕ
  pub limits : Limits n r d cell width draw
  pub text : s ≡ request_text n r d cell width draw

pub record LayoutClaim : Type 0 where
  -- a text of the layout is read as what it says
  pub complete : (n r d : ℕ) (cell width draw : ℕ → ℕ) → Limits n r d cell width draw → (cells : List Float) (draws : List ℕ)
      → request_of (request_text n r d cell width draw) cells draws ≡ read_as n r d cell draw cells draws
  -- a text that is not refused by 11 is in the layout, and is read as what it says
  pub sound : (s : List ℕ) (cells : List Float) (draws : List ℕ) → ((request_of s cells draws).answer.refused.number ≡ 11 → ⊥) → InLayout s
  pub values : (s : List ℕ) (l : InLayout s) (cells : List Float) (draws : List ℕ)
      → request_of s cells draws ≡ read_as l.n l.r l.d l.cell l.draw cells draws
  -- every other text is refused by 11, with both lists as they were
  pub other : (s : List ℕ) → (InLayout s → ⊥) → (cells : List Float) (draws : List ℕ) → request_of s cells draws ≡ kept_lists (refused 11) cells draws
  -- and so is a text of more than 22,990 bytes
  pub long : (s : List ℕ) → 22990 < length s → (cells : List Float) (draws : List ℕ) → request_of s cells draws ≡ kept_lists (refused 11) cells draws
