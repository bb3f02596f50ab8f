-- The layout both ways. Assumes nothing.
use mathlib.Core.Path.{◌∙◌, ◌≡◌, ap, refl}
use Prim.Native.Nat.{ℕ}
use Rattle.std.specs.Prelude.{None, Option, Some}
use lib.Ieee.{Float}
use mathlib.Core.List.{List}
use Rattle.refusals.specs.Table.{refused}
use Rattle.text_request.specs.Request.{Requested, kept_lists, request_of}
use Rattle.text_request.specs.Claim.{InLayout, LayoutClaim}
use Rattle.text_layout.specs.Layout.{cell_form, draw_form, layout_found, layout_of, value_of}
use Rattle.text_layout.specs.declared.Layout.{Layout}
use Rattle.text_request.proofs.Gives.{fault_gives}
use Rattle.text_request.proofs.Sound.{sound, sound_limits, width_at}
use Rattle.text_request.proofs.Complete.{complete}
use Rattle.text_request.proofs.Lengths.{too_long}

-- what a layout that is found says
found_in : (s : List ℕ) (n r d p q : ℕ) → layout_of s ≡ layout_found n r d p q → InLayout s
found_in s n r d p q e =
    record {
      n = n;
      r = r;
      d = d;
      cell = value_of cell_form s p;
      width = width_at draw_form s q;
      draw = value_of draw_form s q;
      limits = sound_limits s n r d p q e;
      text = sound s n r d p q e;
    }

layout_sound : (s : List ℕ) (cells : List Float) (draws : List ℕ) (l : Option Layout) → layout_of s ≡ l → ((request_of s cells draws).answer.refused.number ≡ 11 → ⊥) → InLayout s
layout_sound s cells draws (Some l) e h = found_in s l.names l.repeats l.draws l.cells_at l.draws_at e
layout_sound s cells draws None e h = absurd (h (ap (λ (x : Requested). x.answer.refused.number) (fault_gives s cells draws e)))

layout_other : (s : List ℕ) (l : Option Layout) → layout_of s ≡ l → (InLayout s → ⊥) → (cells : List Float) (draws : List ℕ) → request_of s cells draws ≡ kept_lists (refused 11) cells draws
layout_other s (Some l) e h cells draws = absurd (h (found_in s l.names l.repeats l.draws l.cells_at l.draws_at e))
layout_other s None e h cells draws = fault_gives s cells draws e

pub layout_claim : LayoutClaim
layout_claim =
    record {
      complete = λ n r d cell width draw h cells draws. complete n r d cell width draw h cells draws;
      sound = λ s cells draws h. layout_sound s cells draws (layout_of s) refl h;
      values = λ s l cells draws. ap (λ (x : List ℕ). request_of x cells draws) l.text ∙ complete l.n l.r l.d l.cell l.width l.draw l.limits cells draws;
      other = λ s h cells draws. layout_other s (layout_of s) refl h cells draws;
      long = λ s h cells draws. fault_gives s cells draws (too_long s h);
    }
