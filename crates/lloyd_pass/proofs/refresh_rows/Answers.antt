use mathlib.Core.Path.{◌∙◌, ◌≡◌, ap, sym}
use mathlib.Core.Bool.{Bool, false}
use mathlib.Core.List.{List}
use Prim.Native.Nat.{ℕ}
use native.Mathlib.Omega.{arith}
use lib.ListN.{length}
use Rattle.lloyd_members.specs.Members.{mark_at, moved_mark}
use Rattle.lloyd_table.proofs.Steps.{kept_step}
use Rattle.lloyd_pass.proofs.Turn.{kept_later, midway_more, midway_none}
use Rattle.lists.specs.Lists.{numbers}
use Rattle.lists.specs.Sums.{group_size}
use Rattle.lloyd_table.specs.Area.{Held}
use Rattle.lloyd_table.proofs.Rows.{held_kept}
use Rattle.lloyd_members.proofs.Tallies.{not_moved}
use Rattle.lists.proofs.Listed.{get_d_listed}
use Rattle.lloyd_pass.proofs.refresh_rows.Goals as goal
use Rattle.lloyd_pass.proofs.refresh_rows.Goals.{In-loop-l}

-- the size of a group, and the mark that an item joined or left it
size_is : (c : In-loop-l) → numbers c.group_sizes.new.sizes c.loop-l.l ≡ group_size (numbers c.args.labels.now) (length c.args.labels.now) c.loop-l.l
size_is c =
    let p = c.requires.len in
    ap (λ (x : List ℕ). numbers x c.loop-l.l) c.group_sizes.ensures
    ∙ get_d_listed (group_size (numbers c.args.labels.now) (length c.args.labels.now)) (length c.args.sizes.now) c.loop-l.l 0 (omega (arith, c.loop-l-test.true, p.1, p.4))

mark_is : (c : In-loop-l) → mark_at c.mark_moved.new.marks c.loop-l.l ≡ moved_mark c.args.old.now c.args.labels.now (length c.args.labels.now) c.loop-l.l
mark_is c =
    let p = c.requires.len in
    ap (λ (x : List Bool). mark_at x c.loop-l.l) c.mark_moved.ensures
    ∙ get_d_listed (moved_mark c.args.old.now c.args.labels.now (length c.args.labels.now)) (length c.args.marks.now) c.loop-l.l false (omega (arith, c.loop-l-test.true, p.1, p.5))

-- the areas but for the table are as they were
held : (c : In-loop-l) → Held c.loop-l.area (length c.args.labels.now)
held c = held_kept (length c.args.labels.now) c.loop-l.area c.args.area.now c.loop-l.auto.area c.loop-l.invariant.same c.requires.held

pub loop-l-init : goal.loop-l-init
loop-l-init c = midway_none _ _ _ _ c.requires.len.2

pub loop-l-preserved-then-keeps_row : goal.loop-l-preserved-then-keeps_row
loop-l-preserved-then-keeps_row c =
    let w = c.loop-l.invariant in
    let at = (goal.at.loop-l-preserved-then-keeps_row c).In-loop-l in
    let k = not_moved c.args.old.now c.args.labels.now (length c.args.labels.now) c.loop-l.l (size_is at) (mark_is at) (sym c.keeps_row.ensures ∙ c.if-keeps_row.true) in
    midway_more w c.requires.held.some (kept_step (held at) _ _ (omega (arith, c.loop-l-test.true, c.requires.len.1)) c.args.old.now k.0 k.1 (kept_later w c.args.old.now (c.requires.by_index c.loop-l.l c.loop-l-test.true)))

pub refresh_group-requires : goal.refresh_group-requires
refresh_group-requires c =
    let at = (goal.at.refresh_group-requires c).In-loop-l in
    record {
      held = held at;
      l_in_bounds = (omega (arith, c.loop-l-test.true, c.requires.len.1), omega arith, omega arith, size_is at);
    }

pub loop-l-preserved : goal.loop-l-preserved
loop-l-preserved c = midway_more c.loop-l.invariant c.requires.held.some c.refresh_group.ensures
