use Rattle.std.proofs.Common.{◌≡◌, ◌+◌, ◌∙◌, ◌++◌, ap, append-nil, arith, slice_index_or, slice_set}
use Rattle.std.proofs.lemmas.List.{drop_all}
use Rattle.std.proofs.lemmas.List.Edits.{paste_all, paste_more}
use lib.Seq.{paste, paste-zero}
use Rattle.lists.proofs.copy.Goals as goal

pub loop-i-init : goal.loop-i-init
loop-i-init g c = paste-zero c.args.to.now 0 c.args.from.now

pub loop-i-preserved : goal.loop-i-preserved
loop-i-preserved g c =
    let l = c.loop-i in
    let xs = c.args.from.now in
    let x = c.index-from-i.result in
    let at : l.i ≡ 0 + l.i = omega arith in
    ap (λ y. slice_set l.to l.i y) c.index-from-i.is
    ∙ ap (λ t. slice_set t l.i (slice_index_or xs l.i x)) l.invariant
    ∙ ap (λ k. slice_set (paste c.args.to.now 0 xs l.i) k (slice_index_or xs l.i x)) at
    ∙ paste_more c.args.to.now 0 xs l.i x (omega arith) (omega arith)

pub returns-clause-after : goal.returns-clause-after
returns-clause-after g c =
    let n = c.loop-i.i in
    let xs = c.args.from.now in
    c.loop-i.invariant
    ∙ paste_all c.args.to.now 0 xs n (omega arith)
    ∙ ap (λ r. xs ++ r) (drop_all (0 + n) c.args.to.now (omega arith))
    ∙ append-nil xs
