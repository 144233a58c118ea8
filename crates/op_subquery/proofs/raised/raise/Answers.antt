use Rattle.std.proofs.Common.{◌≤◌, ◌∙◌, ◌+◌, length, drop, sym, ap, arith}
use Rattle.std.specs.BTreeMap.{insert_entry}
use Rattle.op_subquery.specs.Raised.{raised_all}
use Rattle.op_subquery.proofs.Raising.{drop_item, drop_past}
use Rattle.op_subquery.proofs.raised.raise.Goals as goal

pub loop-mark-preserved : goal.loop-mark-preserved
loop-mark-preserved g c =
    let cmp = g.K.Ord.cmp in
    let n = c.loop-mark.mark-index in
    let d = c.mark-item.result in
    let marks = c.args.marks.now in
    ap (λ es. raised_all cmp es (drop (n + 1) marks) c.args.at) (c.in_ok-insert.ensures.entries ∙ ap (λ k. insert_entry cmp c.loop-mark.last.entries k c.args.at) (c.requires d c.in_ok-clone.field-0 c.in_ok-clone.ensures.cases))
    ∙ sym (ap (λ ms. raised_all cmp c.loop-mark.last.entries ms c.args.at) (drop_item marks n d c.loop-mark-test.true c.mark-item.is)) ∙ c.loop-mark.invariant

pub returns : goal.returns
returns g c =
    let n = c.loop-mark.mark-index in
    let marks = c.args.marks.now in
    let past : length marks ≤ n = omega (arith, c.loop-mark-test.false) in
    ap (λ ms. raised_all g.K.Ord.cmp c.loop-mark.last.entries ms c.args.at) (sym (drop_past marks n past)) ∙ c.loop-mark.invariant
