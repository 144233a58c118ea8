use Rattle.std.proofs.Common.{◌≡◌, ◌∙◌, ◌≤◌, arith, false, length, sym, subst}
use Rattle.std.specs.List.{list_any}
use Rattle.label_set.specs.LabelEquality.{labels_eq}
use Rattle.step_batch.specs.LentWindows.{WindowsAt, names_of}
use Rattle.step_put.specs.Feeding.{some_here, whole}
use Rattle.op_labels.proofs.Passing.{begun, fresh_at, stayed_more, stayed_whole}
use Rattle.op_labels.proofs.passing_windows.pass_all.Goals as goal

pub loop-i-init : goal.loop-i-init
loop-i-init c =
    let passed = c.begin.new.self in
    begun c.args.fates.now c.args.windows.now passed c.unite.new.self c.at.result c.marks.result.now c.begin.ensures c.at.ensures c.marks.ensures c.in_ok-unite.ensures.ok

pub fate_at-fate-requires : goal.fate_at-fate-requires
fate_at-fate-requires c = omega (arith, c.requires, c.len-i-end.ensures.len, c.loop-i-test.true)

pub pass-requires : goal.pass-requires
pass-requires c =
    let i = c.loop-i.i in
    let rows = c.args.windows.now.rows in
    record {
      here = omega (arith, c.len-i-end.ensures.len, c.loop-i-test.true);
      fresh = λ w e. subst (λ (z : WindowsAt). list_any (labels_eq w.labels) (names_of z.rows) ≡ false) (sym c.loop-i.invariant) (fresh_at c.args.fates.now rows i w c.len-i-end.ensures.lent.distinct e);
    }

pub loop-i-preserved : goal.loop-i-preserved
loop-i-preserved c =
    let i = c.loop-i.i in
    let rows = c.args.windows.now.rows in
    let w = some_here rows i (omega (arith, c.len-i-end.ensures.len, c.loop-i-test.true)) in
    stayed_more c.args.fates.now c.args.windows.now c.loop-i.passed c.pass.new.passed i c.fate_at-fate.result w.0 c.fate_at-fate.ensures w.1 c.loop-i.invariant (c.in_ok-pass.ensures w.0 w.1)

pub returns : goal.returns
returns c =
    let i = c.loop-i.i in
    let rows = c.args.windows.now.rows in
    let l : length rows ≤ i = omega (arith, c.len-i-end.ensures.len, c.loop-i-test.false) in
    c.loop-i.invariant ∙ stayed_whole c.args.fates.now c.args.windows.now i l (omega (arith, l, c.requires))
