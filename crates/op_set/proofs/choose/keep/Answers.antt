use Rattle.std.proofs.Common.{◌∙◌, ◌++◌, ℕ, List, ap, sym, subst}
use Rattle.func_table.specs.declared.table.SetOp.{SetOp}
use Rattle.step_batch.specs.declared.steps.Slot.{Slot}
use Rattle.op_set.specs.Sides.{AreBelow, AreMarked, kept_rows, rows_kept}
use Rattle.op_set.specs.declared.choose.Chosen.TheVariants.{All, Marked, Unmarked}
use Rattle.op_set.proofs.Choosing.{kept_all, kept_marked, kept_unmarked}
use Rattle.op_set.proofs.choose.keep.Goals as goal

pub returns-in_ok-choose-in-And-clause-kept : goal.returns-in_ok-choose-in-And-clause-kept
returns-in_ok-choose-in-And-clause-kept c =
    let names = c.args.names.now in
    let left = c.args.left.now in
    let right = c.args.right.now in
    let marked = c.mark.new.marked in
    c.in_ok-choose-in-And.ensures ∙ ap (λ (z : List Slot). z ++ kept_rows Marked marked names.left left) c.clear.ensures.items
    ∙ kept_marked marked names.left names.right left right (subst (λ (n : ℕ). AreBelow n names.left.signed.places) (sym c.mark.ensures.count) c.requires.left_numbers) c.requires.left
    (subst (λ (z : List ℕ). AreMarked marked z right) c.places.ensures c.mark.ensures.marked)
    ∙ sym (ap (λ (o : SetOp). rows_kept o names.left names.right left right) c.in-And.is)

pub returns-in_ok-choose-in-Unless-clause-kept : goal.returns-in_ok-choose-in-Unless-clause-kept
returns-in_ok-choose-in-Unless-clause-kept c =
    let names = c.args.names.now in
    let left = c.args.left.now in
    let right = c.args.right.now in
    let marked = c.mark-in-Unless.new.marked in
    c.in_ok-choose-in-Unless.ensures ∙ ap (λ (z : List Slot). z ++ kept_rows Unmarked marked names.left left) c.clear.ensures.items
    ∙ kept_unmarked marked names.left names.right left right (subst (λ (n : ℕ). AreBelow n names.left.signed.places) (sym c.mark-in-Unless.ensures.count) c.requires.left_numbers) c.requires.left
    (subst (λ (z : List ℕ). AreMarked marked z right) c.places-in-Unless.ensures c.mark-in-Unless.ensures.marked)
    ∙ sym (ap (λ (o : SetOp). rows_kept o names.left names.right left right) c.in-Unless.is)

pub returns-in_ok-choose-in-Or-2-clause-kept : goal.returns-in_ok-choose-in-Or-2-clause-kept
returns-in_ok-choose-in-Or-2-clause-kept c =
    let names = c.args.names.now in
    let left = c.args.left.now in
    let right = c.args.right.now in
    let marked = c.mark-in-Or.new.marked in
    let first = c.in_ok-choose-in-Or.ensures ∙ ap (λ (z : List Slot). z ++ kept_rows All marked names.left left) c.clear.ensures.items ∙ kept_all marked names.left left in
    let more = kept_unmarked marked names.right names.left right left (subst (λ (n : ℕ). AreBelow n names.right.signed.places) (sym c.mark-in-Or.ensures.count) c.requires.right_numbers) c.requires.right
    (subst (λ (z : List ℕ). AreMarked marked z left) c.places-in-Or.ensures c.mark-in-Or.ensures.marked) in
    c.in_ok-choose-in-Or-2.ensures ∙ (λ j. first j ++ more j)
    ∙ sym (ap (λ (o : SetOp). rows_kept o names.left names.right left right) c.in-Or.is)
